-- What the sum of two sided bodies answers on its flats and ridges, from the answers of the parts.
use Rattle.std.proofs.Common.{◌≡◌, ℕ, ◌+◌, ◌-◌, ◌*◌, ◌/◌, ◌%◌, ◌<◌, ◌≤◌, true, cond, ◌&&◌, leb, List, ◌++◌, length, get_or, Ok, Err, Result, sym, refl, ap, ◌∙◌, subst, inl, inr, arith}
use Rattle.std.proofs.lemmas.List.{length-append}
use Rattle.std.proofs.lemmas.Bool.{cond-true, cond-false, cases_Bool}
use Rattle.vector.specs.declared.Vector.{Vector}
use Rattle.vector.specs.Vectors.{◌⨯◌, negᵛ, within, 𝟎}
use Rattle.vector.specs.Wrapped.{wrappedᵛ}
use Rattle.vector.proofs.Exact.{cross-within, cross_exact, neg_exact}
use Rattle.convex.specs.Sides.{products, sum_flats}
use Rattle.convex.proofs.Numbering.{length-products}
use Rattle.body.specs.Meaning.{Meaning, unfit, corners, Sound}
use Rattle.body.specs.Sides.{Sides, unlisted, listed, Bounded}
use Rattle.body.specs.Answers.{numbered, flat_count_answer, flat_answer, ridge_count_answer, ridge_answer}
use Rattle.body.proofs.Numbered.{no_ok, same_ok, numbered_past, numbered_left, numbered_right, told_entry, told_past, told_all}
use Rattle.sums.specs.declared.listing.Counts.{Counts}
use Rattle.sums.specs.declared.listing.Listing.{Listing}
use Rattle.sums.specs.Sums.{sum_meaning, sum_sides, counts_of, counts_answer, listing_answer, product_count, flat_count, ridge_count, is_few, product_answer}
use Rattle.sums.proofs.Numbering.{row_below, column_below, half, numbered_product, numbered_opposite}
use Rattle.sums.proofs.Corners.{Told, fit_told}

-- ---- what the counts of a part tell
record Counted (a : Sides) (x : Counts) : Type 0 where
  flats : List Vector
  ridges : List Vector
  is : a ≡ listed flats ridges
  counts : x ≡ counts_of flats ridges

counted : (m : Meaning) (a : Sides) (x : Counts) → Ok x ≡ counts_answer m a → Counted a x
counted unfit a x h = no_ok x 13 h
counted (corners cs) unlisted x h = no_ok x 16 h
counted (corners cs) (listed fs rs) x h = record { flats = fs; ridges = rs; is = refl; counts = same_ok h }

flat_total : (fs rs gs ts : List Vector) → length (sum_flats fs rs gs ts) ≡ length fs + length gs + 2 * (length rs * length ts)
flat_total fs rs gs ts = omega (arith, length-append (fs ++ gs) (products rs ts), length-append fs gs, length-products rs ts)

abbrev listing : Counts → Counts → Listing
listing x y = record { first = x; second = y }

-- the listing of a fit sum, from the counts of its parts
module _ (m o : Meaning) (t : Told m o) (a b : Sides) (x y : Counts) (h : Ok x ≡ counts_answer m a) (k : Ok y ≡ counts_answer o b) where
  pub listing_is : listing_answer (sum_meaning m o) a b ≡ cond (is_few (listing x y)) (Ok (listing x y)) (Err 16)
  listing_is =
      let p = counted m a x h in
      let q = counted o b y k in
      let fs = p.flats in
      let rs = p.ridges in
      let gs = q.flats in
      let ts = q.ridges in
      (λ i. listing_answer (t.is i) (p.is i) (q.is i))
      ∙ (λ i. cond (leb (flat_total fs rs gs ts i) 20000 && leb (length-append rs ts i) 1000) (Ok (listing (counts_of fs rs) (counts_of gs ts))) (Err 16))
      ∙ sym (λ i. cond (is_few (listing (p.counts i) (q.counts i))) (Ok (listing (p.counts i) (q.counts i))) (Err 16))

-- ---- what the listing of a sum tells
pub record Lists (a b : Sides) (l : Listing) : Type 0 where
  pub fs : List Vector
  pub rs : List Vector
  pub gs : List Vector
  pub ts : List Vector
  pub first : a ≡ listed fs rs
  pub second : b ≡ listed gs ts
  pub counts : l ≡ listing (counts_of fs rs) (counts_of gs ts)
  pub is : sum_sides a b ≡ listed (sum_flats fs rs gs ts) (rs ++ ts)

pub lists_told : (m : Meaning) (a b : Sides) (l : Listing) → Ok l ≡ listing_answer m a b → Lists a b l
lists_told unfit a b l h = no_ok l 13 h
lists_told (corners cs) unlisted b l h = no_ok l 16 h
lists_told (corners cs) (listed fs rs) unlisted l h = no_ok l 16 h
lists_told (corners cs) (listed fs rs) (listed gs ts) l h =
    let few = leb (length (sum_flats fs rs gs ts)) 20000 && leb (length (rs ++ ts)) 1000 in
    let all = listing (counts_of fs rs) (counts_of gs ts) in
    elim (cases_Bool few) [
      | inl e ↦ record {
        fs = fs;
        rs = rs;
        gs = gs;
        ts = ts;
        first = refl;
        second = refl;
        counts = same_ok (h ∙ cond-true few (Ok all) (Err 16) e);
        is = cond-true few (listed (sum_flats fs rs gs ts) (rs ++ ts)) unlisted e;
      }
      | inr e ↦ no_ok l 16 (h ∙ cond-false few (Ok all) (Err 16) e)
    ]

-- a sum that does not list its own refuses each question on flats and ridges alike
pub no_listing : {A : Type 0} (ask : Meaning → Sides → Result A ℕ) → ((s : Sides) → ask unfit s ≡ Err 13) → ((cs : List Vector) → ask (corners cs) unlisted ≡ Err 16)
    → (m : Meaning) (a b : Sides) (e : ℕ) → Err e ≡ listing_answer m a b → Err e ≡ ask m (sum_sides a b)
no_listing {A} ask no_body no_sides m a b e h = go m a b h
  where
    same : (n : ℕ) → ◌≡◌ {A = Result Listing ℕ} (Err e) (Err n) → ◌≡◌ {A = Result A ℕ} (Err e) (Err n)
    same n p = let q : e ≡ n = cc in ap Err q

    go : (m : Meaning) (a b : Sides) → Err e ≡ listing_answer m a b → Err e ≡ ask m (sum_sides a b)
    go unfit a b h = same 13 h ∙ sym (no_body (sum_sides a b))
    go (corners cs) unlisted b h = same 16 h ∙ sym (no_sides cs)
    go (corners cs) (listed fs rs) unlisted h = same 16 h ∙ sym (no_sides cs)
    go (corners cs) (listed fs rs) (listed gs ts) h =
        let few = leb (length (sum_flats fs rs gs ts)) 20000 && leb (length (rs ++ ts)) 1000 in
        let all = listing (counts_of fs rs) (counts_of gs ts) in
        let F = sum_flats fs rs gs ts in
        elim (cases_Bool few) [
          | inl t ↦ no_ok all e (sym (h ∙ cond-true few (Ok all) (Err 16) t))
          | inr f ↦ same 16 (h ∙ cond-false few (Ok all) (Err 16) f) ∙ sym (ap (ask (corners cs)) (cond-false few (listed F (rs ++ ts)) unlisted f) ∙ no_sides cs)
        ]

-- and a sum that lists its own is fit
pub told_by_listing : (m o : Meaning) → Sound m → Sound o → (a b : Sides) (l : Listing) → Ok l ≡ listing_answer (sum_meaning m o) a b → Told m o
told_by_listing m o s u a b l h = fit_told m o s u (λ e. no_ok l 13 (h ∙ ap (λ (x : Meaning). listing_answer x a b) e))

-- ---- by number: the lists of the parts, one after the other
module _ (m o : Meaning) (s : Sound m) (s' : Sound o) (a b : Sides) (l : Listing) (told : Ok l ≡ listing_answer (sum_meaning m o) a b) where
  abbrev t : Told m o
  t = told_by_listing m o s s' a b l told

  abbrev k : Lists a b l
  k = lists_told (sum_meaning m o) a b l told

  abbrev F : List Vector
  F = sum_flats k.fs k.rs k.gs k.ts

  pub sum_flat_count : Ok (flat_count l) ≡ flat_count_answer (sum_meaning m o) (sum_sides a b)
  sum_flat_count =
      ap (λ (x : Listing). Ok (flat_count x)) k.counts
      ∙ ap Ok (sym (flat_total k.fs k.rs k.gs k.ts)) ∙ sym (λ i. flat_count_answer (t.is i) (k.is i))

  pub sum_ridge_count : Ok (ridge_count l) ≡ ridge_count_answer (sum_meaning m o) (sum_sides a b)
  sum_ridge_count = ap (λ (x : Listing). Ok (ridge_count x)) k.counts ∙ ap Ok (sym (length-append k.rs k.ts)) ∙ sym (λ i. ridge_count_answer (t.is i) (k.is i))

  pub ridge_of_first : (i : ℕ) → i < l.first.ridges → ridge_answer m a i ≡ ridge_answer (sum_meaning m o) (sum_sides a b) i
  ridge_of_first i h =
      (λ x. ridge_answer (t.first.is x) (k.first x) i) ∙ sym (numbered_left k.rs k.ts i (subst (λ (x : Listing). i < x.first.ridges) k.counts h)) ∙ sym (λ x. ridge_answer (t.is x) (k.is x) i)

  pub ridge_of_second : (i : ℕ) → l.first.ridges ≤ i → ridge_answer o b (i - l.first.ridges) ≡ ridge_answer (sum_meaning m o) (sum_sides a b) i
  ridge_of_second i h =
      (λ x. ridge_answer (t.second.is x) (k.second x) (i - (k.counts x).first.ridges)) ∙ sym (numbered_right k.rs k.ts i (subst (λ (x : Listing). x.first.ridges ≤ i) k.counts h)) ∙ sym (λ x. ridge_answer (t.is x) (k.is x) i)

  flat_by_number : (i : ℕ) → numbered F i ≡ flat_answer (sum_meaning m o) (sum_sides a b) i
  flat_by_number i = sym (λ x. flat_answer (t.is x) (k.is x) i)

  pub flat_of_first : (i : ℕ) → i < l.first.flats → flat_answer m a i ≡ flat_answer (sum_meaning m o) (sum_sides a b) i
  flat_of_first i h =
      let h' : i < length k.fs = subst (λ (x : Listing). i < x.first.flats) k.counts h in
      (λ x. flat_answer (t.first.is x) (k.first x) i) ∙ sym (numbered_left (k.fs ++ k.gs) (products k.rs k.ts) i (omega (arith, length-append k.fs k.gs)) ∙ numbered_left k.fs k.gs i h') ∙ flat_by_number i

  pub flat_of_second : (i : ℕ) → l.first.flats ≤ i → i - l.first.flats < l.second.flats → flat_answer o b (i - l.first.flats) ≡ flat_answer (sum_meaning m o) (sum_sides a b) i
  flat_of_second i h j =
      let h' : length k.fs ≤ i = subst (λ (x : Listing). x.first.flats ≤ i) k.counts h in
      let j' : i - length k.fs < length k.gs = subst (λ (x : Listing). i - x.first.flats < x.second.flats) k.counts j in
      (λ x. flat_answer (t.second.is x) (k.second x) (i - (k.counts x).first.flats))
      ∙ sym (numbered_left (k.fs ++ k.gs) (products k.rs k.ts) i (omega (arith, length-append k.fs k.gs)) ∙ numbered_right k.fs k.gs i h') ∙ flat_by_number i

  pub flat_of_products : (i : ℕ) → l.first.flats ≤ i → l.second.flats ≤ i - l.first.flats → product_answer a b (i - l.first.flats - l.second.flats) ≡ flat_answer (sum_meaning m o) (sum_sides a b) i
  flat_of_products i h j =
      let h' : length k.fs ≤ i = subst (λ (x : Listing). x.first.flats ≤ i) k.counts h in
      let j' : length k.gs ≤ i - length k.fs = subst (λ (x : Listing). x.second.flats ≤ i - x.first.flats) k.counts j in
      let e : i - length (k.fs ++ k.gs) ≡ i - length k.fs - length k.gs = omega (arith, length-append k.fs k.gs) in
      (λ x. product_answer (k.first x) (k.second x) (i - (k.counts x).first.flats - (k.counts x).second.flats))
      ∙ sym (numbered_right (k.fs ++ k.gs) (products k.rs k.ts) i (omega (arith, length-append k.fs k.gs)) ∙ ap (numbered (products k.rs k.ts)) e) ∙ flat_by_number i

  -- ---- the products of ridges
  module _ (n : ℕ) where
    pub product_past : product_count l ≤ n → Err 14 ≡ product_answer a b n
    product_past h =
        let h' : 2 * (length k.rs * length k.ts) ≤ n = subst (λ (x : Listing). product_count x ≤ n) k.counts h in
        sym ((λ x. product_answer (k.first x) (k.second x) n) ∙ numbered_past (products k.rs k.ts) n (omega (arith, length-products k.rs k.ts)))

    module _ (h : n < product_count l) where
      abbrev below : n < 2 * (length k.rs * length k.ts)
      below = subst (λ (x : Listing). n < product_count x) k.counts h

      -- the ridge of the row is there
      pub no_row : {Z : Type 0} (e : ℕ) → Err e ≡ ridge_answer m a (n / 2 / l.second.ridges) → Z
      no_row e q = absurd (omega (
        arith,
        (told_past k.rs (n / 2 / length k.ts) e (q ∙ (λ x. ridge_answer (t.first.is x) (k.first x) (n / 2 / (k.counts x).second.ridges)))).0,
        row_below (length k.rs) (length k.ts) (n / 2) (half k.rs k.ts n below),
      ))

      -- and that of the column
      pub no_column : {Z : Type 0} (e : ℕ) → Err e ≡ ridge_answer o b (n / 2 % l.second.ridges) → Z
      no_column e q = absurd (omega (
        arith,
        (told_past k.ts (n / 2 % length k.ts) e (q ∙ (λ x. ridge_answer (t.second.is x) (k.second x) (n / 2 % (k.counts x).second.ridges)))).0,
        column_below (length k.rs) (length k.ts) (n / 2) (half k.rs k.ts n below),
      ))

      module _ (f : Bounded a) (g : Bounded b) (u v w : Vector) (p : Ok u ≡ ridge_answer m a (n / 2 / l.second.ridges)) (q : Ok v ≡ ridge_answer o b (n / 2 % l.second.ridges)) (c : w ≡ wrappedᵛ (u ⨯ v)) where
        row : Ok u ≡ numbered k.rs (n / 2 / length k.ts)
        row = p ∙ (λ x. ridge_answer (t.first.is x) (k.first x) (n / 2 / (k.counts x).second.ridges))

        column : Ok v ≡ numbered k.ts (n / 2 % length k.ts)
        column = q ∙ (λ x. ridge_answer (t.second.is x) (k.second x) (n / 2 % (k.counts x).second.ridges))

        u_within : within 20000 u ≡ true
        u_within = told_all (λ x. within 20000 x ≡ true) k.rs (subst Bounded k.first f).ridges_within (n / 2 / length k.ts) u row

        v_within : within 20000 v ≡ true
        v_within = told_all (λ x. within 20000 x ≡ true) k.ts (subst Bounded k.second g).ridges_within (n / 2 % length k.ts) v column

        w_is : w ≡ u ⨯ v
        w_is = c ∙ cross_exact u v u_within v_within

        listed_is : w ≡ get_or k.rs (n / 2 / length k.ts) 𝟎 ⨯ get_or k.ts (n / 2 % length k.ts) 𝟎
        listed_is = w_is ∙ (λ x. (told_entry k.rs (n / 2 / length k.ts) u row).1 x ⨯ (told_entry k.ts (n / 2 % length k.ts) v column).1 x)

        pub product_even : n % 2 ≡ 0 → Ok w ≡ product_answer a b n
        product_even e = ap Ok listed_is ∙ sym (numbered_product k.rs k.ts n below e) ∙ sym (λ x. product_answer (k.first x) (k.second x) n)

        pub product_odd : ¬ (n % 2 ≡ 0) → (z : Vector) → z ≡ wrappedᵛ (negᵛ w) → Ok z ≡ product_answer a b n
        product_odd e z d =
            ap Ok (d ∙ neg_exact w (subst (λ (x : Vector). within 800000000 x ≡ true) (sym w_is) (cross-within u v u_within v_within)) ∙ ap negᵛ listed_is)
            ∙ sym (numbered_opposite k.rs k.ts n below e) ∙ sym (λ x. product_answer (k.first x) (k.second x) n)
