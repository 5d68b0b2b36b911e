-- What the sum of two bodies answers on its corners, from the answers of the parts.
use Rattle.std.proofs.Common.{◌≡◌, ℕ, suc, ◌+◌, ◌*◌, ◌/◌, ◌%◌, ◌<◌, ◌≤◌, true, false, ◌&&◌, leb, List, length, get_or, ◌+ℤ◌, ◌≤ℤ◌, ◌<ℤ◌, Ok, Err, Result, sym, refl, ap, ◌∙◌, subst, inl, inr, suc-mul, mul_comm, arith}
use Rattle.std.proofs.lemmas.Nat.{mul-add-lt, mul-le, mul-lt}
use Rattle.std.proofs.lemmas.Bool.{and_parts, and_left, and_right, lt-leb, cond-true, cases_Bool, cases_order}
use Rattle.vector.specs.declared.Vector.{Vector}
use Rattle.vector.specs.Vectors.{vector, ◌·◌, ◌+ᵛ◌, within, 𝟎}
use Rattle.vector.specs.Wrapped.{wrappedᵛ}
use Rattle.vector.proofs.Order.{lin}
use Rattle.vector.proofs.Bounds.{within_wider}
use Rattle.vector.proofs.Exact.{plus_exact}
use Rattle.vector.proofs.Identities.{dot-plus}
use Rattle.convex.specs.Products.{greatest, least}
use Rattle.convex.specs.Sides.{sums}
use Rattle.convex.proofs.Extremes.{greatest-sums, least-sums}
use Rattle.convex.proofs.Numbering.{length-sums, get_or-sums}
use Rattle.body.specs.declared.extent.Extent.{Extent}
use Rattle.body.specs.Meaning.{Meaning, unfit, corners, reached, fits, body_of, Sound}
use Rattle.body.specs.Extents.{x⁺, y⁺, z⁺, extent, extent_of, extent_reached, farthest}
use Rattle.body.specs.Answers.{count_answer, corner_answer, extent_answer, farthest_answer, reached_answer}
use Rattle.body.specs.Theorems.{Farthest}
use Rattle.body.proofs.Numbered.{no_ok, same_ok}
use Rattle.body.proofs.Told.{corners_in, Fit, fit, told_count, told_corner, told_extent, told_farthest, farthest_refused, no_corner_missing, body_fit, body_unfit}
use Rattle.body.proofs.Extents.{extent_near, decided}
use Rattle.body.proofs.Farthest.{is_farthest, farthest_is}
use Rattle.sums.specs.Sums.{sum_meaning}
use Rattle.sums.proofs.Numbering.{row_below, column_below, row_column, numbered-sums}

-- ---- lists of corners
module _ (A B : List Vector) (some_first : 1 ≤ length A) (some_second : 1 ≤ length B) where
  pub extent_sums : extent ((extent_of A).least +ᵛ (extent_of B).least) ((extent_of A).greatest +ᵛ (extent_of B).greatest) ≡ extent_of (sums A B)
  extent_sums i = extent (vector (low x⁺ i) (low y⁺ i) (low z⁺ i)) (vector (high x⁺ i) (high y⁺ i) (high z⁺ i))
    where
      low : (a : Vector) → least a A +ℤ least a B ≡ least a (sums A B)
      low a = sym (least-sums a A B some_first some_second)

      high : (a : Vector) → greatest a A +ℤ greatest a B ≡ greatest a (sums A B)
      high a = sym (greatest-sums a A B some_first some_second)

-- the farthest corner of a sum is the sum of the farthest corners
module _ (n : Vector) (A B : List Vector) (i j : ℕ) (f : Farthest n A i) (g : Farthest n B j) where
  place_below : i * length B + j < length A * length B
  place_below = omega (arith, mul-add-lt i (length B) j (length A) f.below g.below, mul_comm (length B) (length A))

  -- the product at a number, by its row and column
  product_at : (r c : ℕ) → r < length A → c < length B → n · get_or (sums A B) (r * length B + c) 𝟎 ≡ n · get_or A r 𝟎 +ℤ n · get_or B c 𝟎
  product_at r c h k = ap (λ (v : Vector). n · v) (get_or-sums A B r c h k) ∙ dot-plus n (get_or A r 𝟎) (get_or B c 𝟎)

  -- a lower number is in a lower row, or further left in the same row
  lower : (r c : ℕ) → r < length A → c < length B → r * length B + c < i * length B + j → (n · get_or A r 𝟎 +ℤ n · get_or B c 𝟎) <ℤ (n · get_or A i 𝟎 +ℤ n · get_or B j 𝟎)
  lower r c h k l = elim (cases_order r i) [
    | inl e ↦
        let q = ap (λ x. n · get_or A x 𝟎) e in
        let m = ap (λ x. x * length B) e in
        omega (arith, lin, q, g.lowest c (omega (arith, m)))
    | inr (inl q) ↦ omega (arith, lin, f.lowest r q, g.most c k)
    | inr (inr q) ↦ absurd (omega (arith, mul-le (suc i) (length B) r (length B) q (omega arith), suc-mul i (length B), g.below))
  ]

  pub farthest_sums : Farthest n (sums A B) (i * length B + j)
  farthest_sums = record { below = omega (arith, place_below, length-sums A B); most = most; lowest = lowest }
    where
      most : (t : ℕ) → t < length (sums A B) → (n · get_or (sums A B) t 𝟎) ≤ℤ (n · get_or (sums A B) (i * length B + j) 𝟎)
      most t l =
          let l' : t < length A * length B = omega (arith, length-sums A B) in
          let h = row_below (length A) (length B) t l' in
          let c = column_below (length A) (length B) t l' in
          let p = ap (λ x. n · get_or (sums A B) x 𝟎) (row_column (length A) (length B) t l') in
          omega (arith, lin, p, product_at (t / length B) (t % length B) h c, product_at i j f.below g.below, f.most (t / length B) h, g.most (t % length B) c)

      lowest : (t : ℕ) → t < i * length B + j → (n · get_or (sums A B) t 𝟎) <ℤ (n · get_or (sums A B) (i * length B + j) 𝟎)
      lowest t l =
          let l' : t < length A * length B = omega (arith, place_below) in
          let h = row_below (length A) (length B) t l' in
          let c = column_below (length A) (length B) t l' in
          let p = ap (λ x. n · get_or (sums A B) x 𝟎) (row_column (length A) (length B) t l') in
          omega (arith, lin, p, product_at (t / length B) (t % length B) h c, product_at i j f.below g.below, lower (t / length B) (t % length B) h c (omega (arith, row_column (length A) (length B) t l')))

-- ---- the meaning of a sum: where it is fit, so are its parts
pub record Told (m o : Meaning) : Type 0 where
  pub first : Fit m
  pub second : Fit o
  pub is : sum_meaning m o ≡ corners (sums (corners_in m) (corners_in o))

parts_is : (m o : Meaning) → Fit m → Fit o → sum_meaning m o ≡ body_of (sums (corners_in m) (corners_in o))
parts_is m o f g = (λ i. sum_meaning (f.is i) (g.is i))

pub fit_told : (m o : Meaning) → Sound m → Sound o → ¬ (sum_meaning m o ≡ unfit) → Told m o
fit_told unfit o s u h = absurd (h refl)
fit_told (corners A) unfit s u h = absurd (h refl)
fit_told (corners A) (corners B) s u h = elim (cases_Bool (fits (sums A B))) [
  | inl f ↦ record { first = fit A s; second = fit B u; is = body_fit (sums A B) f }
  | inr f ↦ absurd (h (body_unfit (sums A B) f))
]

module _ (m o : Meaning) (s : Sound m) (u : Sound o) where
  pub told_by_extent : (r : Extent) → Ok r ≡ extent_answer (sum_meaning m o) → Told m o
  told_by_extent r h = fit_told m o s u (λ e. no_ok r 13 (h ∙ ap extent_answer e))

  pub told_by_count : (n : ℕ) → Ok n ≡ count_answer (sum_meaning m o) → Told m o
  told_by_count n h = fit_told m o s u (λ e. no_ok n 13 (h ∙ ap count_answer e))

-- ---- counts
module _ (m o : Meaning) (s : Sound m) (u : Sound o) (n k : ℕ) (h : Ok n ≡ count_answer m) (l : Ok k ≡ count_answer o) where
  counted : length (sums (corners_in m) (corners_in o)) ≡ n * k
  counted = length-sums (corners_in m) (corners_in o) ∙ sym (λ i. (told_count m s n h).1 i * (told_count o u k l).1 i)

  pub sum_count : Told m o → Ok (n * k) ≡ count_answer (sum_meaning m o)
  sum_count t = ap Ok (sym counted) ∙ ap count_answer (sym t.is)

  -- ---- the extent
  pub too_many : 1024 < n * k → Err 13 ≡ extent_answer (sum_meaning m o)
  too_many b =
      let L = sums (corners_in m) (corners_in o) in
      let far : leb (length L) 1024 ≡ false = lt-leb (length L) 1024 (omega (arith, counted)) in
      ap extent_answer (sym (parts_is m o (told_count m s n h).0 (told_count o u k l).0 ∙ body_unfit L (and_left (leb 1 (length L) && leb (length L) 1024) (reached L) (and_right (leb 1 (length L)) (leb (length L) 1024) far))))

  module _ (e f : Extent) (p : Ok e ≡ extent_answer m) (q : Ok f ≡ extent_answer o) where
    -- 64-bit sums are exact
    exact : extent (wrappedᵛ (e.least +ᵛ f.least)) (wrappedᵛ (e.greatest +ᵛ f.greatest)) ≡ extent_of (sums (corners_in m) (corners_in o))
    exact =
        let a = told_extent m s e p in
        let b = told_extent o u f q in
        let near = and_parts (within 10000 e.least) (within 10000 e.greatest) (ap extent_reached a.1 ∙ extent_near (corners_in m) a.0.some a.0.near) in
        let far = and_parts (within 10000 f.least) (within 10000 f.greatest) (ap extent_reached b.1 ∙ extent_near (corners_in o) b.0.some b.0.near) in
        (λ i. extent (plus_exact e.least f.least near.0 (wider f.least far.0) i) (plus_exact e.greatest f.greatest near.1 (wider f.greatest far.1) i))
        ∙ (λ i. extent ((a.1 i).least +ᵛ (b.1 i).least) ((a.1 i).greatest +ᵛ (b.1 i).greatest))
        ∙ extent_sums (corners_in m) (corners_in o) a.0.some b.0.some
      where
        wider : (v : Vector) → within 10000 v ≡ true → within 20000 v ≡ true
        wider v w = within_wider 10000 20000 v (omega arith) w

    pub sum_extent : n * k ≤ 1024 → (x : Extent) → x ≡ extent (wrappedᵛ (e.least +ᵛ f.least)) (wrappedᵛ (e.greatest +ᵛ f.greatest)) → (r : Result Extent ℕ) → r ≡ reached_answer x → r ≡ extent_answer (sum_meaning m o)
    sum_extent few x w r z =
        let a = told_count m s n h in
        let b = told_count o u k l in
        let some : 0 * 0 < n * k = mul-lt 0 0 n k (omega (arith, a.1, a.0.some)) (omega (arith, b.1, b.0.some)) in
        z ∙ ap reached_answer (w ∙ exact) ∙ decided (sums (corners_in m) (corners_in o)) (omega (arith, counted)) (omega (arith, counted)) ∙ ap extent_answer (sym (parts_is m o a.0 b.0))

-- ---- a corner by number
module _ (m o : Meaning) (s : Sound m) (u : Sound o) (N k i : ℕ) (h : Ok N ≡ count_answer (sum_meaning m o)) (l : i < N) (q : Ok k ≡ count_answer o) where
  abbrev A : List Vector
  A = corners_in m

  abbrev B : List Vector
  B = corners_in o

  within_counts : i < length A * k
  within_counts =
      let t = told_by_count m o s u N h in
      let e : N ≡ length A * length B = same_ok (h ∙ ap count_answer t.is) ∙ length-sums A B in
      let e' = ap (λ x. length A * x) (told_count o u k q).1 in
      omega (arith, e, e')

  pub row_there : {Z : Type 0} (x : ℕ) → Err x ≡ corner_answer m (i / k) → Z
  row_there x e = no_corner_missing m (length A) (i / k) x (ap count_answer (sym (told_by_count m o s u N h).first.is)) (row_below (length A) k i within_counts) e

  pub sum_corner : (c d v : Vector) → Ok c ≡ corner_answer m (i / k) → Ok d ≡ corner_answer o (i % k) → v ≡ wrappedᵛ (c +ᵛ d) → Ok v ≡ corner_answer (sum_meaning m o) i
  sum_corner c d v a b e =
      let t = told_by_count m o s u N h in
      let p = told_corner m s (i / k) c a in
      let r = told_corner o u (i % k) d b in
      let same = (told_count o u k q).1 in
      ap Ok (e ∙ plus_exact c d p.3 (within_wider 10000 20000 d (omega arith) r.3) ∙ (λ x. p.2 x +ᵛ r.2 x) ∙ ap (λ x. get_or A (i / x) 𝟎 +ᵛ get_or B (i % x) 𝟎) same)
      ∙ sym (numbered-sums A B i (omega (arith, within_counts, ap (λ x. length A * x) same))) ∙ ap (λ (x : Meaning). corner_answer x i) (sym t.is)

-- ---- the farthest corner
module _ (m o : Meaning) (s : Sound m) (u : Sound o) (t : Told m o) (n : Vector) where
  pub direction_refused : (e : ℕ) → Err e ≡ farthest_answer m n → Err e ≡ farthest_answer (sum_meaning m o) n
  direction_refused e h = farthest_refused (corners_in m) n e (h ∙ ap (λ (x : Meaning). farthest_answer x n) t.first.is) (sums (corners_in m) (corners_in o)) ∙ ap (λ (x : Meaning). farthest_answer x n) (sym t.is)

  module _ (i j k : ℕ) (a : Ok i ≡ farthest_answer m n) (b : Ok j ≡ farthest_answer o n) (c : Ok k ≡ count_answer o) where
    abbrev k_is : k ≡ length (corners_in o)
    k_is = (told_count o u k c).1

    in_first : Farthest n (corners_in m) i
    in_first = let p = told_farthest m s n i a in subst (Farthest n (corners_in m)) (sym p.2) (is_farthest n (corners_in m) p.0.some)

    in_second : Farthest n (corners_in o) j
    in_second = let p = told_farthest o u n j b in subst (Farthest n (corners_in o)) (sym p.2) (is_farthest n (corners_in o) p.0.some)

    sum_at : Farthest n (sums (corners_in m) (corners_in o)) (i * k + j)
    sum_at = subst (λ x. Farthest n (sums (corners_in m) (corners_in o)) (i * x + j)) (sym k_is) (farthest_sums n (corners_in m) (corners_in o) i j in_first in_second)

    pub number_small : i * k + j ≤ 1048576
    number_small =
        let f = t.first.few in
        let g = t.second.few in
        omega (arith, sum_at.below, length-sums (corners_in m) (corners_in o), mul-le (length (corners_in m)) (length (corners_in o)) 1024 1024 f g)

    pub sum_farthest : Ok (i * k + j) ≡ farthest_answer (sum_meaning m o) n
    sum_farthest =
        let L = sums (corners_in m) (corners_in o) in
        ap Ok (sym (farthest_is n L (i * k + j) sum_at)) ∙ sym (cond-true (within 800000000 n) (Ok (farthest n L)) (Err 14) (told_farthest m s n i a).1) ∙ ap (λ (x : Meaning). farthest_answer x n) (sym t.is)
