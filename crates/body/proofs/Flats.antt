-- A direction and the flats of a sided body: where it is along none of them, the law of flats says that it is no face.
use Rattle.std.proofs.Common.{◌≡◌, ℕ, suc, ◌+◌, ◌<◌, ◌≤◌, true, false, cond, ◌&&◌, List, [], ◌∷◌, length, get_or, drop, ℤ, pos, ◌<ℤ◌, Some, None, Ok, Err, Option, sym, refl, ap, ◌∙◌, subst, inl, inr, arith, w64, to_z, of_z}
use lib.Signed.{lt_z}
use Rattle.std.proofs.lemmas.List.{at_drop_more, at_drop_all}
use Rattle.std.specs.Int.{int_wrap}
use Rattle.std.proofs.lemmas.Int.{ints, to_z-of_z}
use Rattle.std.proofs.lemmas.Bool.{and_parts, and_from, cond_both, cond-true, cond-false, cases_Bool, both_ways}
use Rattle.vector.specs.declared.Vector.{Vector}
use Rattle.vector.specs.Vectors.{◌·◌, ◌⨯◌, ◌∗◌, is_zero, within, 𝟎}
use Rattle.vector.specs.Wrapped.{wrappedᵛ}
use Rattle.vector.proofs.Bounds.{fits_inside, wrapped_inside, wrappedᵛ-within, within-cross, inside-dot}
use Rattle.vector.proofs.Ring.{var}
use Rattle.vector.proofs.Order.{lin, mul_pos, times_nought, cancel_lt}
use Rattle.vector.proofs.Identities.{◌⨯ₑ◌, ◌∗ₑ◌, 𝟎ₑ, vec, env, ringᵛ, dot_comm, dot_nothing, norm_pos, times-𝟎, cancel_times}
use Rattle.convex.specs.Points.{◌∈◌}
use Rattle.convex.specs.Faces.{Face}
use Rattle.convex.specs.Sides.{Multiple}
use Rattle.convex.proofs.Lines.{same_way, multiple_dot}
use Rattle.convex.proofs.Tests.{zero_from, below_from}
use Rattle.body.specs.Meaning.{Meaning, unfit, corners}
use Rattle.body.specs.Sides.{Sides, unlisted, listed, Bounded, Laws}
use Rattle.body.specs.Answers.{flat_count_answer, flat_answer}
use Rattle.body.specs.Along.{along, first_along, along_answer, Says}
use Rattle.body.proofs.Numbered.{no_ok, same_ok, numbered_in, told_past, told_all}
use Rattle.body.proofs.Told.{corners_in}

-- ---- the test is exact
pub multiple_from : (n f : Vector) → along n f ≡ true → Multiple n f
multiple_from n f h =
    let p = and_parts (is_zero (f ⨯ n)) (lt_z (pos 0) (f · n)) h in
    let k = below_from (pos 0) (f · n) p.1 in
    same_way n f (λ e. absurd (omega (arith, lin, k, dot_comm f n, dot_nothing n f e))) (zero_from (f ⨯ n) p.0) k

pub along_from : (n f : Vector) → ¬ (n ≡ 𝟎) → Multiple n f → along n f ≡ true
along_from n f h m = and_from (is_zero (f ⨯ n)) (lt_z (pos 0) (f · n)) (ap is_zero on_line) (above (f · n) same)
  where
    over : ℤ
    over = pos m.over

    positive : pos 0 <ℤ over
    positive = let p = m.over_positive in omega (arith, lin)

    on_line : f ⨯ n ≡ 𝟎
    on_line = cancel_times over (f ⨯ n) 𝟎 positive (out over f n ∙ ap (λ (v : Vector). v ⨯ n) (sym m.is) ∙ nothing (pos m.under) n ∙ sym (times-𝟎 over))
      where
        out : (k : ℤ) (u v : Vector) → k ∗ (u ⨯ v) ≡ (k ∗ u) ⨯ v
        out k u v = ringᵛ (env (u ∷ v ∷ []) (k ∷ [])) (var 6 ∗ₑ (vec 0 ⨯ₑ vec 1)) ((var 6 ∗ₑ vec 0) ⨯ₑ vec 1) refl refl refl

        nothing : (k : ℤ) (v : Vector) → (k ∗ v) ⨯ v ≡ 𝟎
        nothing k v = ringᵛ (env (v ∷ []) (k ∷ [])) ((var 3 ∗ₑ vec 0) ⨯ₑ vec 0) 𝟎ₑ refl refl refl

    same : pos 0 <ℤ (f · n)
    same =
        let p = m.under_positive in
        cancel_lt over (pos 0) (f · n) (omega (arith, lin, positive)) (omega (arith, lin, times_nought over, multiple_dot n f m n, mul_pos (pos m.under) (n · n) (omega (arith, lin)) (norm_pos n h)))

    above : (k : ℤ) → pos 0 <ℤ k → lt_z (pos 0) k ≡ true
    above k h = grind (arith, ints)

-- ---- the test as it is computed, modulo 2^64: exact within the ranges
module _ (n f x : Vector) (near_n : within 800000000 n ≡ true) (near_f : within 800000000 f ≡ true) (cross_is : x ≡ wrappedᵛ (f ⨯ n)) where
  crossed : is_zero x ≡ is_zero (f ⨯ n)
  crossed = ap is_zero (cross_is ∙ wrappedᵛ-within 1280000000000000000 (f ⨯ n) (omega arith) (within-cross 800000000 800000000 f n near_f near_n))

  pub along_by_dot : (d : ℤ) → d ≡ int_wrap w64 (f · n) → is_zero x ≡ true → lt_z (pos 0) (to_z w64 (of_z w64 d)) ≡ along n f
  along_by_dot d dot_is crossing =
      let small = inside-dot 800000000 800000000 f n near_f near_n in
      let exact = dot_is ∙ wrapped_inside 1920000000000000000 (f · n) (omega arith) small in
      let fits = fits_inside 1920000000000000000 (f · n) (omega arith) small in
      ap (λ z. lt_z (pos 0) (to_z w64 (of_z w64 z))) exact ∙ ap (lt_z (pos 0)) (to_z-of_z w64 (f · n) fits)
      ∙ sym (ap (λ b. b && lt_z (pos 0) (f · n)) (sym crossed ∙ crossing))

  pub no_line : is_zero x ≡ false → false ≡ along n f
  no_line e = sym (ap (λ b. b && lt_z (pos 0) (f · n)) (sym crossed ∙ e))

-- ---- the first flat, if any
found : (n : Vector) (i : ℕ) (fs : List Vector) (k : ℕ) → first_along n i fs ≡ Some k → (j : ℕ) × (k ≡ i + j) × (j < length fs) × (along n (get_or fs j 𝟎) ≡ true)
found n i [] k h = absurd (let z : ◌≡◌ {A = ℕ} 0 1 = cc in omega arith)
found n i (f ∷ fs) k h = elim (cases_Bool (along n f)) [
  | inl e ↦
      let q : ◌≡◌ {A = Option ℕ} (Some i) (Some k) = sym (cond-true (along n f) (Some i) (first_along n (i + 1) fs) e) ∙ h in
      let p : i ≡ k = cc in
      (0, omega arith, omega arith, e)
  | inr e ↦
      let (j, p, l, a) = found n (i + 1) fs k (sym (cond-false (along n f) (Some i) (first_along n (i + 1) fs) e) ∙ h) in
      (suc j, omega arith, omega arith, a)
]

none : (n : Vector) (i : ℕ) (fs : List Vector) → first_along n i fs ≡ None → (f : Vector) → f ∈ fs → along n f ≡ false
none n i [] h f m = absurd m
none n i (g ∷ fs) h f m = elim (cases_Bool (along n g)) [
  | inl e ↦ absurd (let q : ◌≡◌ {A = Option ℕ} (Some i) None = sym (cond-true (along n g) (Some i) (first_along n (i + 1) fs) e) ∙ h in let z : ◌≡◌ {A = ℕ} 0 1 = cc in omega arith)
  | inr e ↦ here m e (λ k. none n (i + 1) fs (sym (cond-false (along n g) (Some i) (first_along n (i + 1) fs) e) ∙ h) f k)
]
  where
    here : f ∈ (g ∷ fs) → along n g ≡ false → (f ∈ fs → along n f ≡ false) → along n f ≡ false
    here (inl q) e k = ap (along n) q ∙ e
    here (inr q) e k = k q

-- ---- what the answer says follows from the law of flats
pub answer_says : (m : Meaning) (s : Sides) (n : Vector) → Laws m s → Says m s n (along_answer m s n)
answer_says unfit s n l = tt
answer_says (corners cs) unlisted n l = tt
answer_says (corners cs) (listed fs rs) n l =
    cond_both (within 800000000 n) (Ok (first_along n 0 fs)) (Err 14) (Says (corners cs) (listed fs rs) n) (λ w. go (first_along n 0 fs) refl) (λ w. tt)
  where
    go : (r : Option ℕ) → first_along n 0 fs ≡ r → Says (corners cs) (listed fs rs) n (Ok r)
    go None e = λ ds d face.
        let here : cs ≡ ds = cc in
        let r = l.flats n (subst (Face n) (sym here) face) in
        both_ways (along n r.0) (none n 0 fs e r.0 r.1) (along_from n r.0 face.nonzero r.2)
    go (Some k) e =
        let (j, p, b, a) = found n 0 fs k e in
        let q : j ≡ k = omega arith in
        (get_or fs k 𝟎, numbered_in fs k (omega arith), multiple_from n (get_or fs k 𝟎) (subst (λ x. along n (get_or fs x 𝟎) ≡ true) q a))

-- ---- one flat after the other
-- the flats of a body, none where they are unlisted
abbrev pub ridges_in : Sides → List Vector
ridges_in unlisted = []
ridges_in (listed fs rs) = rs

abbrev pub flats_in : Sides → List Vector
flats_in unlisted = []
flats_in (listed fs rs) = fs

-- none of the first i
abbrev pub Later : Vector → Sides → ℕ → Type 0
Later n s i = first_along n i (drop i (flats_in s)) ≡ first_along n 0 (flats_in s)

told_flats : (m : Meaning) (s : Sides) (count : ℕ) → Ok count ≡ flat_count_answer m s → (m ≡ corners (corners_in m)) × (s ≡ listed (flats_in s) (ridges_in s)) × (count ≡ length (flats_in s))
told_flats unfit s count h = no_ok count 13 h
told_flats (corners cs) unlisted count h = no_ok count 16 h
told_flats (corners cs) (listed fs rs) count h = (refl, refl, same_ok h)

module _ (m : Meaning) (s : Sides) (n : Vector) (count : ℕ) (h : Ok count ≡ flat_count_answer m s) (near : within 800000000 n ≡ true) where
  -- the answer of a fit, listed body
  answered : along_answer m s n ≡ Ok (first_along n 0 (flats_in s))
  answered = let t = told_flats m s count h in (λ i. along_answer (t.0 i) (t.1 i) n) ∙ cond-true (within 800000000 n) (Ok (first_along n 0 (flats_in s))) (Err 14) near

  module _ (i : ℕ) (l : i < count) (inv : Later n s i) where
    abbrev fs : List Vector
    fs = flats_in s

    below : i < length (flats_in s)
    below = omega (arith, (told_flats m s count h).2)

    told_here : (f : Vector) → Ok f ≡ flat_answer m s i → f ≡ get_or (flats_in s) i 𝟎
    told_here f e = let t = told_flats m s count h in same_ok (e ∙ (λ x. flat_answer (t.0 x) (t.1 x) i) ∙ numbered_in (flats_in s) i below)

    pub no_flat_missing : {Z : Type 0} (e : ℕ) → Err e ≡ flat_answer m s i → Z
    no_flat_missing e q = let t = told_flats m s count h in absurd (omega (arith, below, (told_past (flats_in s) i e (q ∙ (λ x. flat_answer (t.0 x) (t.1 x) i))).0))

    pub flat_near : Bounded s → (f : Vector) → Ok f ≡ flat_answer m s i → within 800000000 f ≡ true
    flat_near b f e =
        let t = told_flats m s count h in
        told_all (λ f. within 800000000 f ≡ true) (flats_in s) (subst Bounded t.1 b).flats_within i f (e ∙ (λ x. flat_answer (t.0 x) (t.1 x) i))

    step : first_along n i (drop i (flats_in s)) ≡ cond (along n (get_or (flats_in s) i 𝟎)) (Some i) (first_along n (i + 1) (drop (i + 1) (flats_in s)))
    step = at_drop_more (first_along n i) (flats_in s) i 𝟎 below

    pub flat_found : (f : Vector) → Ok f ≡ flat_answer m s i → along n f ≡ true → Ok (Some i) ≡ along_answer m s n
    flat_found f e a = ap Ok (sym (sym inv ∙ step ∙ cond-true (along n (get_or (flats_in s) i 𝟎)) (Some i) (first_along n (i + 1) (drop (i + 1) (flats_in s))) (ap (along n) (sym (told_here f e)) ∙ a))) ∙ sym answered

    pub flat_passed : (f : Vector) → Ok f ≡ flat_answer m s i → along n f ≡ false → Later n s (i + 1)
    flat_passed f e a = sym (step ∙ cond-false (along n (get_or (flats_in s) i 𝟎)) (Some i) (first_along n (i + 1) (drop (i + 1) (flats_in s))) (ap (along n) (sym (told_here f e)) ∙ a)) ∙ inv

  pub all_passed : (i : ℕ) → count ≤ i → Later n s i → Ok None ≡ along_answer m s n
  all_passed i l inv = ap Ok (sym (sym inv ∙ at_drop_all (first_along n i) (flats_in s) i (omega (arith, (told_flats m s count h).2)))) ∙ sym answered
