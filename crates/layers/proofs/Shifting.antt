-- What a shifted body answers, from the answers of the body.
use Rattle.std.proofs.Common.{◌≡◌, ℕ, ◌≤◌, true, false, cond, List, length, ℤ, ◌+ℤ◌, Ok, Err, Result, sym, refl, ap, ◌∙◌, inl, inr, arith}
use Rattle.std.proofs.lemmas.List.{length-map}
use Rattle.std.proofs.lemmas.Bool.{and_parts, cond-true, cond-false, cases_Bool}
use Rattle.vector.specs.declared.Vector.{Vector}
use Rattle.vector.specs.Vectors.{vector, ◌·◌, ◌+ᵛ◌, within}
use Rattle.vector.specs.Wrapped.{wrappedᵛ}
use Rattle.vector.proofs.Exact.{plus_exact}
use Rattle.vector.proofs.Identities.{dot-plus}
use Rattle.convex.specs.Products.{greatest, least}
use Rattle.convex.specs.Sides.{shifted}
use Rattle.convex.proofs.Extremes.{greatest-shifted, least-shifted}
use Rattle.body.specs.declared.extent.Extent.{Extent}
use Rattle.body.specs.Meaning.{Meaning, unfit, corners, fits, body_of, Sound}
use Rattle.body.specs.Extents.{x⁺, y⁺, z⁺, extent, extent_of, extent_reached}
use Rattle.body.specs.Answers.{corner_answer, extent_answer, farthest_answer, reached_answer}
use Rattle.body.proofs.Numbered.{mapped, numbered-map}
use Rattle.body.proofs.Told.{corners_in, Fit, fit, told_extent, told_corner, body_fit, body_unfit}
use Rattle.body.proofs.Extents.{along_x, along_y, along_z, extent_near, decided}
use Rattle.body.proofs.Farthest.{farthest_map}
use Rattle.layers.specs.Layers.{shift_meaning}

-- ---- the extent of a shifted list
pub extent_shifted : (v : Vector) (cs : List Vector) → 1 ≤ length cs → extent ((extent_of cs).least +ᵛ v) ((extent_of cs).greatest +ᵛ v) ≡ extent_of (shifted v cs)
extent_shifted v cs some i = extent
    (vector (low x⁺ v.x (along_x v) i) (low y⁺ v.y (along_y v) i) (low z⁺ v.z (along_z v) i))
    (vector (high x⁺ v.x (along_x v) i) (high y⁺ v.y (along_y v) i) (high z⁺ v.z (along_z v) i))
  where
    low : (a : Vector) (k : ℤ) → a · v ≡ k → least a cs +ℤ k ≡ least a (shifted v cs)
    low a k e = ap (λ t. least a cs +ℤ t) (sym e) ∙ sym (least-shifted a v cs some)

    high : (a : Vector) (k : ℤ) → a · v ≡ k → greatest a cs +ℤ k ≡ greatest a (shifted v cs)
    high a k e = ap (λ t. greatest a cs +ℤ t) (sym e) ∙ sym (greatest-shifted a v cs some)

-- ---- the meaning of a shifted body
shift_near : (v : Vector) (cs : List Vector) → within 20000 v ≡ true → shift_meaning v (corners cs) ≡ body_of (shifted v cs)
shift_near v cs h = cond-true (within 20000 v) (body_of (shifted v cs)) unfit h

shift_far : (v : Vector) (m : Meaning) → within 20000 v ≡ false → shift_meaning v m ≡ unfit
shift_far v unfit h = refl
shift_far v (corners cs) h = cond-false (within 20000 v) (body_of (shifted v cs)) unfit h

-- where it is fit, so is the body, and v is in range
pub record Told (v : Vector) (m : Meaning) : Type 0 where
  pub part : Fit m
  pub is : shift_meaning v m ≡ corners (shifted v (corners_in m))
  pub near : within 20000 v ≡ true

pub fit_told : (v : Vector) (m : Meaning) → Sound m → ¬ (shift_meaning v m ≡ unfit) → Told v m
fit_told v unfit s h = absurd (h refl)
fit_told v (corners cs) s h = elim (cases_Bool (within 20000 v)) [
  | inr far ↦ absurd (h (shift_far v (corners cs) far))
  | inl near ↦ elim (cases_Bool (fits (shifted v cs))) [
    | inl f ↦ record { part = fit cs s; is = shift_near v cs near ∙ body_fit (shifted v cs) f; near = near }
    | inr f ↦ absurd (h (shift_near v cs near ∙ body_unfit (shifted v cs) f))
  ]
]

-- ---- the extent
module _ (v : Vector) (m : Meaning) (s : Sound m) (near : within 20000 v ≡ true) (e : Extent) (h : Ok e ≡ extent_answer m) where
  -- 64-bit sums are exact
  exact : extent (wrappedᵛ (e.least +ᵛ v)) (wrappedᵛ (e.greatest +ᵛ v)) ≡ extent_of (shifted v (corners_in m))
  exact =
      let t = told_extent m s e h in
      let r = extent_near (corners_in m) t.0.some t.0.near in
      let p = and_parts (within 10000 e.least) (within 10000 e.greatest) (ap extent_reached t.1 ∙ r) in
      (λ i. extent (plus_exact e.least v p.0 near i) (plus_exact e.greatest v p.1 near i))
      ∙ ap (λ (x : Extent). extent (x.least +ᵛ v) (x.greatest +ᵛ v)) t.1 ∙ extent_shifted v (corners_in m) t.0.some

  pub shift_extent : (f : Extent) → f ≡ extent (wrappedᵛ (e.least +ᵛ v)) (wrappedᵛ (e.greatest +ᵛ v)) → (r : Result Extent ℕ) → r ≡ reached_answer f → r ≡ extent_answer (shift_meaning v m)
  shift_extent f q r k =
      let t = told_extent m s e h in
      let cs = corners_in m in
      let n = length-map cs (λ c. c +ᵛ v) in
      k ∙ ap reached_answer (q ∙ exact) ∙ decided (shifted v cs) (omega (arith, n, t.0.some)) (omega (arith, n, t.0.few))
      ∙ ap extent_answer (sym (ap (shift_meaning v) t.0.is ∙ shift_near v cs near))

-- ---- the other questions
module _ (v : Vector) (m : Meaning) (t : Told v m) where
  shift_corner : (i : ℕ) → mapped (λ c. c +ᵛ v) (corner_answer m i) ≡ corner_answer (shift_meaning v m) i
  shift_corner i = ap (λ (x : Meaning). mapped (λ c. c +ᵛ v) (corner_answer x i)) t.part.is ∙ numbered-map (λ c. c +ᵛ v) (corners_in m) i ∙ ap (λ (x : Meaning). corner_answer x i) (sym t.is)

  pub corner_shifted : Sound m → (i : ℕ) (c d : Vector) → Ok c ≡ corner_answer m i → d ≡ wrappedᵛ (c +ᵛ v) → Ok d ≡ corner_answer (shift_meaning v m) i
  corner_shifted s i c d h e = ap Ok (e ∙ plus_exact c v (told_corner m s i c h).3 t.near) ∙ ap (mapped (λ c. c +ᵛ v)) h ∙ shift_corner i

  pub shift_farthest : (n : Vector) → farthest_answer m n ≡ farthest_answer (shift_meaning v m) n
  shift_farthest n =
      ap (λ (x : Meaning). farthest_answer x n) t.part.is
      ∙ ap (λ k. cond (within 800000000 n) (Ok k) (Err 14)) (sym (farthest_map n n (n · v) (λ c. c +ᵛ v) (λ c. dot-plus n c v) (corners_in m) t.part.some))
      ∙ ap (λ (x : Meaning). farthest_answer x n) (sym t.is)
