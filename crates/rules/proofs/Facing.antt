-- The outward direction of a flat is outward, and its opposite is not.
use Rattle.std.proofs.Common.{◌≡◌, ℕ, true, false, not, ◌&&◌, ◌||◌, List, length, ℤ, neg_ℤ, sym, ap, ◌∙◌, inl, inr, arith}
use lib.Signed.{lt_z}
use Rattle.std.proofs.lemmas.Int.{ints}
use Rattle.std.proofs.lemmas.Bool.{and_parts, or_cases, both_ways, not-true, cond-false, cond_both}
use Rattle.vector.specs.declared.Vector.{Vector}
use Rattle.vector.specs.Vectors.{◌·◌, negᵛ, eq_z, is_zero}
use Rattle.vector.proofs.Identities.{neg-dot, neg-neg}
use Rattle.rules.specs.Tests.{some}
use Rattle.rules.specs.Masks.{lies}
use Rattle.rules.specs.Rules.{corner, first_corner, normal, faces, is_outward, is_left_out, is_flat, is_below, is_above, mask, outward}
use Rattle.rules.specs.Laws.{FlatsFaceOut}
use Rattle.rules.proofs.Loops.{every_at, every_fails, some_at, all_at}
use Rattle.rules.proofs.Lawful.{kept}

-- ---- opposites
not_below : (a b : ℤ) → lt_z a b ≡ true → lt_z (neg_ℤ a) (neg_ℤ b) ≡ false
not_below a b h = grind (arith, ints)

-- a corner that is lower in a direction is not lower in the opposite one
not_lower : (n c p : Vector) → lt_z (n · c) (n · p) ≡ true → lt_z (negᵛ n · c) (negᵛ n · p) ≡ false
not_lower n c p h = (λ i. lt_z (neg-dot n c i) (neg-dot n p i)) ∙ not_below (n · c) (n · p) h

lower_opposite : (a b : ℤ) → lt_z (neg_ℤ a) (neg_ℤ b) ≡ lt_z b a
lower_opposite a b = grind (arith, ints)

-- a corner lies above a plane where it lies below in the opposite direction
pub below_opposite : (cs : List Vector) (n p : Vector) → some (length cs) (is_below cs (negᵛ n) p) ≡ some (length cs) (is_above cs n p)
below_opposite cs n p = λ i. some (length cs) (λ k. ((λ j. lt_z (neg-dot n (corner cs k) j) (neg-dot n p j)) ∙ lower_opposite (n · corner cs k) (n · p)) i)

module _ (cs : List Vector) (m : ℕ) where
  -- a corner that is left out has to be lower
  left_lower : (n : Vector) (k : ℕ) → lies k m ≡ false → faces cs m n k ≡ lt_z (n · corner cs k) (n · first_corner cs m)
  left_lower n k e = cond-false (lies k m) (eq_z (n · corner cs k) (n · first_corner cs m)) (lt_z (n · corner cs k) (n · first_corner cs m)) e

  -- where a corner is left out, a direction and its opposite are not both outward
  not_both : (n : Vector) → some (length cs) (is_left_out m) ≡ true → is_outward cs m n ≡ true → is_outward cs m (negᵛ n) ≡ false
  not_both n s h =
      let left = some_at (is_left_out m) (length cs) s in
      let k = left.0 in
      let e = not-true (lies k m) left.2 in
      let lower = sym (left_lower n k e) ∙ every_at (faces cs m n) (length cs) k left.1 h in
      let fails = left_lower (negᵛ n) k e ∙ not_lower n (corner cs k) (first_corner cs m) lower in
      every_fails (faces cs m (negᵛ n)) (length cs) k left.1 fails

  -- a direction is outward, and its opposite is not
  abbrev One : Vector → Type 0
  One n = (is_outward cs m n ≡ true) × (is_outward cs m (negᵛ n) ≡ false)

  -- where the normal is not outward, its opposite is: the rule says that one of the two is
  other : (n : Vector) → (is_outward cs m n || is_outward cs m (negᵛ n)) ≡ true → is_outward cs m n ≡ false → One (negᵛ n)
  other n h e = elim (or_cases (is_outward cs m n) (is_outward cs m (negᵛ n)) h) [
    | inl t ↦ absurd (both_ways (is_outward cs m n) e t)
    | inr t ↦ (t, ap (is_outward cs m) (neg-neg n) ∙ e)
  ]

  one_outward : is_flat cs m ≡ true → One (outward cs m)
  one_outward h =
      let n = normal cs m in
      let p = and_parts (not (is_zero n) && (is_outward cs m n || is_outward cs m (negᵛ n))) (some (length cs) (is_left_out m)) h in
      let q = (and_parts (not (is_zero n)) (is_outward cs m n || is_outward cs m (negᵛ n)) p.0).1 in
      cond_both (is_outward cs m n) n (negᵛ n) One (λ e. (e, not_both n p.1 e)) (λ e. other n q e)

pub flats_face_out : FlatsFaceOut
flats_face_out R h k l =
    let o = one_outward R.corners (mask R.flats k) (all_at (is_flat R.corners) R.flats k 0 l (kept R h).five) in
    record { out = o.0; only = o.1 }
