-- Within the ranges of the subject, 64-bit arithmetic is exact: corners within ±10,000, shifts and ridges within ±20,000, directions within ±800,000,000.
use Rattle.std.proofs.Common.{◌≡◌, true, false, ℤ, ◌≤ℤ◌, ◌<ℤ◌, sym, subst, arith, w64, SFits, to_z, of_z}
use lib.Signed.{lt_z}
use Rattle.std.specs.Int.{int_wrap}
use Rattle.std.proofs.lemmas.Int.{ints, SFits-int_wrap}
use Rattle.vector.specs.declared.Vector.{Vector}
use Rattle.vector.specs.Vectors.{◌·◌, ◌⨯◌, ◌+ᵛ◌, ◌-ᵛ◌, negᵛ, within}
use Rattle.vector.specs.Wrapped.{wrappedᵛ}
use Rattle.vector.proofs.Bounds.{fits_inside, wrapped_inside, wrappedᵛ-within, inside-dot, within-plus, within-minus, within-neg, within-cross, within_wider}

-- the product of a direction and a corner
module _ (n c : Vector) (h : within 800000000 n ≡ true) (k : within 10000 c ≡ true) where
  pub dot_exact : int_wrap w64 (n · c) ≡ n · c
  dot_exact = wrapped_inside 24000000000000 (n · c) (omega arith) (inside-dot 800000000 10000 n c h k)

  pub dot_fits : SFits w64 (n · c)
  dot_fits = fits_inside 24000000000000 (n · c) (omega arith) (inside-dot 800000000 10000 n c h k)

-- a corner and a shift, or another corner, added
pub plus_exact : (c v : Vector) → within 10000 c ≡ true → within 20000 v ≡ true → wrappedᵛ (c +ᵛ v) ≡ c +ᵛ v
plus_exact c v h k = wrappedᵛ-within 30000 (c +ᵛ v) (omega arith) (within-plus 10000 20000 c v h k)

-- one corner less another
pub minus-within : (q p : Vector) → within 10000 q ≡ true → within 10000 p ≡ true → within 20000 (q -ᵛ p) ≡ true
minus-within q p h k = within-minus 10000 10000 q p h k

pub minus_exact : (q p : Vector) → within 10000 q ≡ true → within 10000 p ≡ true → wrappedᵛ (q -ᵛ p) ≡ q -ᵛ p
minus_exact q p h k = wrappedᵛ-within 20000 (q -ᵛ p) (omega arith) (minus-within q p h k)

-- the opposite of a direction, and of a corner
pub neg_exact : (n : Vector) → within 800000000 n ≡ true → wrappedᵛ (negᵛ n) ≡ negᵛ n
neg_exact n h = wrappedᵛ-within 800000000 (negᵛ n) (omega arith) (within-neg 800000000 n h)

pub neg_corner_exact : (c : Vector) → within 10000 c ≡ true → wrappedᵛ (negᵛ c) ≡ negᵛ c
neg_corner_exact c h = neg_exact c (within_wider 10000 800000000 c (omega arith) h)

-- the cross product of two ridges
pub cross-within : (u v : Vector) → within 20000 u ≡ true → within 20000 v ≡ true → within 800000000 (u ⨯ v) ≡ true
cross-within u v h k = within-cross 20000 20000 u v h k

pub cross_exact : (u v : Vector) → within 20000 u ≡ true → within 20000 v ≡ true → wrappedᵛ (u ⨯ v) ≡ u ⨯ v
cross_exact u v h k = wrappedᵛ-within 800000000 (u ⨯ v) (omega arith) (cross-within u v h k)

-- numbers that were wrapped, compared as the code compares them
module _ (a b x y : ℤ) (p : a ≡ int_wrap w64 x) (q : b ≡ int_wrap w64 y) where
  first_fits : SFits w64 a
  first_fits = subst (SFits w64) (sym p) (SFits-int_wrap w64 x)

  second_fits : SFits w64 b
  second_fits = subst (SFits w64) (sym q) (SFits-int_wrap w64 y)

  pub less_by_bits : lt_z (to_z w64 (of_z w64 a)) (to_z w64 (of_z w64 b)) ≡ true → a <ℤ b
  less_by_bits h = let f = first_fits in let g = second_fits in grind (arith, ints)

  pub not_less_by_bits : lt_z (to_z w64 (of_z w64 a)) (to_z w64 (of_z w64 b)) ≡ false → b ≤ℤ a
  not_less_by_bits h = let f = first_fits in let g = second_fits in grind (arith, ints)
