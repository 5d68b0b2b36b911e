-- The direction of three corners within reach is exact and within range.
use Rattle.std.proofs.Common.{◌≡◌, true, ◌∙◌}
use Rattle.vector.specs.declared.Vector.{Vector}
use Rattle.vector.specs.Vectors.{◌⨯◌, ◌-ᵛ◌, within}
use Rattle.vector.specs.Wrapped.{wrappedᵛ}
use Rattle.vector.proofs.Exact.{minus-within, minus_exact, cross-within, cross_exact}

module _ (p q s : Vector) (hp : within 10000 p ≡ true) (hq : within 10000 q ≡ true) (hs : within 10000 s ≡ true) where
  pub across_exact : {u v w : Vector} → u ≡ wrappedᵛ (q -ᵛ p) → v ≡ wrappedᵛ (s -ᵛ p) → w ≡ wrappedᵛ (u ⨯ v) → w ≡ (q -ᵛ p) ⨯ (s -ᵛ p)
  across_exact e f g =
      g ∙ (λ i. wrappedᵛ ((e ∙ minus_exact q p hq hp) i ⨯ (f ∙ minus_exact s p hs hp) i))
      ∙ cross_exact (q -ᵛ p) (s -ᵛ p) (minus-within q p hq hp) (minus-within s p hs hp)

  pub across_within : within 800000000 ((q -ᵛ p) ⨯ (s -ᵛ p)) ≡ true
  across_within = cross-within (q -ᵛ p) (s -ᵛ p) (minus-within q p hq hp) (minus-within s p hs hp)
