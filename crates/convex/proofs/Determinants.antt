-- Determinants of points: those of five points, with their signs, are weights with total 0 and sum 0; where the determinant of four points is 0, a plane holds them.
use Rattle.std.proofs.Common.{◌≡◌, List, [], ◌∷◌, length, get_or, pos, sym, refl, ap, ◌∙◌, subst, arith}
use Rattle.vector.specs.declared.Vector.{Vector}
use Rattle.vector.specs.Vectors.{vector, ◌·◌, ◌⨯◌, ◌-ᵛ◌, 𝟎}
use Rattle.vector.proofs.Ring.{Exp, num, ◌⊕◌, ◌⊝◌, neg, ring}
use Rattle.vector.proofs.Order.{lin}
use Rattle.vector.proofs.Identities.{VectorExp, ◌·ₑ◌, ◌⨯ₑ◌, ◌+ₑ◌, ◌-ₑ◌, ◌∗ₑ◌, 𝟎ₑ, vec, env, ringᵛ}
use Rattle.vector.proofs.Identities.{vector_discrete, dot_nothing, cross_first, cross_second, triple, at_right_angles, along_line}
use Rattle.convex.specs.Fives.{det, signed, dets}
use Rattle.convex.proofs.Relations.{sum, combine}
use Rattle.convex.proofs.Directions.{level_minus}

-- ---- five points
pub record FiveOf {A : Type 0} (X : List A) : Type 0 where
  pub a : A
  pub b : A
  pub c : A
  pub d : A
  pub e : A
  pub are : a ∷ b ∷ c ∷ d ∷ e ∷ [] ≡ X

pub five_of : {A : Type 0} (X : List A) → length X ≡ 5 → FiveOf X
five_of [] h = absurd (omega arith)
five_of (a ∷ []) h = absurd (omega arith)
five_of (a ∷ b ∷ []) h = absurd (omega arith)
five_of (a ∷ b ∷ c ∷ []) h = absurd (omega arith)
five_of (a ∷ b ∷ c ∷ d ∷ []) h = absurd (omega arith)
five_of (a ∷ b ∷ c ∷ d ∷ e ∷ []) h = record { a = a; b = b; c = c; d = d; e = e; are = refl }
five_of (a ∷ b ∷ c ∷ d ∷ e ∷ f ∷ X) h = absurd (omega arith)

abbrev detₑ : VectorExp → VectorExp → VectorExp → VectorExp → Exp
detₑ p q r s = p ·ₑ (q ⨯ₑ r) ⊝ p ·ₑ (q ⨯ₑ s) ⊕ p ·ₑ (r ⨯ₑ s) ⊝ q ·ₑ (r ⨯ₑ s)

-- the variables are five points
abbrev d₁ : Exp
d₁ = neg (detₑ (vec 1) (vec 2) (vec 3) (vec 4))

abbrev d₂ : Exp
d₂ = detₑ (vec 0) (vec 2) (vec 3) (vec 4)

abbrev d₃ : Exp
d₃ = neg (detₑ (vec 0) (vec 1) (vec 3) (vec 4))

abbrev d₄ : Exp
d₄ = detₑ (vec 0) (vec 1) (vec 2) (vec 4)

abbrev d₅ : Exp
d₅ = neg (detₑ (vec 0) (vec 1) (vec 2) (vec 3))

signed_sum : (a b c d e : Vector) → sum (signed a b c d e) ≡ pos 0
signed_sum a b c d e = ring (env (a ∷ b ∷ c ∷ d ∷ e ∷ []) []) (d₁ ⊕ (d₂ ⊕ (d₃ ⊕ (d₄ ⊕ (d₅ ⊕ num (pos 0)))))) (num (pos 0)) refl

signed_combine : (a b c d e : Vector) → combine (signed a b c d e) (a ∷ b ∷ c ∷ d ∷ e ∷ []) ≡ 𝟎
signed_combine a b c d e = ringᵛ (env (a ∷ b ∷ c ∷ d ∷ e ∷ []) [])
    (d₁ ∗ₑ vec 0 +ₑ (d₂ ∗ₑ vec 1 +ₑ (d₃ ∗ₑ vec 2 +ₑ (d₄ ∗ₑ vec 3 +ₑ (d₅ ∗ₑ vec 4 +ₑ 𝟎ₑ))))) 𝟎ₑ refl refl refl

pub dets-sum : (P : List Vector) → sum (dets P) ≡ pos 0
dets-sum P = signed_sum (get_or P 0 𝟎) (get_or P 1 𝟎) (get_or P 2 𝟎) (get_or P 3 𝟎) (get_or P 4 𝟎)

pub dets-combine : (P : List Vector) → length P ≡ 5 → combine (dets P) P ≡ 𝟎
dets-combine P h = let f = five_of P h in subst (λ (Q : List Vector). combine (dets Q) Q ≡ 𝟎) f.are (signed_combine f.a f.b f.c f.d f.e)

-- ---- four points
pub det-differences : (p q r s : Vector) → det p q r s ≡ (p -ᵛ s) · ((q -ᵛ s) ⨯ (r -ᵛ s))
det-differences p q r s = ring (env (p ∷ q ∷ r ∷ s ∷ []) []) (detₑ (vec 0) (vec 1) (vec 2) (vec 3)) ((vec 0 -ₑ vec 3) ·ₑ ((vec 1 -ₑ vec 3) ⨯ₑ (vec 2 -ₑ vec 3))) refl

-- some vector is at right angles to two
to_both : (u v : Vector) → (w : Vector) × (¬ (w ≡ 𝟎)) × (w · u ≡ pos 0) × (w · v ≡ pos 0)
to_both u v = go (vector_discrete (u ⨯ v) 𝟎) (vector_discrete u 𝟎) (vector_discrete v 𝟎)
  where
    one : Vector
    one = vector (pos 1) (pos 0) (pos 0)

    go : Dec (u ⨯ v ≡ 𝟎) → Dec (u ≡ 𝟎) → Dec (v ≡ 𝟎) → (w : Vector) × (¬ (w ≡ 𝟎)) × (w · u ≡ pos 0) × (w · v ≡ pos 0)
    go (no n) p q = (u ⨯ v, n, cross_first u v, cross_second u v)
    go (yes l) (no n) q = let w = at_right_angles u n in (w.0, w.1, w.2, along_line u v w.0 n l w.2)
    go (yes l) (yes p) (no n) = let w = at_right_angles v n in (w.0, w.1, dot_nothing w.0 u p, w.2)
    go (yes l) (yes p) (yes q) = (one, λ e. absurd (omega (arith, lin, ap (λ (w : Vector). w.x) e)), dot_nothing one u p, dot_nothing one v q)

-- and to three, where their triple product is 0
to_three : (u v t : Vector) → u · (v ⨯ t) ≡ pos 0 → (w : Vector) × (¬ (w ≡ 𝟎)) × (w · u ≡ pos 0) × (w · v ≡ pos 0) × (w · t ≡ pos 0)
to_three u v t h = go (vector_discrete (u ⨯ v) 𝟎) (vector_discrete u 𝟎)
  where
    go : Dec (u ⨯ v ≡ 𝟎) → Dec (u ≡ 𝟎) → (w : Vector) × (¬ (w ≡ 𝟎)) × (w · u ≡ pos 0) × (w · v ≡ pos 0) × (w · t ≡ pos 0)
    go (no n) p = (u ⨯ v, n, cross_first u v, cross_second u v, triple u v t ∙ h)
    go (yes l) (no n) = let w = to_both u t in (w.0, w.1, w.2, along_line u v w.0 n l w.2, w.3)
    go (yes l) (yes p) = let w = to_both v t in (w.0, w.1, dot_nothing w.0 u p, w.2, w.3)

pub det_plane : (p q r s : Vector) → det p q r s ≡ pos 0 → (w : Vector) × (¬ (w ≡ 𝟎)) × (w · p ≡ w · s) × (w · q ≡ w · s) × (w · r ≡ w · s)
det_plane p q r s h =
    let w = to_three (p -ᵛ s) (q -ᵛ s) (r -ᵛ s) (sym (det-differences p q r s) ∙ h) in
    (w.0, w.1, level_minus w.0 p s w.2, level_minus w.0 q s w.3, level_minus w.0 r s w.4)
