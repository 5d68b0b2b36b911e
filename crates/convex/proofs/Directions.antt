-- A direction's products over a list of vectors: none positive, all negative, and the list seen from one of its corners.
use Rattle.std.proofs.Common.{◌≡◌, List, [], ◌∷◌, map, ℤ, pos, ◌-ℤ◌, ◌≤ℤ◌, ◌<ℤ◌, arith}
use Rattle.std.specs.List.{AllByRecursion}
use Rattle.vector.specs.declared.Vector.{Vector}
use Rattle.vector.specs.Vectors.{◌·◌, ◌-ᵛ◌, 𝟎}
use Rattle.vector.proofs.Order.{lin}
use Rattle.vector.proofs.Identities.{dot-minus}
use Rattle.convex.specs.Points.{◌∈◌}
use Rattle.convex.specs.Products.{Top}
use Rattle.convex.specs.Faces.{Spanning}
use Rattle.convex.proofs.Members.{all_in, all_from_in, in_map, from_map}

-- no product is positive
abbrev pub Weak : Vector → List Vector → Type 0
Weak n L = AllByRecursion (λ v. (n · v) ≤ℤ pos 0) L

-- every product is negative
abbrev pub Strict : Vector → List Vector → Type 0
Strict n L = AllByRecursion (λ v. (n · v) <ℤ pos 0) L

pub weak_at : (m : Vector) (L : List Vector) → Weak m L → (v : Vector) → v ∈ L → (m · v) ≤ℤ pos 0
weak_at m L = all_in (λ v. (m · v) ≤ℤ pos 0) L

-- no plane through 0 holds all
abbrev pub Round : List Vector → Type 0
Round L = (w : Vector) → ¬ (w ≡ 𝟎) → ¬ (AllByRecursion (λ v. w · v ≡ pos 0) L)

-- ---- a list seen from the corner q
abbrev pub seen : Vector → List Vector → List Vector
seen q P = map (λ p. p -ᵛ q) P

pub in_seen : (q : Vector) (P : List Vector) (p : Vector) → p ∈ P → (p -ᵛ q) ∈ seen q P
in_seen q P p h = in_map (λ p. p -ᵛ q) P p h

pub from_seen : (q : Vector) (P : List Vector) (v : Vector) → v ∈ seen q P → (p : Vector) × p ∈ P × (v ≡ p -ᵛ q)
from_seen q P v h = from_map (λ p. p -ᵛ q) P v h

-- from a corner with the greatest product, no product is positive
pub weak_seen : (n q : Vector) (P : List Vector) → AllByRecursion (λ p. (n · p) ≤ℤ (n · q)) P → Weak n (seen q P)
weak_seen n q [] a = tt
weak_seen n q (p ∷ P) a = (scalar (n · p) (n · q) (n · (p -ᵛ q)) (dot-minus n p q) a.0, weak_seen n q P a.1)
  where
    scalar : (a b c : ℤ) → c ≡ a -ℤ b → a ≤ℤ b → c ≤ℤ pos 0
    scalar a b c e h = omega (arith, lin)

-- and the reverse
pub top_seen : (n q : Vector) (P : List Vector) → q ∈ P → Weak n (seen q P) → Top n P q
top_seen n q P h w = record { member = h; most = all_from_in (λ p. (n · p) ≤ℤ (n · q)) P (λ p k. scalar (n · p) (n · q) (n · (p -ᵛ q)) (dot-minus n p q) (weak_at n (seen q P) w (p -ᵛ q) (in_seen q P p k))) }
  where
    scalar : (a b c : ℤ) → c ≡ a -ℤ b → c ≤ℤ pos 0 → a ≤ℤ b
    scalar a b c e h = omega (arith, lin)

-- a corner is as high as q where its difference to q has product 0
pub level_minus : (m p q : Vector) → m · (p -ᵛ q) ≡ pos 0 → m · p ≡ m · q
level_minus m p q h = scalar (m · p) (m · q) (m · (p -ᵛ q)) (dot-minus m p q) h
  where
    scalar : (a b c : ℤ) → c ≡ a -ℤ b → c ≡ pos 0 → a ≡ b
    scalar a b c e h = omega (arith, lin)

-- no plane through 0 holds a spanning list seen from any corner
pub round_seen : (q : Vector) (P : List Vector) → Spanning P → Round (seen q P)
round_seen q P span w w≠ a = span w w≠ (w · q) (all_from_in (λ p. w · p ≡ w · q) P (λ p h. level_minus w p q (all_in (λ v. w · v ≡ pos 0) (seen q P) a (p -ᵛ q) (in_seen q P p h))))
