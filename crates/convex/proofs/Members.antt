-- Members of a list of vectors: what holds of all holds of each, a search through a list, and the members of lists made of others.
use Rattle.std.proofs.Common.{◌≡◌, ℕ, zero, suc, ◌<◌, ◌⊎◌, List, [], ◌∷◌, ◌++◌, map, length, get_or, sym, refl, ap, subst, inl, inr, arith}
use Rattle.std.specs.List.{AllByRecursion}
use Rattle.vector.specs.declared.Vector.{Vector}
use Rattle.vector.specs.Vectors.{◌+ᵛ◌, 𝟎}
use Rattle.convex.specs.Points.{◌∈◌}
use Rattle.convex.specs.Sides.{sums}

pub all_in : (Q : Vector → Type 0) (L : List Vector) → AllByRecursion Q L → (v : Vector) → v ∈ L → Q v
all_in Q [] a v h = absurd h
all_in Q (u ∷ L) a v (inl e) = subst Q (sym e) a.0
all_in Q (u ∷ L) a v (inr h) = all_in Q L a.1 v h

pub all_from_in : (Q : Vector → Type 0) (L : List Vector) → ((v : Vector) → v ∈ L → Q v) → AllByRecursion Q L
all_from_in Q [] f = tt
all_from_in Q (u ∷ L) f = (f u (inl refl), all_from_in Q L (λ v h. f v (inr h)))

-- the member of a number
pub in_at : (L : List Vector) (k : ℕ) → k < length L → get_or L k 𝟎 ∈ L
in_at [] k h = absurd (omega arith)
in_at (u ∷ L) zero h = inl refl
in_at (u ∷ L) (suc k) h = inr (in_at L k (omega arith))

-- a member with Q, or none
pub find : (Q : Vector → Type 0) → ((v : Vector) → Dec (Q v)) → (L : List Vector) → ((v : Vector) × v ∈ L × Q v) ⊎ AllByRecursion (λ v. ¬ (Q v)) L
find Q d [] = inr tt
find Q d (u ∷ L) = go (d u) (find Q d L)
  where
    go : Dec (Q u) → ((v : Vector) × v ∈ L × Q v) ⊎ AllByRecursion (λ v. ¬ (Q v)) L → ((v : Vector) × v ∈ (u ∷ L) × Q v) ⊎ AllByRecursion (λ v. ¬ (Q v)) (u ∷ L)
    go (yes q) r = inl (u, inl refl, q)
    go (no q) (inl r) = inl (r.0, inr r.1, r.2)
    go (no q) (inr r) = inr (q, r)

-- ---- two lists, one after the other
pub in_left : (X Y : List Vector) (v : Vector) → v ∈ X → v ∈ (X ++ Y)
in_left [] Y v h = absurd h
in_left (x ∷ X) Y v (inl e) = inl e
in_left (x ∷ X) Y v (inr h) = inr (in_left X Y v h)

pub in_right : (X Y : List Vector) (v : Vector) → v ∈ Y → v ∈ (X ++ Y)
in_right [] Y v h = h
in_right (x ∷ X) Y v h = inr (in_right X Y v h)

pub in_either : (X Y : List Vector) (v : Vector) → v ∈ (X ++ Y) → (v ∈ X) ⊎ (v ∈ Y)
in_either [] Y v h = inr h
in_either (x ∷ X) Y v (inl e) = inl (inl e)
in_either (x ∷ X) Y v (inr h) = elim (in_either X Y v h) [ inl k ↦ inl (inr k) | inr k ↦ inr k ]

pub all_left : {A : Type 0} (Q : A → Type 0) (X Y : List A) → AllByRecursion Q (X ++ Y) → AllByRecursion Q X
all_left Q [] Y a = tt
all_left Q (x ∷ X) Y a = (a.0, all_left Q X Y a.1)

pub all_right : {A : Type 0} (Q : A → Type 0) (X Y : List A) → AllByRecursion Q (X ++ Y) → AllByRecursion Q Y
all_right Q [] Y a = a
all_right Q (x ∷ X) Y a = all_right Q X Y a.1

pub all_both : {A : Type 0} (Q : A → Type 0) (X Y : List A) → AllByRecursion Q X → AllByRecursion Q Y → AllByRecursion Q (X ++ Y)
all_both Q [] Y a b = b
all_both Q (x ∷ X) Y a b = (a.0, all_both Q X Y a.1 b)

-- ---- a list, member by member
pub in_map : (f : Vector → Vector) (L : List Vector) (v : Vector) → v ∈ L → f v ∈ map f L
in_map f [] v h = absurd h
in_map f (u ∷ L) v (inl e) = inl (ap f e)
in_map f (u ∷ L) v (inr h) = inr (in_map f L v h)

pub from_map : (f : Vector → Vector) (L : List Vector) (v : Vector) → v ∈ map f L → (u : Vector) × u ∈ L × (v ≡ f u)
from_map f [] v h = absurd h
from_map f (u ∷ L) v (inl e) = (u, inl refl, e)
from_map f (u ∷ L) v (inr h) = let r = from_map f L v h in (r.0, inr r.1, r.2)

-- ---- sums
pub in_sums : (A B : List Vector) (a b : Vector) → a ∈ A → b ∈ B → (a +ᵛ b) ∈ sums A B
in_sums [] B a b h k = absurd h
in_sums (c ∷ A) B a b (inl e) k = in_left (map (λ d. c +ᵛ d) B) (sums A B) (a +ᵛ b) (subst (λ (t : Vector). (a +ᵛ b) ∈ map (λ d. t +ᵛ d) B) e (in_map (λ d. a +ᵛ d) B b k))
in_sums (c ∷ A) B a b (inr h) k = in_right (map (λ d. c +ᵛ d) B) (sums A B) (a +ᵛ b) (in_sums A B a b h k)

pub from_sums : (A B : List Vector) (v : Vector) → v ∈ sums A B → (a : Vector) × (b : Vector) × a ∈ A × b ∈ B × (v ≡ a +ᵛ b)
from_sums [] B v h = absurd h
from_sums (c ∷ A) B v h = elim (in_either (map (λ d. c +ᵛ d) B) (sums A B) v h) [
  | inl k ↦ let r = from_map (λ d. c +ᵛ d) B v k in (c, r.0, inl refl, r.1, r.2)
  | inr k ↦ let r = from_sums A B v k in (r.0, r.1, inr r.2, r.3, r.4)
]
