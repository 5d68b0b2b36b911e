-- Identities of vectors, by `ring` on their components, and the laws of products that all theory cites.
--     ringᵛ vs e f refl refl refl      the vectors that e and f stand for are equal
--     env (u ∷ v ∷ []) (k ∷ [])        the variables: vec 0 is u, vec 1 is v, var 6 is k
use Rattle.std.proofs.Common.{◌≡◌, ℕ, ◌+◌, ◌*◌, List, [], ◌∷◌, ℤ, pos, ◌+ℤ◌, ◌-ℤ◌, ◌*ℤ◌, neg_ℤ, ◌≤ℤ◌, ◌<ℤ◌, refl, ap, ◌∙◌, arith}
use lib.IntN.{ℤ_discrete}
use Rattle.vector.specs.declared.Vector.{Vector}
use Rattle.vector.specs.Vectors.{vector, ◌·◌, ◌⨯◌, ◌+ᵛ◌, ◌-ᵛ◌, ◌∗◌, negᵛ, 𝟎}
use Rattle.vector.proofs.Ring.{Exp, var, num, ◌⊕◌, ◌⊗◌, ◌⊝◌, neg, eval, norm, ring}
use Rattle.vector.proofs.Order.{lin, square_nonneg, square_pos, cancel_nought, cancel_le}

-- ---- vectors of expressions
pub record VectorExp : Type 0 where
  pub x : Exp
  pub y : Exp
  pub z : Exp

infixl 65 ◌·ₑ◌
abbrev pub ◌·ₑ◌ : VectorExp → VectorExp → Exp
a ·ₑ b = a.x ⊗ b.x ⊕ a.y ⊗ b.y ⊕ a.z ⊗ b.z

infixl 66 ◌⨯ₑ◌
abbrev pub ◌⨯ₑ◌ : VectorExp → VectorExp → VectorExp
a ⨯ₑ b = record { x = a.y ⊗ b.z ⊝ a.z ⊗ b.y; y = a.z ⊗ b.x ⊝ a.x ⊗ b.z; z = a.x ⊗ b.y ⊝ a.y ⊗ b.x }

infixl 64 ◌+ₑ◌ ◌-ₑ◌
abbrev pub ◌+ₑ◌ : VectorExp → VectorExp → VectorExp
a +ₑ b = record { x = a.x ⊕ b.x; y = a.y ⊕ b.y; z = a.z ⊕ b.z }

abbrev pub ◌-ₑ◌ : VectorExp → VectorExp → VectorExp
a -ₑ b = record { x = a.x ⊝ b.x; y = a.y ⊝ b.y; z = a.z ⊝ b.z }

infixr 67 ◌∗ₑ◌
abbrev pub ◌∗ₑ◌ : Exp → VectorExp → VectorExp
k ∗ₑ a = record { x = k ⊗ a.x; y = k ⊗ a.y; z = k ⊗ a.z }

abbrev pub negₑ : VectorExp → VectorExp
negₑ a = record { x = neg a.x; y = neg a.y; z = neg a.z }

abbrev pub 𝟎ₑ : VectorExp
𝟎ₑ = record { x = num (pos 0); y = num (pos 0); z = num (pos 0) }

-- the vector whose components are the variables 3i, 3i + 1 and 3i + 2
abbrev pub vec : ℕ → VectorExp
vec i = record { x = var (3 * i); y = var (3 * i + 1); z = var (3 * i + 2) }

abbrev pub evalᵛ : List ℤ → VectorExp → Vector
evalᵛ vs e = vector (eval vs e.x) (eval vs e.y) (eval vs e.z)

-- the components of vectors, and then numbers
abbrev pub env : List Vector → List ℤ → List ℤ
env [] ks = ks
env (v ∷ vs) ks = v.x ∷ v.y ∷ v.z ∷ env vs ks

-- ---- equality of vectors
pub same_vector : {u v : Vector} → u.x ≡ v.x → u.y ≡ v.y → u.z ≡ v.z → u ≡ v
same_vector p q r i = vector (p i) (q i) (r i)

pub vector_discrete : (u v : Vector) → Dec (u ≡ v)
vector_discrete u v = go (ℤ_discrete u.x v.x) (ℤ_discrete u.y v.y) (ℤ_discrete u.z v.z)
  where
    go : Dec (u.x ≡ v.x) → Dec (u.y ≡ v.y) → Dec (u.z ≡ v.z) → Dec (u ≡ v)
    go (yes p) (yes q) (yes r) = yes (same_vector p q r)
    go (yes p) (yes q) (no r) = no (λ e. r (ap (λ (w : Vector). w.z) e))
    go (yes p) (no q) r = no (λ e. q (ap (λ (w : Vector). w.y) e))
    go (no p) q r = no (λ e. p (ap (λ (w : Vector). w.x) e))

pub ringᵛ : (vs : List ℤ) (e f : VectorExp) → norm e.x ≡ norm f.x → norm e.y ≡ norm f.y → norm e.z ≡ norm f.z → evalᵛ vs e ≡ evalᵛ vs f
ringᵛ vs e f p q r = same_vector (ring vs e.x f.x p) (ring vs e.y f.y q) (ring vs e.z f.z r)

pub neg-neg : (v : Vector) → negᵛ (negᵛ v) ≡ v
neg-neg v = ringᵛ (env (v ∷ []) []) (negₑ (negₑ (vec 0))) (vec 0) refl refl refl

-- a shift leaves differences as they are
pub shift_minus : (p q v : Vector) → (p +ᵛ v) -ᵛ (q +ᵛ v) ≡ p -ᵛ q
shift_minus p q v = ringᵛ (env (p ∷ q ∷ v ∷ []) []) ((vec 0 +ₑ vec 2) -ₑ (vec 1 +ₑ vec 2)) (vec 0 -ₑ vec 1) refl refl refl

-- ---- products with sums, differences and multiples
pub dot-minus : (n p q : Vector) → n · (p -ᵛ q) ≡ n · p -ℤ n · q
dot-minus n p q = ring (env (n ∷ p ∷ q ∷ []) []) (vec 0 ·ₑ (vec 1 -ₑ vec 2)) (vec 0 ·ₑ vec 1 ⊝ vec 0 ·ₑ vec 2) refl

pub dot-plus : (n p q : Vector) → n · (p +ᵛ q) ≡ n · p +ℤ n · q
dot-plus n p q = ring (env (n ∷ p ∷ q ∷ []) []) (vec 0 ·ₑ (vec 1 +ₑ vec 2)) (vec 0 ·ₑ vec 1 ⊕ vec 0 ·ₑ vec 2) refl

pub dot-times : (k : ℤ) (n p : Vector) → n · (k ∗ p) ≡ k *ℤ (n · p)
dot-times k n p = ring (env (n ∷ p ∷ []) (k ∷ [])) (vec 0 ·ₑ (var 6 ∗ₑ vec 1)) (var 6 ⊗ (vec 0 ·ₑ vec 1)) refl

pub times-dot : (k : ℤ) (n p : Vector) → (k ∗ n) · p ≡ k *ℤ (n · p)
times-dot k n p = ring (env (n ∷ p ∷ []) (k ∷ [])) ((var 6 ∗ₑ vec 0) ·ₑ vec 1) (var 6 ⊗ (vec 0 ·ₑ vec 1)) refl

pub dot_comm : (u v : Vector) → u · v ≡ v · u
dot_comm u v = ring (env (u ∷ v ∷ []) []) (vec 0 ·ₑ vec 1) (vec 1 ·ₑ vec 0) refl

pub dot-neg : (n p : Vector) → n · negᵛ p ≡ neg_ℤ (n · p)
dot-neg n p = ring (env (n ∷ p ∷ []) []) (vec 0 ·ₑ negₑ (vec 1)) (neg (vec 0 ·ₑ vec 1)) refl

pub neg-dot : (n p : Vector) → negᵛ n · p ≡ neg_ℤ (n · p)
neg-dot n p = ring (env (n ∷ p ∷ []) []) (negₑ (vec 0) ·ₑ vec 1) (neg (vec 0 ·ₑ vec 1)) refl

pub dot-𝟎 : (n : Vector) → n · 𝟎 ≡ pos 0
dot-𝟎 n = ring (env (n ∷ []) []) (vec 0 ·ₑ 𝟎ₑ) (num (pos 0)) refl

pub 𝟎-dot : (n : Vector) → 𝟎 · n ≡ pos 0
𝟎-dot n = ring (env (n ∷ []) []) (𝟎ₑ ·ₑ vec 0) (num (pos 0)) refl

-- the product with a vector that is 0
pub dot_nothing : (n v : Vector) → v ≡ 𝟎 → n · v ≡ pos 0
dot_nothing n v e = ap (λ (t : Vector). n · t) e ∙ dot-𝟎 n

-- one more term of a weighted sum
pub dot-weighted : (n : Vector) (w : ℤ) (p c : Vector) → n · (w ∗ p +ᵛ c) ≡ w *ℤ (n · p) +ℤ (n · c)
dot-weighted n w p c = ring (env (n ∷ p ∷ c ∷ []) (w ∷ [])) (vec 0 ·ₑ (var 9 ∗ₑ vec 1 +ₑ vec 2)) (var 9 ⊗ (vec 0 ·ₑ vec 1) ⊕ (vec 0 ·ₑ vec 2)) refl

pub times-𝟎 : (k : ℤ) → k ∗ 𝟎 ≡ 𝟎
times-𝟎 k = ringᵛ (k ∷ []) (var 0 ∗ₑ 𝟎ₑ) 𝟎ₑ refl refl refl

pub times_swap : (k l : ℤ) (v : Vector) → k ∗ l ∗ v ≡ l ∗ k ∗ v
times_swap k l v = ringᵛ (env (v ∷ []) (k ∷ l ∷ [])) (var 3 ∗ₑ var 4 ∗ₑ vec 0) (var 4 ∗ₑ var 3 ∗ₑ vec 0) refl refl refl

pub times-times : (k l : ℤ) (v : Vector) → (k *ℤ l) ∗ v ≡ k ∗ l ∗ v
times-times k l v = ringᵛ (env (v ∷ []) (k ∷ l ∷ [])) ((var 3 ⊗ var 4) ∗ₑ vec 0) (var 3 ∗ₑ var 4 ∗ₑ vec 0) refl refl refl

-- a positive factor cancelled
pub cancel_times : (k : ℤ) (u v : Vector) → pos 0 <ℤ k → k ∗ u ≡ k ∗ v → u ≡ v
cancel_times k u v h e = same_vector (part u.x v.x (ap (λ (t : Vector). t.x) e)) (part u.y v.y (ap (λ (t : Vector). t.y) e)) (part u.z v.z (ap (λ (t : Vector). t.z) e))
  where
    part : (a b : ℤ) → k *ℤ a ≡ k *ℤ b → a ≡ b
    part a b e = omega (arith, lin, cancel_le k a b h (omega (arith, lin, e)), cancel_le k b a h (omega (arith, lin, e)))

pub no_times : (p c : Vector) → pos 0 ∗ p +ᵛ c ≡ c
no_times p c = ringᵛ (env (p ∷ c ∷ []) []) (num (pos 0) ∗ₑ vec 0 +ₑ vec 1) (vec 1) refl refl refl

-- ---- cross products
pub cross_first : (u v : Vector) → (u ⨯ v) · u ≡ pos 0
cross_first u v = ring (env (u ∷ v ∷ []) []) ((vec 0 ⨯ₑ vec 1) ·ₑ vec 0) (num (pos 0)) refl

pub cross_second : (u v : Vector) → (u ⨯ v) · v ≡ pos 0
cross_second u v = ring (env (u ∷ v ∷ []) []) ((vec 0 ⨯ₑ vec 1) ·ₑ vec 1) (num (pos 0)) refl

-- the triple product
pub triple : (n u v : Vector) → (n ⨯ u) · v ≡ n · (u ⨯ v)
triple n u v = ring (env (n ∷ u ∷ v ∷ []) []) ((vec 0 ⨯ₑ vec 1) ·ₑ vec 2) (vec 0 ·ₑ (vec 1 ⨯ₑ vec 2)) refl

pub cyclic : (n u v : Vector) → n · (u ⨯ v) ≡ u · (v ⨯ n)
cyclic n u v = ring (env (n ∷ u ∷ v ∷ []) []) (vec 0 ·ₑ (vec 1 ⨯ₑ vec 2)) (vec 1 ·ₑ (vec 2 ⨯ₑ vec 0)) refl

pub swapped : (u v : Vector) → u ⨯ v ≡ negᵛ (v ⨯ u)
swapped u v = ringᵛ (env (u ∷ v ∷ []) []) (vec 0 ⨯ₑ vec 1) (negₑ (vec 1 ⨯ₑ vec 0)) refl refl refl

-- ---- vectors that are not 0
pub norm_pos : (v : Vector) → ¬ (v ≡ 𝟎) → pos 0 <ℤ (v · v)
norm_pos v h = go (ℤ_discrete v.x (pos 0)) (ℤ_discrete v.y (pos 0)) (ℤ_discrete v.z (pos 0))
  where
    a : pos 0 ≤ℤ (v.x *ℤ v.x)
    a = square_nonneg v.x

    b : pos 0 ≤ℤ (v.y *ℤ v.y)
    b = square_nonneg v.y

    c : pos 0 ≤ℤ (v.z *ℤ v.z)
    c = square_nonneg v.z

    go : Dec (v.x ≡ pos 0) → Dec (v.y ≡ pos 0) → Dec (v.z ≡ pos 0) → pos 0 <ℤ (v · v)
    go (yes p) (yes q) (yes r) = absurd (h (same_vector p q r))
    go (yes p) (yes q) (no r) = omega (arith, lin, a, b, square_pos v.z r)
    go (yes p) (no q) r = omega (arith, lin, a, c, square_pos v.y q)
    go (no p) q r = omega (arith, lin, b, c, square_pos v.x p)

-- some vector at right angles to n
pub at_right_angles : (n : Vector) → ¬ (n ≡ 𝟎) → (e : Vector) × (¬ (e ≡ 𝟎)) × (e · n ≡ pos 0)
at_right_angles n h = go (ℤ_discrete n.y (pos 0)) (ℤ_discrete n.z (pos 0))
  where
    e₁ : Vector
    e₁ = vector (pos 0) n.z (neg_ℤ n.y)

    o₁ : (n : Vector) → vector (pos 0) n.z (neg_ℤ n.y) · n ≡ pos 0
    o₁ n = ring (env (n ∷ []) []) (record { x = num (pos 0); y = var 2; z = neg (var 1) } ·ₑ vec 0) (num (pos 0)) refl

    e₂ : Vector
    e₂ = vector n.y (neg_ℤ n.x) (pos 0)

    o₂ : (n : Vector) → vector n.y (neg_ℤ n.x) (pos 0) · n ≡ pos 0
    o₂ n = ring (env (n ∷ []) []) (record { x = var 1; y = neg (var 0); z = num (pos 0) } ·ₑ vec 0) (num (pos 0)) refl

    go : Dec (n.y ≡ pos 0) → Dec (n.z ≡ pos 0) → (e : Vector) × (¬ (e ≡ 𝟎)) × (e · n ≡ pos 0)
    go (no p) q = (e₁, λ t. p (omega (arith, lin, ap (λ (w : Vector). w.z) t)), o₁ n)
    go (yes p) (no q) = (e₁, λ t. q (ap (λ (w : Vector). w.y) t), o₁ n)
    go (yes p) (yes q) = (e₂, λ t. h (same_vector (omega (arith, lin, ap (λ (w : Vector). w.y) t)) p q), o₂ n)

-- ---- vectors on one line: u ⨯ v ≡ 𝟎
-- what is at right angles to u is so to all on the line of u
pub along_line : (u v w : Vector) → ¬ (u ≡ 𝟎) → u ⨯ v ≡ 𝟎 → w · u ≡ pos 0 → w · v ≡ pos 0
along_line u v w h q o = cancel_nought (u · u) (w · v) (norm_pos u h) (expanded u v w ∙ (λ i. (u · v) *ℤ o i -ℤ w · (u ⨯ q i)) ∙ nothing u v w)
  where
    expanded : (u v w : Vector) → (u · u) *ℤ (w · v) ≡ (u · v) *ℤ (w · u) -ℤ w · (u ⨯ (u ⨯ v))
    expanded u v w = ring (env (u ∷ v ∷ w ∷ []) []) ((vec 0 ·ₑ vec 0) ⊗ (vec 2 ·ₑ vec 1)) ((vec 0 ·ₑ vec 1) ⊗ (vec 2 ·ₑ vec 0) ⊝ vec 2 ·ₑ (vec 0 ⨯ₑ (vec 0 ⨯ₑ vec 1))) refl

    nothing : (u v w : Vector) → (u · v) *ℤ pos 0 -ℤ w · (u ⨯ 𝟎) ≡ pos 0
    nothing u v w = ring (env (u ∷ v ∷ w ∷ []) []) ((vec 0 ·ₑ vec 1) ⊗ num (pos 0) ⊝ vec 2 ·ₑ (vec 0 ⨯ₑ 𝟎ₑ)) (num (pos 0)) refl

-- two vectors at right angles are not on one line
pub cross_nonzero : (n u : Vector) → ¬ (n ≡ 𝟎) → ¬ (u ≡ 𝟎) → n · u ≡ pos 0 → ¬ (n ⨯ u ≡ 𝟎)
cross_nonzero n u hn hu o q = absurd (omega (arith, lin, norm_pos u hu, along_line n u u hn q (dot_comm u n ∙ o)))

-- nor are two of which n is at right angles to one alone
pub independent : (n u v : Vector) → ¬ (u ≡ 𝟎) → n · u ≡ pos 0 → ¬ (n · v ≡ pos 0) → ¬ (u ⨯ v ≡ 𝟎)
independent n u v hu o h q = h (along_line u v n hu q o)
