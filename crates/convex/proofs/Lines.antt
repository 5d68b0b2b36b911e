-- Vectors on one line (u ⨯ v ≡ 𝟎), and positive multiples.
use Rattle.std.proofs.Common.{◌≡◌, ◌⊎◌, [], ◌∷◌, ℤ, pos, negsuc, ◌*ℤ◌, ◌<ℤ◌, sym, refl, ap, ◌∙◌, inl, inr, arith}
use Rattle.vector.specs.declared.Vector.{Vector}
use Rattle.vector.specs.Vectors.{◌·◌, ◌⨯◌, ◌+ᵛ◌, ◌-ᵛ◌, ◌∗◌, negᵛ, 𝟎}
use Rattle.vector.proofs.Ring.{var, num}
use Rattle.vector.proofs.Order.{lin, sign, minus, nought, plus}
use Rattle.vector.proofs.Identities.{◌·ₑ◌, ◌⨯ₑ◌, ◌+ₑ◌, ◌-ₑ◌, ◌∗ₑ◌, negₑ, 𝟎ₑ, vec, env, ringᵛ, neg-neg, neg-dot, times-dot, dot_comm, times-𝟎, cancel_times, swapped, norm_pos, along_line}
use Rattle.convex.specs.Sides.{Multiple}

-- ---- opposites, differences and multiples
pub neg_nonzero : (v : Vector) → ¬ (v ≡ 𝟎) → ¬ (negᵛ v ≡ 𝟎)
neg_nonzero v h e = h (sym (neg-neg v) ∙ ap negᵛ e)

pub apart : (p q : Vector) → ¬ (p ≡ q) → ¬ (q -ᵛ p ≡ 𝟎)
apart p q h e = h (back p q ∙ ap (λ (t : Vector). q -ᵛ t) e ∙ less_nothing q)
  where
    back : (p q : Vector) → p ≡ q -ᵛ (q -ᵛ p)
    back p q = ringᵛ (env (p ∷ q ∷ []) []) (vec 0) (vec 1 -ₑ (vec 1 -ₑ vec 0)) refl refl refl

    less_nothing : (q : Vector) → q -ᵛ 𝟎 ≡ q
    less_nothing q = ringᵛ (env (q ∷ []) []) (vec 0 -ₑ 𝟎ₑ) (vec 0) refl refl refl

-- ---- one line
pub flip : (u v : Vector) → u ⨯ v ≡ 𝟎 → v ⨯ u ≡ 𝟎
flip u v e = swapped v u ∙ ap negᵛ e

-- three points, of which the first two are one
pub two_in_line : (p q r : Vector) → p ≡ q → (q -ᵛ p) ⨯ (r -ᵛ p) ≡ 𝟎
two_in_line p q r e = ap (λ (t : Vector). (q -ᵛ t) ⨯ (r -ᵛ p)) e ∙ ringᵛ (env (p ∷ q ∷ r ∷ []) []) ((vec 1 -ₑ vec 1) ⨯ₑ (vec 2 -ₑ vec 0)) 𝟎ₑ refl refl refl

-- a vector on the line of w is (w · v ÷ w · w) ∗ w
pub on_line : (w v : Vector) → w ⨯ v ≡ 𝟎 → (w · w) ∗ v ≡ (w · v) ∗ w
on_line w v e = expanded w v ∙ ap (λ (t : Vector). (w · v) ∗ w -ᵛ w ⨯ t) e ∙ nothing w ((w · v) ∗ w)
  where
    expanded : (w v : Vector) → (w · w) ∗ v ≡ (w · v) ∗ w -ᵛ w ⨯ (w ⨯ v)
    expanded w v = ringᵛ (env (w ∷ v ∷ []) []) ((vec 0 ·ₑ vec 0) ∗ₑ vec 1) ((vec 0 ·ₑ vec 1) ∗ₑ vec 0 -ₑ vec 0 ⨯ₑ (vec 0 ⨯ₑ vec 1)) refl refl refl

    nothing : (w v : Vector) → v -ᵛ w ⨯ 𝟎 ≡ v
    nothing w v = ringᵛ (env (w ∷ v ∷ []) []) (vec 1 -ₑ vec 0 ⨯ₑ 𝟎ₑ) (vec 1) refl refl refl

-- two vectors on the line of a third, which is not 0, are on one line
pub through : (w u v : Vector) → ¬ (w ≡ 𝟎) → w ⨯ u ≡ 𝟎 → w ⨯ v ≡ 𝟎 → u ⨯ v ≡ 𝟎
through w u v h a b = cancel_times (w · w) (u ⨯ v) 𝟎 (norm_pos w h)
    (out (w · w) u v ∙ ap (λ (t : Vector). t ⨯ v) (on_line w u a) ∙ sym (out (w · u) w v) ∙ ap (λ (t : Vector). (w · u) ∗ t) b ∙ times-𝟎 (w · u) ∙ sym (times-𝟎 (w · w)))
  where
    out : (k : ℤ) (u v : Vector) → k ∗ (u ⨯ v) ≡ (k ∗ u) ⨯ v
    out k u v = ringᵛ (env (u ∷ v ∷ []) (k ∷ [])) (var 6 ∗ₑ (vec 0 ⨯ₑ vec 1)) ((var 6 ∗ₑ vec 0) ⨯ₑ vec 1) refl refl refl

-- the sum of two vectors on the line of w is on it
pub line_plus : (w u v : Vector) → w ⨯ u ≡ 𝟎 → w ⨯ v ≡ 𝟎 → w ⨯ (u +ᵛ v) ≡ 𝟎
line_plus w u v a b = ringᵛ (env (w ∷ u ∷ v ∷ []) []) (vec 0 ⨯ₑ (vec 1 +ₑ vec 2)) (vec 0 ⨯ₑ vec 1 +ₑ vec 0 ⨯ₑ vec 2) refl refl refl ∙ (λ i. a i +ᵛ b i)

-- what is at right angles to u and to v is on the line of u ⨯ v
pub normal_line : (n u v : Vector) → n · u ≡ pos 0 → n · v ≡ pos 0 → (u ⨯ v) ⨯ n ≡ 𝟎
normal_line n u v a b = expanded n u v ∙ (λ i. a i ∗ v -ᵛ b i ∗ u) ∙ nothing u v
  where
    expanded : (n u v : Vector) → (u ⨯ v) ⨯ n ≡ (n · u) ∗ v -ᵛ (n · v) ∗ u
    expanded n u v = ringᵛ (env (n ∷ u ∷ v ∷ []) []) ((vec 1 ⨯ₑ vec 2) ⨯ₑ vec 0) ((vec 0 ·ₑ vec 1) ∗ₑ vec 2 -ₑ (vec 0 ·ₑ vec 2) ∗ₑ vec 1) refl refl refl

    nothing : (u v : Vector) → pos 0 ∗ v -ᵛ pos 0 ∗ u ≡ 𝟎
    nothing u v = ringᵛ (env (u ∷ v ∷ []) []) (num (pos 0) ∗ₑ vec 1 -ₑ num (pos 0) ∗ₑ vec 0) 𝟎ₑ refl refl refl

-- ---- positive multiples
-- by positive numbers of ℤ
pub multiple : (j k : ℤ) (n f : Vector) → pos 0 <ℤ j → pos 0 <ℤ k → j ∗ n ≡ k ∗ f → Multiple n f
multiple (pos j) (pos k) n f hj hk h = record { over = k; under = j; over_positive = omega (arith, lin); under_positive = omega (arith, lin); is = h }
multiple (pos j) (negsuc k) n f hj hk h = absurd (omega (arith, lin))
multiple (negsuc j) k n f hj hk h = absurd (omega (arith, lin))

-- on the line of w, with a positive product with it
pub same_way : (n w : Vector) → ¬ (w ≡ 𝟎) → w ⨯ n ≡ 𝟎 → pos 0 <ℤ (w · n) → Multiple n w
same_way n w h e k = multiple (w · w) (w · n) n w (norm_pos w h) k (on_line w n e)

-- a multiple has the products of the other, times the factor
pub multiple_dot : (n f : Vector) (m : Multiple n f) (v : Vector) → pos m.under *ℤ (n · v) ≡ pos m.over *ℤ (f · v)
multiple_dot n f m v = sym (times-dot (pos m.under) n v) ∙ ap (λ (t : Vector). t · v) m.is ∙ times-dot (pos m.over) f v

pub either_way : (n w : Vector) → ¬ (n ≡ 𝟎) → ¬ (w ≡ 𝟎) → w ⨯ n ≡ 𝟎 → Multiple n w ⊎ Multiple n (negᵛ w)
either_way n w hn hw e = elim (sign (w · n)) [
  | minus k ↦ inr (same_way n (negᵛ w) (neg_nonzero w hw) (turned w n ∙ ap negᵛ e) (omega (arith, lin, k, neg-dot w n)))
  | nought k ↦ absurd (omega (arith, lin, norm_pos n hn, along_line w n n hw e (dot_comm n w ∙ k)))
  | plus k ↦ inl (same_way n w hw e k)
]
  where
    turned : (w n : Vector) → negᵛ w ⨯ n ≡ negᵛ (w ⨯ n)
    turned w n = ringᵛ (env (w ∷ n ∷ []) []) (negₑ (vec 0) ⨯ₑ vec 1) (negₑ (vec 0 ⨯ₑ vec 1)) refl refl refl

-- the opposites of a multiple
pub turned_multiple : (n f : Vector) → Multiple (negᵛ n) f → Multiple n (negᵛ f)
turned_multiple n f m = record {
  over = m.over;
  under = m.under;
  over_positive = m.over_positive;
  under_positive = m.under_positive;
  is = inward (pos m.under) n ∙ ap negᵛ m.is ∙ outward (pos m.over) f;
}
  where
    inward : (k : ℤ) (v : Vector) → k ∗ v ≡ negᵛ (k ∗ negᵛ v)
    inward k v = ringᵛ (env (v ∷ []) (k ∷ [])) (var 3 ∗ₑ vec 0) (negₑ (var 3 ∗ₑ negₑ (vec 0))) refl refl refl

    outward : (k : ℤ) (v : Vector) → negᵛ (k ∗ v) ≡ k ∗ negᵛ v
    outward k v = ringᵛ (env (v ∷ []) (k ∷ [])) (negₑ (var 3 ∗ₑ vec 0)) (var 3 ∗ₑ negₑ (vec 0)) refl refl refl
