-- ℤ as an ordered ring: products of signs, an inequality multiplied, and a factor cancelled.
-- Linear steps are `omega (arith, lin)`, with every product an unknown.
use Rattle.std.proofs.Common.{◌≡◌, zero, suc, ◌⊎◌, [], ◌∷◌, ℤ, pos, negsuc, ◌+ℤ◌, ◌-ℤ◌, ◌*ℤ◌, neg_ℤ, ◌≤ℤ◌, ◌<ℤ◌, refl, inl, inr, arith}
pub use lib.IntN.{*ℤ-zero as times_nought, zero-*ℤ as nought_times}
use borrow.Author.Differences.{same_out, Apart-out, lt_out, le_out, same_in, below_in, at_most_in, sum_is_lem, neg_is, abs_is}
use Rattle.vector.proofs.Ring.{var, num, ◌⊕◌, ◌⊗◌, ◌⊝◌, neg, ring}

-- linear arithmetic over ℤ, with products as unknowns
pub ruleset lin = (same_out, Apart-out, lt_out, le_out, same_in, below_in, at_most_in, sum_is_lem, neg_is, abs_is)

-- ---- the sign of a number
pub data Sign (a : ℤ) : Type 0 where
  minus : a <ℤ pos 0 → Sign a
  nought : a ≡ pos 0 → Sign a
  plus : pos 0 <ℤ a → Sign a

pub sign : (a : ℤ) → Sign a
sign (pos zero) = nought refl
sign (pos (suc n)) = plus (omega (arith, lin))
sign (negsuc n) = minus (omega (arith, lin))

pub le_or_lt : (a b : ℤ) → (a ≤ℤ b) ⊎ (b <ℤ a)
le_or_lt a b = go (sign (a -ℤ b))
  where
    go : Sign (a -ℤ b) → (a ≤ℤ b) ⊎ (b <ℤ a)
    go (minus h) = inl (omega (arith, lin))
    go (nought h) = inl (omega (arith, lin))
    go (plus h) = inr (omega (arith, lin))

-- ---- products of signs
pub mul_nonneg : (a b : ℤ) → pos 0 ≤ℤ a → pos 0 ≤ℤ b → pos 0 ≤ℤ (a *ℤ b)
mul_nonneg (pos a) (pos b) h k = omega (arith, lin)
mul_nonneg (pos a) (negsuc b) h k = absurd (omega (arith, lin))
mul_nonneg (negsuc a) b h k = absurd (omega (arith, lin))

pub mul_mono : (k a b : ℤ) → pos 0 ≤ℤ k → a ≤ℤ b → (k *ℤ a) ≤ℤ (k *ℤ b)
mul_mono k a b h l =
    let p = mul_nonneg k (b -ℤ a) h (omega (arith, lin)) in
    let e : k *ℤ (b -ℤ a) ≡ k *ℤ b -ℤ k *ℤ a = ring (k ∷ a ∷ b ∷ []) (var 0 ⊗ (var 2 ⊝ var 1)) (var 0 ⊗ var 2 ⊝ var 0 ⊗ var 1) refl in
    omega (arith, lin)

pub mul_strict : (k a b : ℤ) → pos 0 <ℤ k → a <ℤ b → (k *ℤ a) <ℤ (k *ℤ b)
mul_strict k a b h l =
    let p = mul_nonneg (k -ℤ pos 1) (b -ℤ a -ℤ pos 1) (omega (arith, lin)) (omega (arith, lin)) in
    let e : (k -ℤ pos 1) *ℤ (b -ℤ a -ℤ pos 1) ≡ k *ℤ b -ℤ k *ℤ a -ℤ k -ℤ b +ℤ a +ℤ pos 1 =
    ring (k ∷ a ∷ b ∷ []) ((var 0 ⊝ num (pos 1)) ⊗ (var 2 ⊝ var 1 ⊝ num (pos 1))) (var 0 ⊗ var 2 ⊝ var 0 ⊗ var 1 ⊝ var 0 ⊝ var 2 ⊕ var 1 ⊕ num (pos 1)) refl in
    omega (arith, lin)

pub one_times : (k : ℤ) → pos 1 *ℤ k ≡ k
one_times k = ring (k ∷ []) (num (pos 1) ⊗ var 0) (var 0) refl

pub neg-times : (a b : ℤ) → neg_ℤ a *ℤ b ≡ neg_ℤ (a *ℤ b)
neg-times a b = ring (a ∷ b ∷ []) (neg (var 0) ⊗ var 1) (neg (var 0 ⊗ var 1)) refl

pub mul_pos : (a b : ℤ) → pos 0 <ℤ a → pos 0 <ℤ b → pos 0 <ℤ (a *ℤ b)
mul_pos a b h k = omega (arith, lin, mul_strict a (pos 0) b h k, times_nought a)

pub mul_neg : (a b : ℤ) → pos 0 <ℤ a → b <ℤ pos 0 → (a *ℤ b) <ℤ pos 0
mul_neg a b h k = omega (arith, lin, mul_strict a b (pos 0) h k, times_nought a)

pub mul_nonpos : (a b : ℤ) → pos 0 ≤ℤ a → b ≤ℤ pos 0 → (a *ℤ b) ≤ℤ pos 0
mul_nonpos a b h k = omega (arith, lin, mul_mono a b (pos 0) h k, times_nought a)

-- a number below 0, times k ≥ 0, is at most -k
pub mul_below : (k a : ℤ) → pos 0 ≤ℤ k → a <ℤ pos 0 → (k *ℤ a) ≤ℤ neg_ℤ k
mul_below k a h l =
    let p = mul_mono k a (negsuc 0) h (omega (arith, lin)) in
    let e : k *ℤ negsuc 0 ≡ neg_ℤ k = ring (k ∷ []) (var 0 ⊗ num (negsuc 0)) (neg (var 0)) refl in
    omega (arith, lin)

-- ---- a factor cancelled
pub cancel_le : (k a b : ℤ) → pos 0 <ℤ k → (k *ℤ a) ≤ℤ (k *ℤ b) → a ≤ℤ b
cancel_le k a b h l = elim (le_or_lt a b) [ inl q ↦ q | inr q ↦ absurd (omega (arith, lin, mul_strict k b a h q)) ]

pub cancel_lt : (k a b : ℤ) → pos 0 ≤ℤ k → (k *ℤ a) <ℤ (k *ℤ b) → a <ℤ b
cancel_lt k a b h l = elim (le_or_lt b a) [ inl q ↦ absurd (omega (arith, lin, mul_mono k b a h q)) | inr q ↦ q ]

pub cancel_nought : (k a : ℤ) → pos 0 <ℤ k → k *ℤ a ≡ pos 0 → a ≡ pos 0
cancel_nought k a h e = elim (sign a)
    [ minus q ↦ absurd (omega (arith, lin, mul_neg k a h q)) | nought q ↦ q | plus q ↦ absurd (omega (arith, lin, mul_pos k a h q)) ]

pub cancel : (k a : ℤ) → ¬ (k ≡ pos 0) → k *ℤ a ≡ pos 0 → a ≡ pos 0
cancel k a h e = elim (sign k) [
  | minus q ↦ cancel_nought (neg_ℤ k) a (omega (arith, lin)) (omega (arith, lin, e, neg-times k a))
  | nought q ↦ absurd (h q)
  | plus q ↦ cancel_nought k a q e
]

-- ---- squares
pub square_nonneg : (a : ℤ) → pos 0 ≤ℤ (a *ℤ a)
square_nonneg (pos a) = omega (arith, lin)
square_nonneg (negsuc a) = omega (arith, lin)

pub square_pos : (a : ℤ) → ¬ (a ≡ pos 0) → pos 0 <ℤ (a *ℤ a)
square_pos (pos zero) h = absurd (h refl)
square_pos (pos (suc a)) h = omega (arith, lin)
square_pos (negsuc a) h = omega (arith, lin)
