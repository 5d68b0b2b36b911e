-- One bit of a mask, and the lowest corner from a number on.
use Rattle.std.proofs.Common.{◌≡◌, ℕ, zero, suc, ◌+◌, ◌-◌, ◌*◌, ◌/◌, ◌%◌, ◌^◌, ◌<◌, ◌≤◌, max, Bool, true, false, eqb, ap, ◌∙◌, inl, inr, find, unwrap_or, Option, Some, None, MatchOption, sym, refl, arith, pow_mono}
use Rattle.std.specs.List.{range_with_len}
use lib.Bits.{bit_and}
use Rattle.std.proofs.lemmas.Nat.{and_mask, pow_pos, div_below}
use Rattle.std.proofs.lemmas.Bool.{both_ways, cases_lt, cases_eq, cond_both, cond-true, cond-false}
use Rattle.rules.specs.Masks.{lies, lowest, next}

pub bit : (k m : ℕ) → eqb (bit_and (m / 2 ^ k) 1) 1 ≡ lies k m
unfolding lies
bit k m = ap (λ n. eqb n 1) (and_mask (m / 2 ^ k) 1)

-- a number below 2 ^ c has no bit from c on
bit_none : (k m c : ℕ) → m < 2 ^ c → c ≤ k → lies k m ≡ false
unfolding lies
bit_none k m c h l = ap (λ n. eqb (n % 2) 1) none
  where
    wide : m < 1 * 2 ^ k
    wide = omega (arith, pow_mono l)

    none : m / 2 ^ k ≡ 0
    none = omega (arith, div_below m (2 ^ k) 1 (pow_pos k) wide)

pub bit_past : (k m : ℕ) → m < 2 ^ 32 → 32 ≤ k → lies k m ≡ false
bit_past k m h l = bit_none k m 32 h l

pub bit_below : (k m c : ℕ) → m < 2 ^ c → lies k m ≡ true → k < c
bit_below k m c h e = elim (cases_lt k c) [ inl l ↦ l | inr l ↦ absurd (both_ways (lies k m) (bit_none k m c h l) e) ]

-- ---- the lowest of n numbers from a on that passes
-- what the library says number by number is what `find` gives
pub find-first : (p : ℕ → Bool) (a n e : ℕ) → e - a ≡ n → (r : Option ℕ)
    → MatchOption r ((k : ℕ) → a ≤ k → k < e → p k ≡ false) (λ i. (a ≤ i) × (i < e) × (p i ≡ true) × ((k : ℕ) → a ≤ k → k < i → p k ≡ false))
    → r ≡ find p (range_with_len a n)
find-first p a zero e q None h = refl
find-first p a zero e q (Some i) h = absurd (omega (arith, h.0, h.1))
find-first p a (suc n) e q None h =
    let no = h a (omega arith) (omega arith) in
    find-first p (a + 1) n e (omega arith) None (λ k l u. h k (omega arith) u) ∙ sym (cond-false (p a) (Some a) (find p (range_with_len (a + 1) n)) no)
find-first p a (suc n) e q (Some i) h = elim (cases_eq a i) [
  | inl s ↦ ap Some (sym s) ∙ sym (cond-true (p a) (Some a) (find p (range_with_len (a + 1) n)) (ap p s ∙ h.2))
  | inr d ↦
      find-first p (a + 1) n e (omega arith) (Some i) (omega (arith, d, h.0), h.1, h.2, λ k l u. h.3 k (omega arith) u)
      ∙ sym (cond-false (p a) (Some a) (find p (range_with_len (a + 1) n)) (h.3 a (omega arith) (omega (arith, d, h.0))))
]

-- what is found among n numbers from a on, or else e, is at most e
found_most : (p : ℕ → Bool) (a n e : ℕ) → a + n ≤ e → unwrap_or (find p (range_with_len a n)) e ≤ e
found_most p a zero e h = omega arith
found_most p a (suc n) e h =
    cond_both (p a) (Some a) (find p (range_with_len (a + 1) n)) (λ r. unwrap_or r e ≤ e) (λ t. omega arith) (λ t. found_most p (a + 1) n e (omega arith))

pub next_most : (a m : ℕ) → next a m ≤ max a 32
unfolding lowest
next_most a m = found_most (λ k. lies k m) a (32 - a) (max a 32) (omega arith)
