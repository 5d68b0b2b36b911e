-- The entries of sums and of products of ridges, by their numbers: the number is taken apart by a division.
use Rattle.std.proofs.Common.{◌≡◌, ℕ, zero, suc, ◌+◌, ◌*◌, ◌/◌, ◌%◌, ◌<◌, ◌≤◌, List, length, get_or, Ok, sym, ap, ◌∙◌, arith}
use Rattle.std.proofs.lemmas.Nat.{div_below, mod_below, div-add-mod'}
use Rattle.vector.specs.declared.Vector.{Vector}
use Rattle.vector.specs.Vectors.{◌⨯◌, ◌+ᵛ◌, negᵛ, 𝟎}
use Rattle.convex.specs.Sides.{sums, products}
use Rattle.convex.proofs.Numbering.{length-sums, get_or-sums, length-products, get_or-products, get_or-opposites}
use Rattle.body.specs.Answers.{numbered}
use Rattle.body.proofs.Numbered.{numbered_in}

-- ---- a number below a·k, as row and column
pub some_columns : (a k t : ℕ) → t < a * k → 1 ≤ k
some_columns a zero t l = absurd (omega (arith, l))
some_columns a (suc k) t l = omega arith

module _ (a k t : ℕ) (l : t < a * k) where
  pub row_below : t / k < a
  row_below = div_below t k a (some_columns a k t l) l

  pub column_below : t % k < k
  column_below = mod_below t k (some_columns a k t l)

  pub row_column : t / k * k + t % k ≡ t
  row_column = div-add-mod' t k

-- ---- sums
pub numbered-sums : (A B : List Vector) (t : ℕ) → t < length A * length B → numbered (sums A B) t ≡ Ok (get_or A (t / length B) 𝟎 +ᵛ get_or B (t % length B) 𝟎)
numbered-sums A B t l =
    let k = length B in
    numbered_in (sums A B) t (omega (arith, length-sums A B))
    ∙ ap (λ n. Ok (get_or (sums A B) n 𝟎)) (sym (row_column (length A) k t l))
    ∙ ap Ok (get_or-sums A B (t / k) (t % k) (row_below (length A) k t l) (column_below (length A) k t l))

-- ---- products
module _ (rs ts : List Vector) (t : ℕ) (l : t < 2 * (length rs * length ts)) where
  pub half : t / 2 < length rs * length ts
  half = omega arith

  place : 2 * (t / 2 / length ts * length ts + t / 2 % length ts) ≡ 2 * (t / 2)
  place = ap (λ n. 2 * n) (row_column (length rs) (length ts) (t / 2) half)

  pub numbered_product : t % 2 ≡ 0 → numbered (products rs ts) t ≡ Ok (get_or rs (t / 2 / length ts) 𝟎 ⨯ get_or ts (t / 2 % length ts) 𝟎)
  numbered_product e =
      let p : t ≡ 2 * (t / 2 / length ts * length ts + t / 2 % length ts) = omega (arith, place, e) in
      numbered_in (products rs ts) t (omega (arith, length-products rs ts))
      ∙ ap (λ n. Ok (get_or (products rs ts) n 𝟎)) p
      ∙ ap Ok (get_or-products rs ts (t / 2 / length ts) (t / 2 % length ts) (row_below (length rs) (length ts) (t / 2) half) (column_below (length rs) (length ts) (t / 2) half))

  pub numbered_opposite : ¬ (t % 2 ≡ 0) → numbered (products rs ts) t ≡ Ok (negᵛ (get_or rs (t / 2 / length ts) 𝟎 ⨯ get_or ts (t / 2 % length ts) 𝟎))
  numbered_opposite e =
      let p : t ≡ 2 * (t / 2 / length ts * length ts + t / 2 % length ts) + 1 = omega (arith, place, e) in
      numbered_in (products rs ts) t (omega (arith, length-products rs ts))
      ∙ ap (λ n. Ok (get_or (products rs ts) n 𝟎)) p
      ∙ ap Ok (get_or-opposites rs ts (t / 2 / length ts) (t / 2 % length ts) (row_below (length rs) (length ts) (t / 2) half) (column_below (length rs) (length ts) (t / 2) half))
