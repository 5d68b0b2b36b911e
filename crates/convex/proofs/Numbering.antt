-- Which entry of a list that is made of others has which number. Sums and products are made of blocks, all of one length: one for each entry of the first list.
use Rattle.std.proofs.Common.{◌≡◌, ℕ, zero, suc, ◌+◌, ◌*◌, ◌<◌, List, [], ◌∷◌, ◌++◌, map, length, get_or, sym, refl, ap, ◌∙◌, mul_assoc, suc-mul, zero-mul, arith}
use Rattle.std.proofs.lemmas.List.{length-append, length-map, get_or_append_left, get_or-append-add, get_or-map}
use Rattle.vector.specs.declared.Vector.{Vector}
use Rattle.vector.specs.Vectors.{◌⨯◌, ◌+ᵛ◌, negᵛ, 𝟎}
use Rattle.convex.specs.Sides.{sums, products_with, products}

-- ---- a list of blocks, one for each entry of another list and all of m entries
module _ (all : List Vector → List Vector) (block : Vector → List Vector) (m : ℕ)
    (none : all [] ≡ []) (more : (a : Vector) (A : List Vector) → all (a ∷ A) ≡ block a ++ all A) (size : (a : Vector) → length (block a) ≡ m) where
  length-blocks : (A : List Vector) → length (all A) ≡ length A * m
  length-blocks [] = ap length none ∙ sym (zero-mul m)
  length-blocks (a ∷ A) = omega (arith, ap length (more a A), length-append (block a) (all A), size a, length-blocks A, suc-mul (length A) m)

  get_or-blocks : (A : List Vector) (i j : ℕ) → i < length A → j < m → get_or (all A) (i * m + j) 𝟎 ≡ get_or (block (get_or A i 𝟎)) j 𝟎
  get_or-blocks [] i j h k = absurd (omega arith)
  get_or-blocks (a ∷ A) zero j h k =
      (λ x. get_or (more a A x) (0 * m + j) 𝟎) ∙ ap (λ n. get_or (block a ++ all A) n 𝟎) (omega (arith, zero-mul m)) ∙ get_or_append_left (block a) (all A) 𝟎 j (omega (arith, size a))
  get_or-blocks (a ∷ A) (suc i) j h k =
      (λ x. get_or (more a A x) (suc i * m + j) 𝟎) ∙ ap (λ n. get_or (block a ++ all A) n 𝟎) (omega (arith, suc-mul i m, size a)) ∙ get_or-append-add (block a) (all A) (i * m + j) 𝟎
      ∙ get_or-blocks A i j (omega arith) k

-- ---- sums
module _ (A B : List Vector) where
  pub length-sums : length (sums A B) ≡ length A * length B
  length-sums = length-blocks (λ A. sums A B) (λ a. map (λ b. a +ᵛ b) B) (length B) refl (λ a A. refl) (λ a. length-map B (λ b. a +ᵛ b)) A

  pub get_or-sums : (i j : ℕ) → i < length A → j < length B → get_or (sums A B) (i * length B + j) 𝟎 ≡ get_or A i 𝟎 +ᵛ get_or B j 𝟎
  get_or-sums i j h k =
      get_or-blocks (λ A. sums A B) (λ a. map (λ b. a +ᵛ b) B) (length B) refl (λ a A. refl) (λ a. length-map B (λ b. a +ᵛ b)) A i j h k ∙ get_or-map (λ b. get_or A i 𝟎 +ᵛ b) B j 𝟎 𝟎 k

-- ---- products and their opposites
abbrev both : Vector → Vector → List Vector
both u v = (u ⨯ v) ∷ negᵛ (u ⨯ v) ∷ []

length-products_with : (u : Vector) (ts : List Vector) → length (products_with u ts) ≡ length ts * 2
length-products_with u ts = length-blocks (products_with u) (both u) 2 refl (λ v ts. refl) (λ v. refl) ts

module _ (rs ts : List Vector) where
  pub length-products : length (products rs ts) ≡ 2 * (length rs * length ts)
  length-products = omega (
    arith,
    mul_assoc (length rs) (length ts) 2,
    length-blocks (λ rs. products rs ts) (λ u. products_with u ts) (length ts * 2) refl (λ u rs. refl) (λ u. length-products_with u ts) rs,
  )

  get_or_both : (i j k n : ℕ) → i < length rs → j < length ts → k < 2 → n ≡ 2 * (i * length ts + j) + k → get_or (products rs ts) n 𝟎 ≡ get_or (both (get_or rs i 𝟎) (get_or ts j 𝟎)) k 𝟎
  get_or_both i j k n hi hj hk e = ap (λ n. get_or (products rs ts) n 𝟎) (omega (arith, mul_assoc i (length ts) 2))
      ∙ get_or-blocks (λ rs. products rs ts) (λ u. products_with u ts) (length ts * 2) refl (λ u rs. refl) (λ u. length-products_with u ts) rs i (j * 2 + k) hi (omega arith)
      ∙ get_or-blocks (products_with (get_or rs i 𝟎)) (both (get_or rs i 𝟎)) 2 refl (λ v ts. refl) (λ v. refl) ts j k hj hk

  pub get_or-products : (i j : ℕ) → i < length rs → j < length ts → get_or (products rs ts) (2 * (i * length ts + j)) 𝟎 ≡ get_or rs i 𝟎 ⨯ get_or ts j 𝟎
  get_or-products i j h k = get_or_both i j 0 (2 * (i * length ts + j)) h k (omega arith) (omega arith)

  pub get_or-opposites : (i j : ℕ) → i < length rs → j < length ts → get_or (products rs ts) (2 * (i * length ts + j) + 1) 𝟎 ≡ negᵛ (get_or rs i 𝟎 ⨯ get_or ts j 𝟎)
  get_or-opposites i j h k = get_or_both i j 1 (2 * (i * length ts + j) + 1) h k (omega arith) refl
