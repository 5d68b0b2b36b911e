-- Weights of whole numbers on a list: sums, relations, and a common point of two lists as two lists of weights with one total and one sum.
use Rattle.std.proofs.Common.{◌≡◌, ℕ, suc, List, [], ◌∷◌, ◌++◌, map, length, ℤ, pos, negsuc, ◌+ℤ◌, ◌*ℤ◌, nat_abs, ◌≤ℤ◌, ◌<ℤ◌, sym, refl, ap, ◌∙◌, arith}
use Rattle.std.specs.List.{AllByRecursion}
use Rattle.vector.specs.declared.Vector.{Vector}
use Rattle.vector.specs.Vectors.{◌+ᵛ◌, ◌∗◌, 𝟎}
use Rattle.vector.proofs.Ring.{var, num, ◌⊕◌, ◌⊗◌, ring}
use Rattle.vector.proofs.Order.{lin, mul_nonneg}
use Rattle.vector.proofs.Identities.{◌+ₑ◌, ◌∗ₑ◌, vec, env, ringᵛ, 𝟎ₑ, times-𝟎, no_times}
use Rattle.convex.specs.Points.{total, weighted}

-- the sum of the weights
abbrev pub sum : List ℤ → ℤ
sum [] = pos 0
sum (w ∷ ws) = w +ℤ sum ws

-- the sum of the points, each times its weight
abbrev pub combine : List ℤ → List Vector → Vector
combine [] P = 𝟎
combine (w ∷ ws) [] = 𝟎
combine (w ∷ ws) (p ∷ P) = w ∗ p +ᵛ combine ws P

abbrev pub NoneBelow : List ℤ → Type 0
NoneBelow ws = AllByRecursion (λ w. pos 0 ≤ℤ w) ws

-- weights, one for each point, none below 0 and not all 0, with which the points add up to 0
pub record Relation (P : List Vector) : Type 0 where
  pub weights : List ℤ
  pub many : length weights ≡ length P
  pub nonneg : NoneBelow weights
  pub some : pos 0 <ℤ sum weights
  pub balanced : combine weights P ≡ 𝟎

-- a common point of two lists
pub record Common (A B : List Vector) : Type 0 where
  pub on_a : List ℤ
  pub on_b : List ℤ
  pub many_a : length on_a ≡ length A
  pub many_b : length on_b ≡ length B
  pub nonneg_a : NoneBelow on_a
  pub nonneg_b : NoneBelow on_b
  pub same_total : sum on_a ≡ sum on_b
  pub some : pos 0 <ℤ sum on_a
  pub same_point : combine on_a A ≡ combine on_b B

-- ---- every weight times a number
abbrev pub scale : ℤ → List ℤ → List ℤ
scale k ws = map (λ w. k *ℤ w) ws

pub scale_many : (k : ℤ) (ws : List ℤ) → length (scale k ws) ≡ length ws
scale_many k [] = refl
scale_many k (w ∷ ws) = ap suc (scale_many k ws)

pub scale_nonneg : (k : ℤ) (ws : List ℤ) → pos 0 ≤ℤ k → NoneBelow ws → NoneBelow (scale k ws)
scale_nonneg k [] h a = tt
scale_nonneg k (w ∷ ws) h a = (mul_nonneg k w h a.0, scale_nonneg k ws h a.1)

pub scale_sum : (k : ℤ) (ws : List ℤ) → sum (scale k ws) ≡ k *ℤ sum ws
scale_sum k [] = ring (k ∷ []) (num (pos 0)) (var 0 ⊗ num (pos 0)) refl
scale_sum k (w ∷ ws) = ap (λ t. k *ℤ w +ℤ t) (scale_sum k ws) ∙ ring (k ∷ w ∷ sum ws ∷ []) (var 0 ⊗ var 1 ⊕ var 0 ⊗ var 2) (var 0 ⊗ (var 1 ⊕ var 2)) refl

pub scale_combine : (k : ℤ) (ws : List ℤ) (P : List Vector) → combine (scale k ws) P ≡ k ∗ combine ws P
scale_combine k [] P = sym (times-𝟎 k)
scale_combine k (w ∷ ws) [] = sym (times-𝟎 k)
scale_combine k (w ∷ ws) (p ∷ P) = ap (λ (t : Vector). (k *ℤ w) ∗ p +ᵛ t) (scale_combine k ws P)
    ∙ ringᵛ (env (p ∷ combine ws P ∷ []) (k ∷ w ∷ [])) ((var 6 ⊗ var 7) ∗ₑ vec 0 +ₑ var 6 ∗ₑ vec 1) (var 6 ∗ₑ (var 7 ∗ₑ vec 0 +ₑ vec 1)) refl refl refl

-- ---- weights on two lists, one after the other
pub sum-append : (ws vs : List ℤ) → sum (ws ++ vs) ≡ sum ws +ℤ sum vs
sum-append [] vs = omega (arith, lin)
sum-append (w ∷ ws) vs = omega (arith, lin, sum-append ws vs)

pub combine-append : (ws vs : List ℤ) (P Q : List Vector) → length ws ≡ length P → combine (ws ++ vs) (P ++ Q) ≡ combine ws P +ᵛ combine vs Q
combine-append [] vs [] Q e = ringᵛ (env (combine vs Q ∷ []) []) (vec 0) (𝟎ₑ +ₑ vec 0) refl refl refl
combine-append [] vs (p ∷ P) Q e = absurd (omega arith)
combine-append (w ∷ ws) vs [] Q e = absurd (omega arith)
combine-append (w ∷ ws) vs (p ∷ P) Q e = ap (λ (t : Vector). w ∗ p +ᵛ t) (combine-append ws vs P Q (omega arith))
    ∙ ringᵛ (env (p ∷ combine ws P ∷ combine vs Q ∷ []) (w ∷ [])) (var 9 ∗ₑ vec 0 +ₑ (vec 1 +ₑ vec 2)) ((var 9 ∗ₑ vec 0 +ₑ vec 1) +ₑ vec 2) refl refl refl

-- ---- no weight at all
abbrev pub zeros : List Vector → List ℤ
zeros [] = []
zeros (p ∷ P) = pos 0 ∷ zeros P

pub record Zeros (P : List Vector) : Type 0 where
  pub many : length (zeros P) ≡ length P
  pub nonneg : NoneBelow (zeros P)
  pub none : sum (zeros P) ≡ pos 0
  pub point : combine (zeros P) P ≡ 𝟎

pub zeros_are : (P : List Vector) → Zeros P
zeros_are [] = record { many = refl; nonneg = tt; none = refl; point = refl }
zeros_are (p ∷ P) = let z = zeros_are P in record {
  many = ap suc z.many;
  nonneg = (omega (arith, lin), z.nonneg);
  none = omega (arith, lin, z.none);
  point = no_times p (combine (zeros P) P) ∙ z.point;
}

-- ---- natural weights, and whole ones that are not below 0
abbrev pub integers : List ℕ → List ℤ
integers ws = map pos ws

abbrev pub naturals : List ℤ → List ℕ
naturals ws = map nat_abs ws

pub integers_many : (ws : List ℕ) → length (integers ws) ≡ length ws
integers_many [] = refl
integers_many (w ∷ ws) = ap suc (integers_many ws)

pub integers_nonneg : (ws : List ℕ) → NoneBelow (integers ws)
integers_nonneg [] = tt
integers_nonneg (w ∷ ws) = (omega (arith, lin), integers_nonneg ws)

pub integers_sum : (ws : List ℕ) → sum (integers ws) ≡ pos (total ws)
integers_sum [] = refl
integers_sum (w ∷ ws) = ap (λ t. pos w +ℤ t) (integers_sum ws)

pub integers_combine : (ws : List ℕ) (P : List Vector) → combine (integers ws) P ≡ weighted ws P
integers_combine [] P = refl
integers_combine (w ∷ ws) [] = refl
integers_combine (w ∷ ws) (p ∷ P) = ap (λ (t : Vector). pos w ∗ p +ᵛ t) (integers_combine ws P)

pub naturals_many : (ws : List ℤ) → length (naturals ws) ≡ length ws
naturals_many [] = refl
naturals_many (w ∷ ws) = ap suc (naturals_many ws)

pub back : (ws : List ℤ) → NoneBelow ws → integers (naturals ws) ≡ ws
back [] h = refl
back (w ∷ ws) h = (λ i. head w h.0 i ∷ back ws h.1 i)
  where
    head : (w : ℤ) → pos 0 ≤ℤ w → pos (nat_abs w) ≡ w
    head (pos n) h = refl
    head (negsuc n) h = absurd (omega (arith, lin))

pub naturals_total : (ws : List ℤ) → NoneBelow ws → pos (total (naturals ws)) ≡ sum ws
naturals_total ws h = sym (integers_sum (naturals ws)) ∙ ap sum (back ws h)

pub naturals_weighted : (ws : List ℤ) (P : List Vector) → NoneBelow ws → weighted (naturals ws) P ≡ combine ws P
naturals_weighted ws P h = sym (integers_combine (naturals ws) P) ∙ ap (λ (t : List ℤ). combine t P) (back ws h)
