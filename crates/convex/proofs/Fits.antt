-- The weights and the planes of corners within reach fit: ranges of determinants, ridges, flats and planes.
use Rattle.std.proofs.Common.{◌≡◌, ℕ, zero, suc, true, List, [], ◌∷◌, ◌++◌, get_or, neg_ℤ, sym, refl, subst, arith}
use Rattle.std.specs.List.{AllByRecursion}
use Rattle.std.proofs.ByRecursion.{All-map, All-weaker}
use Rattle.vector.specs.declared.Vector.{Vector}
use Rattle.vector.specs.Vectors.{◌⨯◌, ◌-ᵛ◌, negᵛ, 𝟎, inside, within}
use Rattle.vector.proofs.Bounds.{inside_wider, inside-neg, inside-dot, within-minus, within-neg, within-cross}
use Rattle.convex.specs.Sides.{mirrored, products_with, products, planes}
use Rattle.convex.specs.Fives.{det}
use Rattle.convex.specs.Theorems.{WeightsFit, PlanesFit}
use Rattle.convex.proofs.Members.{all_both}
use Rattle.convex.proofs.Determinants.{det-differences}

difference_fits : (p q : Vector) → within 10000 p ≡ true → within 10000 q ≡ true → within 20000 (q -ᵛ p) ≡ true
difference_fits p q h k = within-minus 10000 10000 q p k h

ridges_fit : (u v : Vector) → within 20000 u ≡ true → within 20000 v ≡ true → within 800000000 (u ⨯ v) ≡ true
ridges_fit u v h k = within-cross 20000 20000 u v h k

-- ---- determinants
det_fits : (p q r s : Vector) → within 10000 p ≡ true → within 10000 q ≡ true → within 10000 r ≡ true → within 10000 s ≡ true → inside 50000000000000 (det p q r s) ≡ true
det_fits p q r s hp hq hr hs = inside_wider 48000000000000 50000000000000 (det p q r s) (omega arith)
    (subst (λ d. inside 48000000000000 d ≡ true) (sym (det-differences p q r s))
    (inside-dot 20000 800000000 (p -ᵛ s) ((q -ᵛ s) ⨯ (r -ᵛ s)) (difference_fits s p hs hp) (ridges_fit (q -ᵛ s) (r -ᵛ s) (difference_fits s q hs hq) (difference_fits s r hs hr))))

-- past the end stands 𝟎
get_or_fits : (ps : List Vector) → AllByRecursion (λ p. within 10000 p ≡ true) ps → (i : ℕ) → within 10000 (get_or ps i 𝟎) ≡ true
get_or_fits [] h i = refl
get_or_fits (p ∷ ps) h zero = h.0
get_or_fits (p ∷ ps) h (suc i) = get_or_fits ps h.1 i

pub weights_fit : WeightsFit
weights_fit ps h = (neg_fits 1 2 3 4, (fits 0 2 3 4, (neg_fits 0 1 3 4, (fits 0 1 2 4, (neg_fits 0 1 2 3, tt)))))
  where
    fits : (i j k l : ℕ) → inside 50000000000000 (det (get_or ps i 𝟎) (get_or ps j 𝟎) (get_or ps k 𝟎) (get_or ps l 𝟎)) ≡ true
    fits i j k l = det_fits (get_or ps i 𝟎) (get_or ps j 𝟎) (get_or ps k 𝟎) (get_or ps l 𝟎) (get_or_fits ps h i) (get_or_fits ps h j) (get_or_fits ps h k) (get_or_fits ps h l)

    neg_fits : (i j k l : ℕ) → inside 50000000000000 (neg_ℤ (det (get_or ps i 𝟎) (get_or ps j 𝟎) (get_or ps k 𝟎) (get_or ps l 𝟎))) ≡ true
    neg_fits i j k l = inside-neg 50000000000000 (det (get_or ps i 𝟎) (get_or ps j 𝟎) (get_or ps k 𝟎) (get_or ps l 𝟎)) (fits i j k l)

-- ---- planes
products_with_fit : (u : Vector) (ts : List Vector) → within 20000 u ≡ true → AllByRecursion (λ v. within 20000 v ≡ true) ts → AllByRecursion (λ n. within 800000000 n ≡ true) (products_with u ts)
products_with_fit u [] h a = tt
products_with_fit u (v ∷ ts) h a = let k = ridges_fit u v h a.0 in (k, (within-neg 800000000 (u ⨯ v) k, products_with_fit u ts h a.1))

products_fit : (rs ts : List Vector) → AllByRecursion (λ u. within 20000 u ≡ true) rs → AllByRecursion (λ v. within 20000 v ≡ true) ts → AllByRecursion (λ n. within 800000000 n ≡ true) (products rs ts)
products_fit [] ts a b = tt
products_fit (u ∷ rs) ts a b = all_both (λ n. within 800000000 n ≡ true) (products_with u ts) (products rs ts) (products_with_fit u ts a.0 b) (products_fit rs ts a.1 b)

pub planes_fit : PlanesFit
planes_fit = (difference_fits, λ p q s hp hq hs. ridges_fit (q -ᵛ p) (s -ᵛ p) (difference_fits p q hp hq) (difference_fits p s hp hs), listed)
  where
    listed : (fs rs gs ts : List Vector) → AllByRecursion (λ f. within 800000000 f ≡ true) fs → AllByRecursion (λ u. within 20000 u ≡ true) rs
        → AllByRecursion (λ g. within 800000000 g ≡ true) gs → AllByRecursion (λ v. within 20000 v ≡ true) ts → AllByRecursion (λ n. within 800000000 n ≡ true) (planes fs rs gs ts)
    listed fs rs gs ts a b c d = all_both (λ n. within 800000000 n ≡ true) (fs ++ mirrored gs) (products rs ts)
        (all_both (λ n. within 800000000 n ≡ true) fs (mirrored gs) a
        (All-map (λ n. within 800000000 n ≡ true) negᵛ gs (All-weaker (λ g. within 800000000 g ≡ true) (λ g. within 800000000 (negᵛ g) ≡ true) (λ g. within-neg 800000000 g) gs c)))
        (products_fit rs ts b d)
