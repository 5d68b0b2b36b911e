-- The greatest and the least product over lists that are made of others: one corner more, shifted, mirrored, and sums.
use Rattle.std.proofs.Common.{◌≡◌, ◌≤◌, List, [], ◌∷◌, ◌++◌, map, length, ℤ, pos, ◌+ℤ◌, neg_ℤ, ◌≤ℤ◌, refl, ap, ◌∙◌, arith}
use Rattle.std.specs.Int.{int_min, int_max}
use Rattle.std.specs.List.{AllByRecursion}
use Rattle.std.proofs.lemmas.Int.{clamps}
use Rattle.std.proofs.ByRecursion.{All-weaker}
use Rattle.vector.specs.declared.Vector.{Vector}
use Rattle.vector.specs.Vectors.{◌·◌, ◌+ᵛ◌, negᵛ}
use Rattle.vector.proofs.Order.{lin}
use Rattle.vector.proofs.Identities.{dot-plus, dot-neg, neg-dot, neg-neg}
use Rattle.convex.specs.Points.{◌∈◌}
use Rattle.convex.specs.Products.{greatest, least}
use Rattle.convex.specs.Sides.{shifted, mirrored, sums}
use Rattle.convex.proofs.Members.{all_in, all_from_in, in_map, from_map, in_sums, from_sums}
use Rattle.convex.proofs.Products.{greatest_bounds, greatest_reached, least_opposite, products_are_reached}

-- ---- a product that no corner exceeds and that one has is the greatest
pub below_greatest : (n : Vector) (cs : List Vector) (c : Vector) → c ∈ cs → (n · c) ≤ℤ greatest n cs
below_greatest n [] c h = absurd h
below_greatest n (d ∷ cs) c h = all_in (λ c. (n · c) ≤ℤ greatest n (d ∷ cs)) (d ∷ cs) (greatest_bounds n d cs) c h

pub greatest_is : (n : Vector) (cs : List Vector) (k : ℤ) → AllByRecursion (λ d. (n · d) ≤ℤ k) cs → (c : Vector) → c ∈ cs → n · c ≡ k → greatest n cs ≡ k
greatest_is n [] k a c h e = absurd h
greatest_is n (d ∷ cs) k a c h e =
    let (b, i, r) = greatest_reached n d cs in
    omega (arith, lin, all_in (λ d. (n · d) ≤ℤ k) (d ∷ cs) a b i, below_greatest n (d ∷ cs) c h)

pub least_is : (n : Vector) (cs : List Vector) (k : ℤ) → AllByRecursion (λ d. k ≤ℤ (n · d)) cs → (c : Vector) → c ∈ cs → n · c ≡ k → least n cs ≡ k
least_is n cs k a c h e = omega (arith, lin, least_opposite n cs, greatest_is (negᵛ n) cs (neg_ℤ k) opposite c h (omega (arith, lin, neg-dot n c)))
  where
    opposite : AllByRecursion (λ d. (negᵛ n · d) ≤ℤ neg_ℤ k) cs
    opposite = All-weaker (λ d. k ≤ℤ (n · d)) (λ d. (negᵛ n · d) ≤ℤ neg_ℤ k) (λ d h. omega (arith, lin, neg-dot n d)) cs a

-- ---- one corner more
pub greatest_push : (n : Vector) (cs : List Vector) (c : Vector) → 1 ≤ length cs → greatest n (cs ++ c ∷ []) ≡ int_max (greatest n cs) (n · c)
greatest_push n [] c h = absurd (omega arith)
greatest_push n (d ∷ []) c h = refl
greatest_push n (d ∷ e ∷ cs) c h = ap (int_max (n · d)) (greatest_push n (e ∷ cs) c (omega arith)) ∙ grouped (n · d) (greatest n (e ∷ cs)) (n · c)
  where
    grouped : (a b c : ℤ) → int_max a (int_max b c) ≡ int_max (int_max a b) c
    grouped a b c = omega (arith, lin, clamps)

pub least_push : (n : Vector) (cs : List Vector) (c : Vector) → 1 ≤ length cs → least n (cs ++ c ∷ []) ≡ int_min (least n cs) (n · c)
least_push n cs c h = turned (least n cs) (greatest (negᵛ n) cs) (n · c) (negᵛ n · c) (least_opposite n (cs ++ c ∷ []) ∙ ap neg_ℤ (greatest_push (negᵛ n) cs c h)) (least_opposite n cs) (neg-dot n c)
  where
    turned : (l g a a' : ℤ) {t : ℤ} → t ≡ neg_ℤ (int_max g a') → l ≡ neg_ℤ g → a' ≡ neg_ℤ a → t ≡ int_min l a
    turned l g a a' e k m = omega (arith, lin, clamps)

-- ---- each corner changed: every product with n is the product with m before, plus k
greatest-map : (n m : Vector) (k : ℤ) (f : Vector → Vector) (cs : List Vector) → ((c : Vector) → n · f c ≡ m · c +ℤ k) → 1 ≤ length cs → greatest n (map f cs) ≡ greatest m cs +ℤ k
greatest-map n m k f cs e h =
    let (c, i, r) = (products_are_reached m cs h).0 in
    greatest_is n (map f cs) (greatest m cs +ℤ k) (all_from_in (λ d. (n · d) ≤ℤ (greatest m cs +ℤ k)) (map f cs) bound) (f c) (in_map f cs c i) (omega (arith, lin, e c, r))
  where
    bound : (d : Vector) → d ∈ map f cs → (n · d) ≤ℤ (greatest m cs +ℤ k)
    bound d i =
        let (c, j, q) = from_map f cs d i in
        omega (arith, lin, ap (λ (t : Vector). n · t) q, e c, below_greatest m cs c j)

pub greatest-shifted : (n v : Vector) (cs : List Vector) → 1 ≤ length cs → greatest n (shifted v cs) ≡ greatest n cs +ℤ n · v
greatest-shifted n v cs h = greatest-map n n (n · v) (λ c. c +ᵛ v) cs (λ c. dot-plus n c v) h

pub least-shifted : (n v : Vector) (cs : List Vector) → 1 ≤ length cs → least n (shifted v cs) ≡ least n cs +ℤ n · v
least-shifted n v cs h = omega (arith, lin, least_opposite n (shifted v cs), greatest-shifted (negᵛ n) v cs h, least_opposite n cs, neg-dot n v)

pub greatest-mirrored : (n : Vector) (cs : List Vector) → 1 ≤ length cs → greatest n (mirrored cs) ≡ neg_ℤ (least n cs)
greatest-mirrored n cs h = omega (arith, lin, greatest-map n (negᵛ n) (pos 0) negᵛ cs (λ c. omega (arith, lin, dot-neg n c, neg-dot n c)) h, least_opposite n cs)

pub least-mirrored : (n : Vector) (cs : List Vector) → 1 ≤ length cs → least n (mirrored cs) ≡ neg_ℤ (greatest n cs)
least-mirrored n cs h =
    omega (arith, lin, least_opposite n (mirrored cs), greatest-mirrored (negᵛ n) cs h, least_opposite (negᵛ n) cs, ap (λ (t : Vector). greatest t cs) (neg-neg n))

-- ---- sums
pub greatest-sums : (n : Vector) (A B : List Vector) → 1 ≤ length A → 1 ≤ length B → greatest n (sums A B) ≡ greatest n A +ℤ greatest n B
greatest-sums n A B h k =
    let (a, i, p) = (products_are_reached n A h).0 in
    let (b, j, q) = (products_are_reached n B k).0 in
    greatest_is n (sums A B) (greatest n A +ℤ greatest n B) (all_from_in (λ d. (n · d) ≤ℤ (greatest n A +ℤ greatest n B)) (sums A B) bound)
    (a +ᵛ b) (in_sums A B a b i j) (omega (arith, lin, dot-plus n a b, p, q))
  where
    bound : (d : Vector) → d ∈ sums A B → (n · d) ≤ℤ (greatest n A +ℤ greatest n B)
    bound d i =
        let (a, b, j, l, e) = from_sums A B d i in
        omega (arith, lin, ap (λ (t : Vector). n · t) e, dot-plus n a b, below_greatest n A a j, below_greatest n B b l)

pub least-sums : (n : Vector) (A B : List Vector) → 1 ≤ length A → 1 ≤ length B → least n (sums A B) ≡ least n A +ℤ least n B
least-sums n A B h k = omega (arith, lin, least_opposite n (sums A B), greatest-sums (negᵛ n) A B h k, least_opposite n A, least_opposite n B)
