-- The greatest and the least product over a list: they are reached, and a plane between two lists by its products.
use Rattle.std.proofs.Common.{◌≡◌, ◌≤◌, ◌⊎◌, List, [], ◌∷◌, length, ℤ, pos, ◌+ℤ◌, ◌-ℤ◌, neg_ℤ, ◌≤ℤ◌, ◌<ℤ◌, sym, refl, ap, ◌∙◌, subst, inl, inr, arith}
use Rattle.std.specs.Int.{int_min, int_max}
use Rattle.std.specs.List.{AllByRecursion}
use Rattle.std.proofs.lemmas.Int.{clamps}
use Rattle.std.proofs.ByRecursion.{All-weaker}
use Rattle.vector.specs.declared.Vector.{Vector}
use Rattle.vector.specs.Vectors.{◌·◌, ◌+ᵛ◌, negᵛ}
use Rattle.vector.proofs.Order.{lin, le_or_lt}
use Rattle.vector.proofs.Identities.{dot-plus, dot-neg, neg-dot}
use Rattle.convex.specs.Points.{◌∈◌}
use Rattle.convex.specs.Products.{greatest, least, Between, Top}
use Rattle.convex.specs.Sides.{mirrored, differences}
use Rattle.convex.specs.Theorems.{ProductsAreReached}
use Rattle.convex.proofs.Members.{all_in, all_from_in, in_map, from_map, in_sums, from_sums}
use Rattle.convex.proofs.Directions.{Weak, Strict}

-- ---- the greatest product is that of a corner, and no corner has more
pub greatest_bounds : (n c : Vector) (cs : List Vector) → AllByRecursion (λ d. (n · d) ≤ℤ greatest n (c ∷ cs)) (c ∷ cs)
greatest_bounds n c [] = (omega (arith, lin), tt)
greatest_bounds n c (d ∷ cs) = (
  omega (arith, lin, clamps),
  All-weaker (λ e. (n · e) ≤ℤ greatest n (d ∷ cs)) (λ e. (n · e) ≤ℤ greatest n (c ∷ d ∷ cs)) (λ e h. raise (n · e) (n · c) (greatest n (d ∷ cs)) h) (d ∷ cs) (greatest_bounds n d cs),
)
  where
    raise : (a b g : ℤ) → a ≤ℤ g → a ≤ℤ int_max b g
    raise a b g h = omega (arith, lin, clamps)

pub greatest_reached : (n c : Vector) (cs : List Vector) → (d : Vector) × d ∈ (c ∷ cs) × (n · d ≡ greatest n (c ∷ cs))
greatest_reached n c [] = (c, inl refl, refl)
greatest_reached n c (d ∷ cs) = go (le_or_lt (n · c) (greatest n (d ∷ cs))) (greatest_reached n d cs)
  where
    over : (a g t : ℤ) → a ≤ℤ g → t ≡ g → t ≡ int_max a g
    over a g t h e = omega (arith, lin, clamps)

    here : (a g : ℤ) → g <ℤ a → a ≡ int_max a g
    here a g h = omega (arith, lin, clamps)

    go : ((n · c) ≤ℤ greatest n (d ∷ cs)) ⊎ (greatest n (d ∷ cs) <ℤ (n · c)) → (e : Vector) × e ∈ (d ∷ cs) × (n · e ≡ greatest n (d ∷ cs))
        → (e : Vector) × e ∈ (c ∷ d ∷ cs) × (n · e ≡ greatest n (c ∷ d ∷ cs))
    go (inl h) r = (r.0, inr r.1, over (n · c) (greatest n (d ∷ cs)) (n · r.0) h r.2)
    go (inr h) r = (c, inl refl, here (n · c) (greatest n (d ∷ cs)) h)

-- so it is that of a top
pub highest : (n c : Vector) (cs : List Vector) → (d : Vector) × Top n (c ∷ cs) d
highest n c cs = let r = greatest_reached n c cs in
    (r.0, record { member = r.1; most = subst (λ k. AllByRecursion (λ d. (n · d) ≤ℤ k) (c ∷ cs)) (sym r.2) (greatest_bounds n c cs) })

-- the least product of n is the opposite of the greatest of −n
pub least_opposite : (n : Vector) (cs : List Vector) → least n cs ≡ neg_ℤ (greatest (negᵛ n) cs)
least_opposite n [] = refl
least_opposite n (c ∷ []) = omega (arith, lin, neg-dot n c)
least_opposite n (c ∷ d ∷ cs) = turned (n · c) (negᵛ n · c) (least n (d ∷ cs)) (greatest (negᵛ n) (d ∷ cs)) (neg-dot n c) (least_opposite n (d ∷ cs))
  where
    turned : (a a' l g : ℤ) → a' ≡ neg_ℤ a → l ≡ neg_ℤ g → int_min a l ≡ neg_ℤ (int_max a' g)
    turned a a' l g e h = omega (arith, lin, clamps)

pub least_bounds : (n c : Vector) (cs : List Vector) → AllByRecursion (λ d. least n (c ∷ cs) ≤ℤ (n · d)) (c ∷ cs)
least_bounds n c cs = All-weaker (λ d. (negᵛ n · d) ≤ℤ greatest (negᵛ n) (c ∷ cs)) (λ d. least n (c ∷ cs) ≤ℤ (n · d))
    (λ d h. turned (n · d) (negᵛ n · d) (least n (c ∷ cs)) (greatest (negᵛ n) (c ∷ cs)) (neg-dot n d) (least_opposite n (c ∷ cs)) h) (c ∷ cs) (greatest_bounds (negᵛ n) c cs)
  where
    turned : (a a' l g : ℤ) → a' ≡ neg_ℤ a → l ≡ neg_ℤ g → a' ≤ℤ g → l ≤ℤ a
    turned a a' l g e h k = omega (arith, lin)

pub least_reached : (n c : Vector) (cs : List Vector) → (d : Vector) × d ∈ (c ∷ cs) × (n · d ≡ least n (c ∷ cs))
least_reached n c cs = let r = greatest_reached (negᵛ n) c cs in
    (r.0, r.1, turned (n · r.0) (negᵛ n · r.0) (least n (c ∷ cs)) (greatest (negᵛ n) (c ∷ cs)) (neg-dot n r.0) (least_opposite n (c ∷ cs)) r.2)
  where
    turned : (a a' l g : ℤ) → a' ≡ neg_ℤ a → l ≡ neg_ℤ g → a' ≡ g → a ≡ l
    turned a a' l g e h k = omega (arith, lin)

pub products_are_reached : ProductsAreReached
products_are_reached n [] h = absurd (omega arith)
products_are_reached n (c ∷ cs) h = (greatest_reached n c cs, greatest_bounds n c cs, least_reached n c cs, least_bounds n c cs)

-- ---- a plane between two lists, and the products over their differences
dot_difference : (n a b : Vector) → n · (a +ᵛ negᵛ b) ≡ n · a -ℤ n · b
dot_difference n a b = dot-plus n a (negᵛ b) ∙ ap (λ t. n · a +ℤ t) (dot-neg n b) ∙ plus-neg (n · a) (n · b)
  where
    plus-neg : (a b : ℤ) → a +ℤ neg_ℤ b ≡ a -ℤ b
    plus-neg a b = omega (arith, lin)

-- what holds of each corner of the first and each of the second
module _ (Q : Vector → Type 0) (A B : List Vector) where
  pub all_differences : ((a b : Vector) → a ∈ A → b ∈ B → Q (a +ᵛ negᵛ b)) → AllByRecursion Q (differences A B)
  all_differences f = all_from_in Q (differences A B) (λ v h.
      let r = from_sums A (mirrored B) v h in
      let s = from_map negᵛ B r.1 r.3 in
      subst Q (sym (r.4 ∙ ap (λ (t : Vector). r.0 +ᵛ t) s.2)) (f r.0 s.0 r.2 s.1))

  pub each_difference : AllByRecursion Q (differences A B) → (a b : Vector) → a ∈ A → b ∈ B → Q (a +ᵛ negᵛ b)
  each_difference h a b i j = all_in Q (differences A B) h (a +ᵛ negᵛ b) (in_sums A (mirrored B) a (negᵛ b) i (in_map negᵛ B b j))

pub strict_from_between : (n : Vector) (A B : List Vector) → 1 ≤ length A → 1 ≤ length B → Between n A B → Strict n (differences A B)
strict_from_between n [] B h k b = absurd (omega arith)
strict_from_between n (a ∷ A) [] h k b = absurd (omega arith)
strict_from_between n (a ∷ A) (b ∷ B) h k l = all_differences (λ v. (n · v) <ℤ pos 0) (a ∷ A) (b ∷ B) (λ c d i j.
    scalar (n · c) (n · d) (greatest n (a ∷ A)) (least n (b ∷ B)) (n · (c +ᵛ negᵛ d)) (dot_difference n c d) l
    (all_in (λ c. (n · c) ≤ℤ greatest n (a ∷ A)) (a ∷ A) (greatest_bounds n a A) c i) (all_in (λ d. least n (b ∷ B) ≤ℤ (n · d)) (b ∷ B) (least_bounds n b B) d j))
  where
    scalar : (c d g l t : ℤ) → t ≡ c -ℤ d → g <ℤ l → c ≤ℤ g → l ≤ℤ d → t <ℤ pos 0
    scalar c d g l t e h p q = omega (arith, lin)

pub weak_from_products : (n : Vector) (A B : List Vector) → 1 ≤ length A → 1 ≤ length B → greatest n A ≤ℤ least n B → Weak n (differences A B)
weak_from_products n [] B h k b = absurd (omega arith)
weak_from_products n (a ∷ A) [] h k b = absurd (omega arith)
weak_from_products n (a ∷ A) (b ∷ B) h k l = all_differences (λ v. (n · v) ≤ℤ pos 0) (a ∷ A) (b ∷ B) (λ c d i j.
    scalar (n · c) (n · d) (greatest n (a ∷ A)) (least n (b ∷ B)) (n · (c +ᵛ negᵛ d)) (dot_difference n c d) l
    (all_in (λ c. (n · c) ≤ℤ greatest n (a ∷ A)) (a ∷ A) (greatest_bounds n a A) c i) (all_in (λ d. least n (b ∷ B) ≤ℤ (n · d)) (b ∷ B) (least_bounds n b B) d j))
  where
    scalar : (c d g l t : ℤ) → t ≡ c -ℤ d → g ≤ℤ l → c ≤ℤ g → l ≤ℤ d → t ≤ℤ pos 0
    scalar c d g l t e h p q = omega (arith, lin)

-- the corners that reach them decide
module _ (n : Vector) (A B : List Vector) (h : 1 ≤ length A) (k : 1 ≤ length B) where
  reached : (a : Vector) × a ∈ A × (n · a ≡ greatest n A)
  reached = (products_are_reached n A h).0

  reached_least : (b : Vector) × b ∈ B × (n · b ≡ least n B)
  reached_least = (products_are_reached n B k).2

  span : n · (reached.0 +ᵛ negᵛ reached_least.0) ≡ greatest n A -ℤ least n B
  span = dot_difference n reached.0 reached_least.0 ∙ (λ i. reached.2 i -ℤ reached_least.2 i)

  pub between_from_strict : Strict n (differences A B) → Between n A B
  between_from_strict s = scalar (greatest n A) (least n B) (n · (reached.0 +ᵛ negᵛ reached_least.0)) span
      (each_difference (λ v. (n · v) <ℤ pos 0) A B s reached.0 reached_least.0 reached.1 reached_least.1)
    where
      scalar : (g l t : ℤ) → t ≡ g -ℤ l → t <ℤ pos 0 → g <ℤ l
      scalar g l t e h = omega (arith, lin)

  pub products_from_weak : Weak n (differences A B) → greatest n A ≤ℤ least n B
  products_from_weak s = scalar (greatest n A) (least n B) (n · (reached.0 +ᵛ negᵛ reached_least.0)) span
      (each_difference (λ v. (n · v) ≤ℤ pos 0) A B s reached.0 reached_least.0 reached.1 reached_least.1)
    where
      scalar : (g l t : ℤ) → t ≡ g -ℤ l → t ≤ℤ pos 0 → g ≤ℤ l
      scalar g l t e h = omega (arith, lin)
