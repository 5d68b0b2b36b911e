-- The farthest corner: it is the lowest number with the greatest product, and there is no other.
use Rattle.std.proofs.Common.{◌≡◌, ℕ, zero, suc, ◌+◌, ◌<◌, ◌≤◌, true, false, List, [], ◌∷◌, map, length, get_or, ℤ, ◌+ℤ◌, ◌≤ℤ◌, ◌<ℤ◌, sym, ap, ◌∙◌, subst, inl, inr, arith}
use lib.Signed.{le_z}
use Rattle.std.proofs.lemmas.List.{length-map, get_or-map}
use Rattle.std.proofs.lemmas.Int.{ints}
use Rattle.std.proofs.lemmas.Bool.{cond_both, cases_order, cases_lt, and_parts}
use Rattle.vector.specs.declared.Vector.{Vector}
use Rattle.vector.specs.Vectors.{◌·◌, eq_z, 𝟎}
use Rattle.vector.proofs.Order.{lin}
use Rattle.convex.specs.Points.{◌∈◌}
use Rattle.convex.specs.Products.{greatest}
use Rattle.convex.proofs.Members.{all_in, in_at}
use Rattle.convex.proofs.Products.{products_are_reached}
use Rattle.body.specs.Extents.{first_with, farthest}
use Rattle.body.specs.Theorems.{Farthest, FarthestIsLowest}

-- ---- the first corner with a given product
record First (n : Vector) (k : ℤ) (cs : List Vector) (f : ℕ) : Type 0 where
  below : f < length cs
  is : n · get_or cs f 𝟎 ≡ k
  none : (j : ℕ) → j < f → ¬ (n · get_or cs j 𝟎 ≡ k)

first : (n : Vector) (k : ℤ) (cs : List Vector) (c : Vector) → c ∈ cs → n · c ≡ k → First n k cs (first_with n k cs)
first n k [] c h e = absurd h
first n k (d ∷ cs) c h e = cond_both (eq_z (n · d) k) 0 (suc (first_with n k cs)) (First n k (d ∷ cs))
    (λ t. record { below = omega arith; is = equal (n · d) k t; none = λ j l. absurd (omega arith) })
    (λ t. later (differ (n · d) k t) (first n k cs c (rest h (differ (n · d) k t)) e))
  where
    equal : (a b : ℤ) → eq_z a b ≡ true → a ≡ b
    equal a b t = let p = and_parts (le_z a b) (le_z b a) t in grind (arith, ints)

    differ : (a b : ℤ) → eq_z a b ≡ false → ¬ (a ≡ b)
    differ a b t e = grind (arith, ints)

    rest : c ∈ (d ∷ cs) → ¬ (n · d ≡ k) → c ∈ cs
    rest (inl q) no' = absurd (no' (ap (λ (v : Vector). n · v) (sym q) ∙ e))
    rest (inr q) no' = q

    later : ¬ (n · d ≡ k) → First n k cs (first_with n k cs) → First n k (d ∷ cs) (suc (first_with n k cs))
    later no' f = record { below = omega (arith, f.below); is = f.is; none = none }
      where
        none : (j : ℕ) → j < suc (first_with n k cs) → ¬ (n · get_or (d ∷ cs) j 𝟎 ≡ k)
        none zero l = no'
        none (suc j) l = f.none j (omega arith)

-- ---- `farthest` has the greatest product, and no lower number has it
pub is_farthest : (n : Vector) (cs : List Vector) → 1 ≤ length cs → Farthest n cs (farthest n cs)
is_farthest n cs some =
    let p = products_are_reached n cs some in
    let g = greatest n cs in
    let f = first n g cs p.0.0 p.0.1 p.0.2 in
    let most : (j : ℕ) → j < length cs → (n · get_or cs j 𝟎) ≤ℤ (n · get_or cs (farthest n cs) 𝟎) = λ j l.
    omega (arith, lin, f.is, all_in (λ c. (n · c) ≤ℤ g) cs p.1 (get_or cs j 𝟎) (in_at cs j l)) in
    record {
      below = f.below;
      most = most;
      lowest = λ j l. less (n · get_or cs j 𝟎) (n · get_or cs (farthest n cs) 𝟎) (most j (omega (arith, f.below))) (λ e. f.none j l (e ∙ f.is));
    }
  where
    less : (a b : ℤ) → a ≤ℤ b → ¬ (a ≡ b) → a <ℤ b
    less a b h d = grind (arith, ints)

pub one_farthest : (n : Vector) (cs : List Vector) (k l : ℕ) → Farthest n cs k → Farthest n cs l → k ≡ l
one_farthest n cs k l f g = elim (cases_order k l) [
  | inl e ↦ e
  | inr (inl h) ↦ absurd (omega (arith, lin, g.lowest k h, f.most l g.below))
  | inr (inr h) ↦ absurd (omega (arith, lin, f.lowest l h, g.most k f.below))
]

pub farthest_is : (n : Vector) (cs : List Vector) (k : ℕ) → Farthest n cs k → farthest n cs ≡ k
farthest_is n cs k f = one_farthest n cs (farthest n cs) k (is_farthest n cs (omega (arith, f.below))) f

pub farthest_is_lowest : FarthestIsLowest
farthest_is_lowest n cs some = (is_farthest n cs some, λ k f. sym (farthest_is n cs k f))

-- ---- one corner after the other: the best of the first i
pub record Best (n : Vector) (cs : List Vector) (i k : ℕ) : Type 0 where
  pub below : k < i
  pub most : (j : ℕ) → j < i → (n · get_or cs j 𝟎) ≤ℤ (n · get_or cs k 𝟎)
  pub lowest : (j : ℕ) → j < k → (n · get_or cs j 𝟎) <ℤ (n · get_or cs k 𝟎)

pub best_first : (n : Vector) (cs : List Vector) → Best n cs 1 0
best_first n cs = record { below = omega arith; most = most; lowest = λ j l. absurd (omega arith) }
  where
    most : (j : ℕ) → j < 1 → (n · get_or cs j 𝟎) ≤ℤ (n · get_or cs 0 𝟎)
    most zero l = omega (arith, lin)
    most (suc j) l = absurd (omega arith)

module _ (n : Vector) (cs : List Vector) (i k : ℕ) (b : Best n cs i k) where
  upto : (m : ℕ) → ((j : ℕ) → j < i → (n · get_or cs j 𝟎) ≤ℤ (n · get_or cs m 𝟎)) → (n · get_or cs i 𝟎) ≤ℤ (n · get_or cs m 𝟎) → (j : ℕ) → j < i + 1 → (n · get_or cs j 𝟎) ≤ℤ (n · get_or cs m 𝟎)
  upto m f h j l = elim (cases_lt j i) [ inl q ↦ f j q | inr q ↦ let e : j ≡ i = omega arith in subst (λ x. (n · get_or cs x 𝟎) ≤ℤ (n · get_or cs m 𝟎)) (sym e) h ]

  -- corner i is higher, or it is not
  pub best_taken : (n · get_or cs k 𝟎) <ℤ (n · get_or cs i 𝟎) → Best n cs (i + 1) i
  best_taken h = record {
    below = omega arith;
    most = upto i (λ j l. omega (arith, lin, b.most j l)) (omega (arith, lin));
    lowest = λ j l. omega (arith, lin, b.most j l);
  }

  pub best_kept : (n · get_or cs i 𝟎) ≤ℤ (n · get_or cs k 𝟎) → Best n cs (i + 1) k
  best_kept h = record { below = omega (arith, b.below); most = upto k b.most h; lowest = b.lowest }

pub best_all : (n : Vector) (cs : List Vector) (i k : ℕ) → i ≡ length cs → Best n cs i k → farthest n cs ≡ k
best_all n cs i k e b = farthest_is n cs k (record { below = omega (arith, b.below); most = λ j l. b.most j (omega arith); lowest = b.lowest })

-- ---- corners that are made one by one, with products that differ by the same number
pub farthest_map : (n m : Vector) (t : ℤ) (f : Vector → Vector) → ((c : Vector) → n · f c ≡ m · c +ℤ t) → (cs : List Vector) → 1 ≤ length cs → farthest n (map f cs) ≡ farthest m cs
farthest_map n m t f e cs some = farthest_is n (map f cs) k (record {
  below = omega (arith, b.below, length-map cs f);
  most = λ j l. let l' : j < length cs = omega (arith, length-map cs f) in omega (arith, lin, at j l', at k b.below, b.most j l');
  lowest = λ j l. omega (arith, lin, at j (omega (arith, b.below)), at k b.below, b.lowest j l);
})
  where
    k : ℕ
    k = farthest m cs

    b : Farthest m cs k
    b = is_farthest m cs some

    at : (j : ℕ) → j < length cs → n · get_or (map f cs) j 𝟎 ≡ m · get_or cs j 𝟎 +ℤ t
    at j l = ap (λ (v : Vector). n · v) (get_or-map f cs j 𝟎 𝟎 l) ∙ e (get_or cs j 𝟎)
