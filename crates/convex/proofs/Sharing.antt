-- A shared rational point is two lists of weights with one total and one sum; a plane between two lists rules it out.
use Rattle.std.proofs.Common.{◌≡◌, ℕ, ◌≤◌, List, [], ◌∷◌, length, ℤ, pos, ◌*ℤ◌, nat_abs, ◌≤ℤ◌, ◌<ℤ◌, sym, refl, ap, ◌∙◌, subst, arith}
use Rattle.std.specs.List.{AllByRecursion}
use Rattle.vector.specs.declared.Vector.{Vector}
use Rattle.vector.specs.Vectors.{◌·◌, ◌∗◌}
use Rattle.vector.proofs.Ring.{var, ◌⊗◌, ring}
use Rattle.vector.proofs.Integers.{+ℤ-*ℤ}
use Rattle.vector.proofs.Order.{lin, mul_mono, mul_pos, mul_strict, nought_times}
use Rattle.vector.proofs.Identities.{dot-𝟎, dot-weighted, times_swap, cancel_times}
use Rattle.convex.specs.Points.{Belongs, Point, total, weighted, Shared}
use Rattle.convex.specs.Products.{greatest, least}
use Rattle.convex.specs.Theorems.{PlaneIsProof}
use Rattle.convex.proofs.Relations.{sum, combine, NoneBelow, Common, scale, scale_many, scale_nonneg, scale_sum, scale_combine}
use Rattle.convex.proofs.Relations.{integers, naturals, integers_many, integers_nonneg, integers_sum, integers_combine, naturals_many, naturals_total, naturals_weighted}
use Rattle.convex.proofs.Products.{greatest_bounds, least_bounds}

-- ---- from weights to a point
pub shared_from_weights : (A B : List Vector) (ws vs : List ℕ) → length ws ≡ length A → length vs ≡ length B → 1 ≤ total ws → total ws ≡ total vs → weighted ws A ≡ weighted vs B → Shared A B
shared_from_weights A B ws vs m k s t e = (
  record { over = weighted ws A; under = total ws; positive = s },
  record { weights = ws; one_each = m; some = s; is = refl },
  record { weights = vs; one_each = k; some = subst (λ n. 1 ≤ n) t s; is = (λ i. pos (sym t i) ∗ weighted ws A) ∙ (λ i. pos (total ws) ∗ e i) },
)

pub shared_from_common : (A B : List Vector) → Common A B → Shared A B
shared_from_common A B c =
    shared_from_weights A B (naturals c.on_a) (naturals c.on_b) (naturals_many c.on_a ∙ c.many_a) (naturals_many c.on_b ∙ c.many_b)
    (positive (total (naturals c.on_a)) (subst (λ k. pos 0 <ℤ k) (sym (naturals_total c.on_a c.nonneg_a)) c.some))
    (same_naturals (naturals_total c.on_a c.nonneg_a ∙ c.same_total ∙ sym (naturals_total c.on_b c.nonneg_b)))
    (naturals_weighted c.on_a A c.nonneg_a ∙ c.same_point ∙ sym (naturals_weighted c.on_b B c.nonneg_b))
  where
    positive : (n : ℕ) → pos 0 <ℤ pos n → 1 ≤ n
    positive n h = omega (arith, lin)

    same_naturals : {m n : ℕ} → pos m ≡ pos n → m ≡ n
    same_naturals e = ap nat_abs e

-- ---- and back: the weights of each side, times the total of the other
pub common_from_shared : (A B : List Vector) → Shared A B → Common A B
common_from_shared A B (p, x, y) = record {
  on_a = scale b ws;
  on_b = scale a vs;
  many_a = scale_many b ws ∙ integers_many x.weights ∙ x.one_each;
  many_b = scale_many a vs ∙ integers_many y.weights ∙ y.one_each;
  nonneg_a = scale_nonneg b ws (omega (arith, lin)) (integers_nonneg x.weights);
  nonneg_b = scale_nonneg a vs (omega (arith, lin)) (integers_nonneg y.weights);
  same_total = on_both b ws a vs (integers_sum x.weights) (integers_sum y.weights);
  some = subst (λ k. pos 0 <ℤ k) (sym (scale_sum b ws ∙ ap (λ t. b *ℤ t) (integers_sum x.weights))) (mul_pos b a b_pos a_pos);
  same_point = scale_combine b ws A ∙ ap (λ (t : Vector). b ∗ t) (integers_combine x.weights A) ∙ level
      ∙ sym (scale_combine a vs B ∙ ap (λ (t : Vector). a ∗ t) (integers_combine y.weights B));
}
  where
    ws : List ℤ
    ws = integers x.weights

    vs : List ℤ
    vs = integers y.weights

    a : ℤ
    a = pos (total x.weights)

    b : ℤ
    b = pos (total y.weights)

    d : ℤ
    d = pos p.under

    above : (n : ℕ) → 1 ≤ n → pos 0 <ℤ pos n
    above n h = omega (arith, lin)

    a_pos : pos 0 <ℤ a
    a_pos = above (total x.weights) x.some

    b_pos : pos 0 <ℤ b
    b_pos = above (total y.weights) y.some

    on_both : (b : ℤ) (ws : List ℤ) (a : ℤ) (vs : List ℤ) → sum ws ≡ a → sum vs ≡ b → sum (scale b ws) ≡ sum (scale a vs)
    on_both b ws a vs h k = scale_sum b ws ∙ ap (λ t. b *ℤ t) h ∙ ring (a ∷ b ∷ []) (var 1 ⊗ var 0) (var 0 ⊗ var 1) refl ∙ ap (λ t. a *ℤ t) (sym k) ∙ sym (scale_sum a vs)

    level : b ∗ weighted x.weights A ≡ a ∗ weighted y.weights B
    level = cancel_times d (b ∗ weighted x.weights A) (a ∗ weighted y.weights B) (above p.under p.positive)
        (times_swap d b (weighted x.weights A) ∙ ap (λ (t : Vector). b ∗ t) (sym x.is) ∙ times_swap b a p.over ∙ ap (λ (t : Vector). a ∗ t) y.is ∙ times_swap a d (weighted y.weights B))

-- ---- a plane is a proof
-- a weighted sum is no higher than the highest corner, and no lower than the lowest
below_sum : (n : Vector) (k : ℤ) (ws : List ℤ) (P : List Vector) → length ws ≡ length P → NoneBelow ws → AllByRecursion (λ p. (n · p) ≤ℤ k) P → (n · combine ws P) ≤ℤ (sum ws *ℤ k)
below_sum n k [] P e h a = omega (arith, lin, dot-𝟎 n, nought_times k)
below_sum n k (w ∷ ws) [] e h a = absurd (omega arith)
below_sum n k (w ∷ ws) (p ∷ P) e h a =
    omega (arith, lin, dot-weighted n w p (combine ws P), mul_mono w (n · p) k h.0 a.0, below_sum n k ws P (omega arith) h.1 a.1, +ℤ-*ℤ w (sum ws) k)

above_sum : (n : Vector) (k : ℤ) (ws : List ℤ) (P : List Vector) → length ws ≡ length P → NoneBelow ws → AllByRecursion (λ p. k ≤ℤ (n · p)) P → (sum ws *ℤ k) ≤ℤ (n · combine ws P)
above_sum n k [] P e h a = omega (arith, lin, dot-𝟎 n, nought_times k)
above_sum n k (w ∷ ws) [] e h a = absurd (omega arith)
above_sum n k (w ∷ ws) (p ∷ P) e h a =
    omega (arith, lin, dot-weighted n w p (combine ws P), mul_mono w k (n · p) h.0 a.0, above_sum n k ws P (omega arith) h.1 a.1, +ℤ-*ℤ w (sum ws) k)

-- nothing belongs to the empty list
none_in_empty : (p : Point) → Belongs p [] → ⊥
none_in_empty p b = no_weights b.weights b.one_each b.some
  where
    no_weights : (ws : List ℕ) → length ws ≡ 0 → 1 ≤ total ws → ⊥
    no_weights [] e h = omega arith
    no_weights (w ∷ ws) e h = omega arith

pub plane_is_proof : PlaneIsProof
plane_is_proof [] B n l (p, x, y) = none_in_empty p x
plane_is_proof (a ∷ A) [] n l (p, x, y) = none_in_empty p y
plane_is_proof (a ∷ A) (b ∷ B) n l s =
    let c = common_from_shared (a ∷ A) (b ∷ B) s in
    clash (sum c.on_a) (sum c.on_b) (greatest n (a ∷ A)) (least n (b ∷ B)) (n · combine c.on_a (a ∷ A)) (n · combine c.on_b (b ∷ B))
    c.same_total c.some l (ap (λ (t : Vector). n · t) c.same_point)
    (below_sum n (greatest n (a ∷ A)) c.on_a (a ∷ A) c.many_a c.nonneg_a (greatest_bounds n a A))
    (above_sum n (least n (b ∷ B)) c.on_b (b ∷ B) c.many_b c.nonneg_b (least_bounds n b B))
  where
    clash : (s t g l p q : ℤ) → s ≡ t → pos 0 <ℤ s → g <ℤ l → p ≡ q → p ≤ℤ (s *ℤ g) → (t *ℤ l) ≤ℤ q → ⊥
    clash s t g l p q e h i f u v = omega (arith, lin, u, v, f, mul_strict s g l h i, ap (λ x. x *ℤ l) e)
