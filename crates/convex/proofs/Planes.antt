-- The listed planes suffice: a plane between two sided lists tilts to a face of their differences, whose direction is a multiple of a listed plane.
use Rattle.std.proofs.Common.{◌≡◌, ◌≤◌, ◌⊎◌, List, ◌++◌, length, ℤ, pos, ◌+ℤ◌, ◌-ℤ◌, neg_ℤ, ◌≤ℤ◌, ◌<ℤ◌, sym, ap, ◌∙◌, subst, inl, inr, arith}
use lib.ListN.{length-map}
use Rattle.std.proofs.ByRecursion.{All-weaker}
use Rattle.vector.specs.declared.Vector.{Vector}
use Rattle.vector.specs.Vectors.{◌·◌, ◌+ᵛ◌, ◌∗◌, negᵛ, 𝟎}
use Rattle.vector.proofs.Order.{lin, le_or_lt, mul_neg, mul_nonpos, cancel_le, cancel_lt, times_nought}
use Rattle.vector.proofs.Identities.{times-𝟎, cancel_times, dot-plus, dot-neg, 𝟎-dot}
use Rattle.convex.specs.Points.{◌∈◌, Shared}
use Rattle.convex.specs.Products.{greatest, least, Between}
use Rattle.convex.specs.Faces.{Spanning, Face}
use Rattle.convex.specs.Sides.{Multiple, Sided, sums, mirrored, differences, planes}
use Rattle.convex.specs.Theorems.{Pair, PlanesSuffice, PlanesTouch}
use Rattle.convex.proofs.Members.{all_in, all_from_in, in_map, in_sums}
use Rattle.convex.proofs.Lines.{multiple_dot}
use Rattle.convex.proofs.Directions.{Weak, Strict}
use Rattle.convex.proofs.Products.{products_are_reached, strict_from_between, weak_from_products, between_from_strict, products_from_weak}
use Rattle.convex.proofs.Sharing.{plane_is_proof}
use Rattle.convex.proofs.Alternative.{direction_or_point}
use Rattle.convex.proofs.Tilting.{tilts_to_face}
use Rattle.convex.proofs.Mirrors.{mirror_keeps_laws}
use Rattle.convex.proofs.Sums.{sum_keeps_laws}

-- ---- a positive multiple has the signs of the other
module _ (m f : Vector) (k : Multiple m f) where
  over : pos 0 <ℤ pos k.over
  over = let h = k.over_positive in omega (arith, lin)

  under : pos 0 <ℤ pos k.under
  under = let h = k.under_positive in omega (arith, lin)

  strict_multiple : (L : List Vector) → Strict m L → Strict f L
  strict_multiple L s = All-weaker (λ v. (m · v) <ℤ pos 0) (λ v. (f · v) <ℤ pos 0)
      (λ v h. cancel_lt (pos k.over) (f · v) (pos 0) (omega (arith, lin)) (omega (arith, lin, multiple_dot m f k v, times_nought (pos k.over), mul_neg (pos k.under) (m · v) under h))) L s

  weak_multiple : (L : List Vector) → Weak m L → Weak f L
  weak_multiple L s = All-weaker (λ v. (m · v) ≤ℤ pos 0) (λ v. (f · v) ≤ℤ pos 0)
      (λ v h. cancel_le (pos k.over) (f · v) (pos 0) over (omega (arith, lin, multiple_dot m f k v, times_nought (pos k.over), mul_nonpos (pos k.under) (m · v) (omega (arith, lin)) h))) L s

  nonzero_multiple : ¬ (m ≡ 𝟎) → ¬ (f ≡ 𝟎)
  nonzero_multiple h e = h (cancel_times (pos k.under) m 𝟎 under (k.is ∙ ap (λ (t : Vector). pos k.over ∗ t) e ∙ times-𝟎 (pos k.over) ∙ sym (times-𝟎 (pos k.under))))

-- ---- where one of two lists is spanning, so are their sums
spanning_sums : (A B : List Vector) → 1 ≤ length A → 1 ≤ length B → Spanning A ⊎ Spanning B → Spanning (sums A B)
spanning_sums A B h k (inl s) w w≠ c a = let b = (products_are_reached w B k).0 in
    s w w≠ (c -ℤ w · b.0) (all_from_in (λ p. w · p ≡ c -ℤ w · b.0) A (λ p i.
    less (w · p) (w · b.0) (w · (p +ᵛ b.0)) c (dot-plus w p b.0) (all_in (λ v. w · v ≡ c) (sums A B) a (p +ᵛ b.0) (in_sums A B p b.0 i b.1))))
  where
    less : (x y t c : ℤ) → t ≡ x +ℤ y → t ≡ c → x ≡ c -ℤ y
    less x y t c e f = omega (arith, lin)
spanning_sums A B h k (inr s) w w≠ c a = let p = (products_are_reached w A h).0 in
    s w w≠ (c -ℤ w · p.0) (all_from_in (λ b. w · b ≡ c -ℤ w · p.0) B (λ b j.
    less (w · p.0) (w · b) (w · (p.0 +ᵛ b)) c (dot-plus w p.0 b) (all_in (λ v. w · v ≡ c) (sums A B) a (p.0 +ᵛ b) (in_sums A B p.0 b p.1 j))))
  where
    less : (x y t c : ℤ) → t ≡ x +ℤ y → t ≡ c → y ≡ c -ℤ x
    less x y t c e f = omega (arith, lin)

spanning_mirrored : (B : List Vector) → Spanning B → Spanning (mirrored B)
spanning_mirrored B s w w≠ c a = s w w≠ (neg_ℤ c) (all_from_in (λ b. w · b ≡ neg_ℤ c) B (λ b j.
    turned (w · b) (w · negᵛ b) c (dot-neg w b) (all_in (λ v. w · v ≡ c) (mirrored B) a (negᵛ b) (in_map negᵛ B b j))))
  where
    turned : (x t c : ℤ) → t ≡ neg_ℤ x → t ≡ c → x ≡ neg_ℤ c
    turned x t c e f = omega (arith, lin)

-- ---- the listed planes of a pair
module _ (A fs rs B gs ts : List Vector) (pair : Pair A fs rs B gs ts) where
  some_mirrored : 1 ≤ length (mirrored B)
  some_mirrored = subst (λ n. 1 ≤ n) (sym (length-map B negᵛ)) pair.some_second

  spanning : Spanning (differences A B)
  spanning = spanning_sums A (mirrored B) pair.some_first some_mirrored (elim pair.spanning [ inl s ↦ inl s | inr s ↦ inr (spanning_mirrored B s) ])

  sided : Sided (differences A B) (planes fs rs gs ts) (rs ++ ts)
  sided = sum_keeps_laws A fs rs (mirrored B) (mirrored gs) ts pair.first (mirror_keeps_laws B gs ts pair.second)

  -- a direction with no positive product over the differences is replaced by a listed plane
  record Listed (n : Vector) : Type 0 where
    plane : Vector
    in_list : plane ∈ planes fs rs gs ts
    nonzero : ¬ (plane ≡ 𝟎)
    weak : Weak plane (differences A B)
    strict : Strict n (differences A B) → Strict plane (differences A B)

  listed : (n : Vector) → ¬ (n ≡ 𝟎) → Weak n (differences A B) → Listed n
  listed n n≠ w = go (tilts_to_face (differences A B) n spanning n≠ w)
    where
      go : (m : Vector) × Face m (differences A B) × Weak m (differences A B) × (Strict n (differences A B) → Strict m (differences A B)) → Listed n
      go (m, face, low, below) =
          let f = sided.flats m face in
          record {
            plane = f.0;
            in_list = f.1;
            nonzero = nonzero_multiple m f.0 f.2 face.nonzero;
            weak = weak_multiple m f.0 f.2 (differences A B) low;
            strict = λ s. strict_multiple m f.0 f.2 (differences A B) (below s);
          }

  strict_nonzero : (n : Vector) → Between n A B → ¬ (n ≡ 𝟎)
  strict_nonzero n b e =
      let p = (products_are_reached n A pair.some_first).0 in
      let q = (products_are_reached n B pair.some_second).2 in
      clash (n · p.0) (n · q.0) (greatest n A) (least n B) p.2 q.2 (ap (λ (t : Vector). t · p.0) e ∙ 𝟎-dot p.0) (ap (λ (t : Vector). t · q.0) e ∙ 𝟎-dot q.0) b
    where
      clash : (x y g l : ℤ) → x ≡ g → y ≡ l → x ≡ pos 0 → y ≡ pos 0 → g <ℤ l → ⊥
      clash x y g l e f h k b = omega (arith, lin)

  suffice : ¬ (Shared A B) → (m : Vector) × m ∈ planes fs rs gs ts × Between m A B
  suffice none = elim (direction_or_point A B pair.some_first pair.some_second) [
    | inl (n, b) ↦
        let s = strict_from_between n A B pair.some_first pair.some_second b in
        let l = listed n (strict_nonzero n b) (strict_weak n s) in
        (l.plane, l.in_list, between_from_strict l.plane A B pair.some_first pair.some_second (l.strict s))
    | inr s ↦ absurd (none s)
  ]
    where
      strict_weak : (n : Vector) → Strict n (differences A B) → Weak n (differences A B)
      strict_weak n s = All-weaker (λ v. (n · v) <ℤ pos 0) (λ v. (n · v) ≤ℤ pos 0) (λ v h. omega (arith, lin)) (differences A B) s

  touch : Shared A B → (n : Vector) → ¬ (n ≡ 𝟎) → greatest n A ≤ℤ least n B → (m : Vector) × m ∈ planes fs rs gs ts × (¬ (m ≡ 𝟎)) × (greatest m A ≡ least m B)
  touch s n n≠ h =
      let l = listed n n≠ (weak_from_products n A B pair.some_first pair.some_second h) in
      let at_most = products_from_weak l.plane A B pair.some_first pair.some_second l.weak in
      (l.plane, l.in_list, l.nonzero, equal (greatest l.plane A) (least l.plane B) at_most (λ b. plane_is_proof A B l.plane b s))
    where
      equal : (g l : ℤ) → g ≤ℤ l → ¬ (g <ℤ l) → g ≡ l
      equal g l h k = elim (le_or_lt l g) [ inl q ↦ omega (arith, lin) | inr q ↦ absurd (k q) ]

pub planes_suffice : PlanesSuffice
planes_suffice A fs rs B gs ts pair none = suffice A fs rs B gs ts pair none

pub planes_touch : PlanesTouch
planes_touch A fs rs B gs ts pair s n n≠ h = touch A fs rs B gs ts pair s n n≠ h
