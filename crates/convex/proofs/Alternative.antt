-- A direction or a point: a relation on the differences of two lists is a point that they share.
use Rattle.std.proofs.Common.{◌≡◌, ℕ, zero, suc, ◌+◌, List, [], ◌∷◌, ◌++◌, map, length, ℤ, pos, ◌+ℤ◌, ◌≤ℤ◌, ◌<ℤ◌, sym, refl, ap, ◌∙◌, subst, inl, inr, arith}
use lib.ListN.{length-map}
use Rattle.std.proofs.lemmas.List.{length-append}
use Rattle.vector.specs.declared.Vector.{Vector}
use Rattle.vector.specs.Vectors.{◌+ᵛ◌, ◌∗◌, negᵛ, 𝟎}
use Rattle.vector.proofs.Ring.{var, num, ◌⊕◌}
use Rattle.vector.proofs.Order.{lin}
use Rattle.vector.proofs.Identities.{◌+ₑ◌, ◌∗ₑ◌, negₑ, vec, env, ringᵛ, 𝟎ₑ}
use Rattle.convex.specs.Sides.{sums, mirrored, differences}
use Rattle.convex.specs.Theorems.{DirectionOrPoint}
use Rattle.convex.proofs.Members.{all_left, all_right}
use Rattle.convex.proofs.Relations.{sum, combine, NoneBelow, Relation, Common, sum-append, combine-append, zeros, zeros_are}
use Rattle.convex.proofs.Gordan.{gordan}
use Rattle.convex.proofs.Products.{between_from_strict}
use Rattle.convex.proofs.Sharing.{shared_from_common}

-- ---- weights of two lists, one after the other
record Cut (ws : List ℤ) (m n : ℕ) : Type 0 where
  l : List ℤ
  r : List ℤ
  is : ws ≡ l ++ r
  many_l : length l ≡ m
  many_r : length r ≡ n

cut : (ws : List ℤ) (m n : ℕ) → length ws ≡ m + n → Cut ws m n
cut ws zero n e = record { l = []; r = ws; is = refl; many_l = refl; many_r = omega (arith, e) }
cut [] (suc m) n e = absurd (omega arith)
cut (w ∷ ws) (suc m) n e =
    let c = cut ws m n (omega arith) in
    record { l = w ∷ c.l; r = c.r; is = ap (λ (t : List ℤ). w ∷ t) c.is; many_l = ap suc c.many_l; many_r = c.many_r }

sum_nonneg : (l : List ℤ) → NoneBelow l → pos 0 ≤ℤ sum l
sum_nonneg [] h = omega (arith, lin)
sum_nonneg (w ∷ l) h = omega (arith, lin, h.0, sum_nonneg l h.1)

-- ---- two lists of weights on one list, added
abbrev add : List ℤ → List ℤ → List ℤ
add [] r = r
add (w ∷ l) [] = w ∷ l
add (w ∷ l) (v ∷ r) = (w +ℤ v) ∷ add l r

add_many : (l r : List ℤ) → length l ≡ length r → length (add l r) ≡ length r
add_many [] r e = refl
add_many (w ∷ l) [] e = e
add_many (w ∷ l) (v ∷ r) e = ap suc (add_many l r (omega arith))

add_nonneg : (l r : List ℤ) → NoneBelow l → NoneBelow r → NoneBelow (add l r)
add_nonneg [] r h k = k
add_nonneg (w ∷ l) [] h k = h
add_nonneg (w ∷ l) (v ∷ r) h k = (omega (arith, lin, h.0, k.0), add_nonneg l r h.1 k.1)

add_sum : (l r : List ℤ) → sum (add l r) ≡ sum l +ℤ sum r
add_sum [] r = omega (arith, lin)
add_sum (w ∷ l) [] = omega (arith, lin)
add_sum (w ∷ l) (v ∷ r) = omega (arith, lin, add_sum l r)

add_combine : (l r : List ℤ) (P : List Vector) → length l ≡ length P → length r ≡ length P → combine (add l r) P ≡ combine l P +ᵛ combine r P
add_combine [] r P e f = ringᵛ (env (combine r P ∷ []) []) (vec 0) (𝟎ₑ +ₑ vec 0) refl refl refl
add_combine (w ∷ l) [] P e f = absurd (omega arith)
add_combine (w ∷ l) (v ∷ r) [] e f = absurd (omega arith)
add_combine (w ∷ l) (v ∷ r) (p ∷ P) e f = ap (λ (t : Vector). (w +ℤ v) ∗ p +ᵛ t) (add_combine l r P (omega arith) (omega arith))
    ∙ ringᵛ (env (p ∷ combine l P ∷ combine r P ∷ []) (w ∷ v ∷ [])) ((var 9 ⊕ var 10) ∗ₑ vec 0 +ₑ (vec 1 +ₑ vec 2)) ((var 9 ∗ₑ vec 0 +ₑ vec 1) +ₑ (var 10 ∗ₑ vec 0 +ₑ vec 2)) refl refl refl

-- ---- weights on the sums of two lists give weights on each, with the same total
-- the sums of one corner of the first
one_corner : (a : Vector) (ws : List ℤ) (B : List Vector) → length ws ≡ length B → combine ws (map (λ b. a +ᵛ b) B) ≡ sum ws ∗ a +ᵛ combine ws B
one_corner a [] [] e = ringᵛ (env (a ∷ []) []) 𝟎ₑ (num (pos 0) ∗ₑ vec 0 +ₑ 𝟎ₑ) refl refl refl
one_corner a [] (b ∷ B) e = absurd (omega arith)
one_corner a (w ∷ ws) [] e = absurd (omega arith)
one_corner a (w ∷ ws) (b ∷ B) e = ap (λ (t : Vector). w ∗ (a +ᵛ b) +ᵛ t) (one_corner a ws B (omega arith))
    ∙ ringᵛ (env (a ∷ b ∷ combine ws B ∷ []) (w ∷ sum ws ∷ [])) (var 9 ∗ₑ (vec 0 +ₑ vec 1) +ₑ (var 10 ∗ₑ vec 0 +ₑ vec 2)) ((var 9 ⊕ var 10) ∗ₑ vec 0 +ₑ (var 9 ∗ₑ vec 1 +ₑ vec 2)) refl refl refl

record Margins (A B : List Vector) (ws : List ℤ) : Type 0 where
  first : List ℤ
  second : List ℤ
  many_first : length first ≡ length A
  many_second : length second ≡ length B
  nonneg_first : NoneBelow first
  nonneg_second : NoneBelow second
  total_first : sum first ≡ sum ws
  total_second : sum second ≡ sum ws
  point : combine ws (sums A B) ≡ combine first A +ᵛ combine second B

-- the weights of the sums of one corner more, cut off the rest
one_more : (a : Vector) (A B : List Vector) (ws : List ℤ) (c : Cut ws (length (map (λ b. a +ᵛ b) B)) (length (sums A B)))
    → NoneBelow (c.l ++ c.r) → Margins A B c.r → Margins (a ∷ A) B ws
one_more a A B ws c nn k = record {
  first = sum c.l ∷ k.first;
  second = add c.l k.second;
  many_first = ap suc k.many_first;
  many_second = add_many c.l k.second (many_l ∙ sym k.many_second) ∙ k.many_second;
  nonneg_first = (sum_nonneg c.l none_l, k.nonneg_first);
  nonneg_second = add_nonneg c.l k.second none_l k.nonneg_second;
  total_first = ap (λ t. sum c.l +ℤ t) k.total_first ∙ sym whole;
  total_second = add_sum c.l k.second ∙ ap (λ t. sum c.l +ℤ t) k.total_second ∙ sym whole;
  point = ap (λ (t : List ℤ). combine t (block ++ sums A B)) c.is ∙ combine-append c.l c.r block (sums A B) c.many_l
      ∙ (λ i. one_corner a c.l B many_l i +ᵛ k.point i)
      ∙ regroup (sum c.l) a (combine c.l B) (combine k.first A) (combine k.second B)
      ∙ ap (λ (t : Vector). (sum c.l ∗ a +ᵛ combine k.first A) +ᵛ t) (sym (add_combine c.l k.second B many_l k.many_second));
}
  where
    block : List Vector
    block = map (λ b. a +ᵛ b) B

    none_l : NoneBelow c.l
    none_l = all_left (λ w. pos 0 ≤ℤ w) c.l c.r nn

    many_l : length c.l ≡ length B
    many_l = c.many_l ∙ length-map B (λ b. a +ᵛ b)

    whole : sum ws ≡ sum c.l +ℤ sum c.r
    whole = ap sum c.is ∙ sum-append c.l c.r

    regroup : (k : ℤ) (a p q r : Vector) → (k ∗ a +ᵛ p) +ᵛ (q +ᵛ r) ≡ (k ∗ a +ᵛ q) +ᵛ (p +ᵛ r)
    regroup k a p q r = ringᵛ (env (a ∷ p ∷ q ∷ r ∷ []) (k ∷ []))
        ((var 12 ∗ₑ vec 0 +ₑ vec 1) +ₑ (vec 2 +ₑ vec 3)) ((var 12 ∗ₑ vec 0 +ₑ vec 2) +ₑ (vec 1 +ₑ vec 3)) refl refl refl

margins : (A B : List Vector) (ws : List ℤ) → length ws ≡ length (sums A B) → NoneBelow ws → Margins A B ws
margins [] B [] e n = let z = zeros_are B in record {
  first = [];
  second = zeros B;
  many_first = refl;
  many_second = z.many;
  nonneg_first = tt;
  nonneg_second = z.nonneg;
  total_first = refl;
  total_second = z.none;
  point = sym (ap (λ (t : Vector). 𝟎 +ᵛ t) z.point);
}
margins [] B (w ∷ ws) e n = absurd (omega arith)
margins (a ∷ A) B ws e n = one_more a A B ws c nn (margins A B c.r c.many_r (all_right (λ w. pos 0 ≤ℤ w) c.l c.r nn))
  where
    block : List Vector
    block = map (λ b. a +ᵛ b) B

    c : Cut ws (length block) (length (sums A B))
    c = cut ws (length block) (length (sums A B)) (e ∙ length-append block (sums A B))

    nn : NoneBelow (c.l ++ c.r)
    nn = subst NoneBelow c.is n

-- ---- the alternative
combine-mirrored : (ws : List ℤ) (B : List Vector) → combine ws (mirrored B) ≡ negᵛ (combine ws B)
combine-mirrored [] B = refl
combine-mirrored (w ∷ ws) [] = refl
combine-mirrored (w ∷ ws) (b ∷ B) = ap (λ (t : Vector). w ∗ negᵛ b +ᵛ t) (combine-mirrored ws B)
    ∙ ringᵛ (env (b ∷ combine ws B ∷ []) (w ∷ [])) (var 6 ∗ₑ negₑ (vec 0) +ₑ negₑ (vec 1)) (negₑ (var 6 ∗ₑ vec 0 +ₑ vec 1)) refl refl refl

common_from_relation : (A B : List Vector) → Relation (differences A B) → Common A B
common_from_relation A B r =
    let m = margins A (mirrored B) r.weights r.many r.nonneg in
    record {
      on_a = m.first;
      on_b = m.second;
      many_a = m.many_first;
      many_b = m.many_second ∙ length-map B negᵛ;
      nonneg_a = m.nonneg_first;
      nonneg_b = m.nonneg_second;
      same_total = m.total_first ∙ sym m.total_second;
      some = subst (λ t. pos 0 <ℤ t) (sym m.total_first) r.some;
      same_point = even (combine m.first A) (combine m.second B)
          (ap (λ (t : Vector). combine m.first A +ᵛ t) (sym (combine-mirrored m.second B)) ∙ sym m.point ∙ r.balanced);
    }
  where
    even : (u v : Vector) → u +ᵛ negᵛ v ≡ 𝟎 → u ≡ v
    even u v e = ringᵛ (env (u ∷ v ∷ []) []) (vec 0) ((vec 0 +ₑ negₑ (vec 1)) +ₑ vec 1) refl refl refl ∙ ap (λ (t : Vector). t +ᵛ v) e ∙ ringᵛ (env (v ∷ []) []) (𝟎ₑ +ₑ vec 0) (vec 0) refl refl refl

pub direction_or_point : DirectionOrPoint
direction_or_point A B h k = elim (gordan (differences A B)) [
  | inl (n, s) ↦ inl (n, between_from_strict n A B h k s)
  | inr r ↦ inr (shared_from_common A B (common_from_relation A B r))
]
