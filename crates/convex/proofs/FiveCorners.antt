-- Five corners suffice: where two lists have a common point and no plane holds both, some five of their corners yield a mixture.
-- The weights of the common point are a relation on the corners of both. It is thinned to five corners; there the determinants, turned to their sides,
-- are proportional to it, so none of them is below 0 or none above.
use Rattle.std.proofs.Common.{◌≡◌, ℕ, ◌+◌, ◌≤◌, Bool, true, false, not, List, [], ◌∷◌, ◌++◌, length, get_or, take, drop, ℤ, pos, negsuc, ◌+ℤ◌, ◌*ℤ◌, neg_ℤ, ◌≤ℤ◌, ◌<ℤ◌, sym, refl, ap, ◌∙◌, subst, arith}
use lib.IntN.{ℤ_discrete}
use Rattle.std.proofs.lemmas.List.{length-append, length-map, take-append-drop, drop_all}
use Rattle.std.proofs.lemmas.Bool.{or_left, or_right}
use Rattle.vector.specs.declared.Vector.{Vector}
use Rattle.vector.specs.Vectors.{◌·◌, ◌+ᵛ◌, 𝟎}
use Rattle.vector.proofs.Ring.{var, num, ◌⊕◌, ◌⊗◌, ring}
use Rattle.vector.proofs.Order.{lin, mul_nonneg, cancel_le, times_nought}
use Rattle.vector.proofs.Identities.{◌+ₑ◌, ◌∗ₑ◌, 𝟎ₑ, vec, env, ringᵛ}
use Rattle.convex.specs.Points.{total}
use Rattle.convex.specs.Faces.{Spanning}
use Rattle.convex.specs.Theorems.{FiveCornersSuffice}
use Rattle.convex.specs.Fives.{det, dets, some_of, has_sign, yields, Choice, chosen, Five}
use Rattle.convex.proofs.Relations.{sum, combine, NoneBelow, Common, sum-append, combine-append, scale, scale_many, scale_sum, scale_combine, naturals}
use Rattle.convex.proofs.Sharing.{common_from_shared}
use Rattle.convex.proofs.Kernel.{Weights, Pick, here, there, at, Balanced, Some, Full, full_drop, proportional}
use Rattle.convex.proofs.Choices.{Sub, parts, sub_map, numbers_of}
use Rattle.convex.proofs.Thin.{NonNeg, nonneg_at, RelationOf, Few, few}
use Rattle.convex.proofs.Determinants.{five_of, dets-sum, dets-combine, det_plane}
use Rattle.convex.proofs.Signs.{side, side_true, side_false, Toward, Leans, opposed_passes, sign_of, side_of}
use Rattle.convex.proofs.Mixing.{five_points_mix}
use Rattle.convex.proofs.Corners.{Corner, corner, corners, joined, length-joined, points, points-joined}
use Rattle.convex.proofs.Corners.{rows, along, side_twice, side_cancel, spanning_full, full_spanning, turned, turned_balanced}

-- ---- a common point is a relation, in which the weights on the second count against those on the first
second_nonneg : (B : List Vector) (ws : List ℤ) → length ws ≡ length B → NoneBelow ws → NonNeg (corners false B) (turned (corners false B) (scale (side false) ws))
second_nonneg [] ws e n = tt
second_nonneg (b ∷ B) [] e n = absurd (omega arith)
second_nonneg (b ∷ B) (w ∷ ws) e n = (omega (arith, lin, n.0, side_twice false w), second_nonneg B ws (omega arith) n.1)

both_nonneg : (A B : List Vector) (ws vs : List ℤ) → length ws ≡ length A → length vs ≡ length B → NoneBelow ws → NoneBelow vs
    → NonNeg (joined A B) (turned (joined A B) (ws ++ scale (side false) vs))
both_nonneg [] B [] vs e f n m = second_nonneg B vs f m
both_nonneg [] B (w ∷ ws) vs e f n m = absurd (omega arith)
both_nonneg (a ∷ A) B [] vs e f n m = absurd (omega arith)
both_nonneg (a ∷ A) B (w ∷ ws) vs e f n m = (omega (arith, lin, n.0, side_true w), both_nonneg A B ws vs (omega arith) f n.1 m)

both_some : (A : List Vector) (S : List Corner) (ws vs : List ℤ) → length ws ≡ length A → pos 0 <ℤ sum ws → Some (corners true A ++ S) (turned (corners true A ++ S) (ws ++ vs))
both_some [] S [] vs e h = absurd (omega (arith, lin))
both_some [] S (w ∷ ws) vs e h = absurd (omega arith)
both_some (a ∷ A) S [] vs e h = absurd (omega arith)
both_some (a ∷ A) S (w ∷ ws) vs e h = go (ℤ_discrete w (pos 0)) (λ k. both_some A S ws vs (omega arith) k)
  where
    go : Dec (w ≡ pos 0) → (pos 0 <ℤ sum ws → Some (corners true A ++ S) (turned (corners true A ++ S) (ws ++ vs)))
        → Some (corners true (a ∷ A) ++ S) (turned (corners true (a ∷ A) ++ S) (w ∷ ws ++ vs))
    go (no n) f = record { x = _; rest = _; pick = here; nonzero = λ z. n (sym (side_true w) ∙ z) }
    go (yes z) f = let r = f (omega (arith, lin)) in record { x = r.x; rest = _; pick = there r.pick; nonzero = r.nonzero }

common_relation : (A B : List Vector) → Common A B → RelationOf along rows (joined A B)
common_relation A B h = record {
  weights = turned (joined A B) (ws ++ vs);
  nonneg = both_nonneg A B ws h.on_b h.many_a h.many_b h.nonneg_a h.nonneg_b;
  some = both_some A (corners false B) ws vs h.many_a h.some;
  balanced = turned_balanced (joined A B) (ws ++ vs) many no_total no_sum;
}
  where
    ws : List ℤ
    ws = h.on_a

    vs : List ℤ
    vs = scale (side false) h.on_b

    many : length (ws ++ vs) ≡ length (joined A B)
    many = length-append ws vs ∙ omega (arith, h.many_a, h.many_b, scale_many (side false) h.on_b, length-joined A B)

    no_total : sum (ws ++ vs) ≡ pos 0
    no_total = sum-append ws vs ∙ (λ i. h.same_total i +ℤ scale_sum (side false) h.on_b i)
        ∙ ring (sum h.on_b ∷ []) (var 0 ⊕ num (negsuc 0) ⊗ var 0) (num (pos 0)) refl

    no_sum : combine (ws ++ vs) (points (joined A B)) ≡ 𝟎
    no_sum = ap (λ (t : List Vector). combine (ws ++ vs) t) (points-joined A B) ∙ combine-append ws vs A B h.many_a
        ∙ (λ i. h.same_point i +ᵛ scale_combine (side false) h.on_b B i)
        ∙ ringᵛ (env (combine h.on_b B ∷ []) []) (vec 0 +ₑ num (negsuc 0) ∗ₑ vec 0) 𝟎ₑ refl refl refl

-- ---- the determinants of five corners
-- four full corners have a determinant that is not 0
four_full : (p q r s : Corner) → Full along rows (p ∷ q ∷ r ∷ s ∷ []) → ¬ (det p.point q.point r.point s.point ≡ pos 0)
four_full p q r s full e =
    let w = det_plane p.point q.point r.point s.point e in
    spanning_full (p ∷ q ∷ r ∷ s ∷ []) full w.0 w.1 (w.0 · s.point) (w.2, (w.3, (w.4, (refl, tt))))

unsigned : (a : ℤ) → neg_ℤ a ≡ pos 0 → a ≡ pos 0
unsigned a h = omega (arith, lin)

-- the determinants, turned to their sides
abbrev volumes : (S : List Corner) → Weights S
volumes S = turned S (dets (points S))

-- where the other four are full, that of a corner is not 0
not_nought : (a b c d e : Corner) {x : Corner} {Y : List Corner} (k : Pick x (a ∷ b ∷ c ∷ d ∷ e ∷ []) Y) → Full along rows Y → ¬ (at k (volumes (a ∷ b ∷ c ∷ d ∷ e ∷ [])) ≡ pos 0)
not_nought a b c d e here f z = four_full b c d e f (unsigned _ (side_cancel a.near _ z))
not_nought a b c d e (there here) f z = four_full a c d e f (side_cancel b.near _ z)
not_nought a b c d e (there (there here)) f z = four_full a b d e f (unsigned _ (side_cancel c.near _ z))
not_nought a b c d e (there (there (there here))) f z = four_full a b c e f (side_cancel d.near _ z)
not_nought a b c d e (there (there (there (there here)))) f z = four_full a b c d f (unsigned _ (side_cancel e.near _ z))
not_nought a b c d e (there (there (there (there (there q))))) f z = elim q [ ]

-- all weights lean to one side
abbrev AllToward : Bool → (S : List Corner) → Weights S → Type 0
AllToward b S w = (x : Corner) (Y : List Corner) (j : Pick x S Y) → Toward b (at j w)

-- so do the determinants, and some has a sign
record Leaning (S : List Corner) : Type 0 where
  lean : Bool
  signs : AllToward lean S (volumes S)
  some : some_of has_sign (dets (points S)) ≡ true

some_sign : {x : Corner} {S Y : List Corner} (k : Pick x S Y) (ds : List ℤ) → ¬ (at k (turned S ds) ≡ pos 0) → some_of has_sign ds ≡ true
some_sign here [] n = absurd (n refl)
some_sign {x} here (d ∷ ds) n = or_left (has_sign d) (some_of has_sign ds) (sign_of d (λ e. n (ap (λ t. side x.near *ℤ t) e ∙ times_nought (side x.near))))
some_sign (there k) [] n = some_sign k [] n
some_sign (there k) (d ∷ ds) n = or_right (has_sign d) (some_of has_sign ds) (some_sign k ds n)

leaning_five : (a b c d e : Corner) → Full along rows (a ∷ b ∷ c ∷ d ∷ e ∷ []) → RelationOf along rows (a ∷ b ∷ c ∷ d ∷ e ∷ []) → Leaning (a ∷ b ∷ c ∷ d ∷ e ∷ [])
leaning_five a b c d e full r = record {
  lean = l.0;
  signs = λ x Y j. scalar (side l.0) (at k r.weights) (at k (volumes S)) (at j r.weights) (at j (volumes S))
      (nonneg_at k r.weights r.nonneg) r.some.nonzero l.1 (nonneg_at j r.weights r.nonneg)
      (proportional along rows S refl full r.weights (volumes S) r.balanced balanced k r.some.nonzero j);
  some = some_sign k (dets (points S)) n;
}
  where
    S : List Corner
    S = a ∷ b ∷ c ∷ d ∷ e ∷ []

    k : Pick r.some.x S r.some.rest
    k = r.some.pick

    n : ¬ (at k (volumes S) ≡ pos 0)
    n = not_nought a b c d e k (full_drop along rows k r.weights r.some.nonzero r.balanced full)

    l : (b : Bool) × pos 0 <ℤ (side b *ℤ at k (volumes S))
    l = side_of (at k (volumes S)) (sign_of (at k (volumes S)) n)

    balanced : Balanced along rows S (volumes S)
    balanced = turned_balanced S (dets (points S)) refl (dets-sum (points S)) (dets-combine (points S) refl)

    -- w is the relation and v the determinant, at k and at j
    scalar : (s w v w' v' : ℤ) → pos 0 ≤ℤ w → ¬ (w ≡ pos 0) → pos 0 <ℤ (s *ℤ v) → pos 0 ≤ℤ w' → w *ℤ v' ≡ v *ℤ w' → pos 0 ≤ℤ (s *ℤ v')
    scalar s w v w' v' h n p h' e = cancel_le w (pos 0) (s *ℤ v') (omega (arith, lin, h, n))
        (omega (arith, lin, times_nought w, mul_nonneg (s *ℤ v) w' (omega (arith, lin, p)) h', turn))
      where
        turn : w *ℤ (s *ℤ v') ≡ s *ℤ v *ℤ w'
        turn = ring (s ∷ w ∷ v' ∷ []) (var 1 ⊗ (var 0 ⊗ var 2)) (var 0 ⊗ (var 1 ⊗ var 2)) refl
            ∙ ap (λ t. s *ℤ t) e ∙ ring (s ∷ v ∷ w' ∷ []) (var 0 ⊗ (var 1 ⊗ var 2)) (var 0 ⊗ var 1 ⊗ var 2) refl

leaning_of : (S : List Corner) → length S ≡ 5 → Full along rows S → RelationOf along rows S → Leaning S
leaning_of S h = let f = five_of S h in
    subst (λ (X : List Corner). Full along rows X → RelationOf along rows X → Leaning X) f.are (leaning_five f.a f.b f.c f.d f.e)

-- ---- the signs, side by side
second_leans : (b : Bool) (Q : List Vector) (ds : List ℤ) → length ds ≡ length Q → AllToward b (corners false Q) (turned (corners false Q) ds) → Leans (not b) ds
second_leans b Q [] e f = tt
second_leans b [] (d ∷ ds) e f = absurd (omega arith)
second_leans b (q ∷ Q) (d ∷ ds) e f = (other b d (f _ _ here), second_leans b Q ds (omega arith) (λ x Y j. f x _ (there j)))
  where
    other : (b : Bool) (d : ℤ) → Toward b (side false *ℤ d) → Toward (not b) d
    other true d h = omega (arith, lin, h, side_true (side false *ℤ d))
    other false d h = omega (arith, lin, h, side_false (side false *ℤ d), side_false d, side_true d)

both_lean : (b : Bool) (P Q : List Vector) (ds : List ℤ) → length ds ≡ length P + length Q
    → AllToward b (joined P Q) (turned (joined P Q) ds) → Leans b (take (length P) ds) × Leans (not b) (drop (length P) ds)
both_lean b [] Q ds e f = (tt, second_leans b Q ds (omega arith) f)
both_lean b (p ∷ P) Q [] e f = absurd (omega arith)
both_lean b (p ∷ P) Q (d ∷ ds) e f =
    let r = both_lean b P Q ds (omega arith) (λ x Y j. f x _ (there j)) in
    ((subst (Toward b) (side_true d) (f _ _ here), r.0), r.1)

five_yield : (P Q : List Vector) → length P + length Q ≡ 5 → Full along rows (joined P Q) → RelationOf along rows (joined P Q) → yields P Q ≡ true
five_yield P Q h full r = opposed_passes ds es record { lean = l.lean; first = s.0; second = s.1; some = some }
  where
    ds : List ℤ
    ds = take (length P) (dets (P ++ Q))

    es : List ℤ
    es = drop (length P) (dets (P ++ Q))

    l : Leaning (joined P Q)
    l = leaning_of (joined P Q) (length-joined P Q ∙ h) full r

    s : Leans l.lean ds × Leans (not l.lean) es
    s = both_lean l.lean P Q (dets (P ++ Q)) (sym h)
        (subst (λ (X : List Vector). AllToward l.lean (joined P Q) (turned (joined P Q) (dets X))) (points-joined P Q) l.signs)

    some : some_of has_sign (ds ++ es) ≡ true
    some = subst (λ (t : List ℤ). some_of has_sign t ≡ true) (ap dets (points-joined P Q) ∙ sym (take-append-drop (length P) (dets (P ++ Q)))) l.some

-- ---- the five
record Picked (A B : List Vector) (S : List Corner) : Type 0 where
  first : List ℕ
  second : List ℕ
  of_first : Choice (length A) first
  of_second : Choice (length B) second
  are : S ≡ joined (chosen A first) (chosen B second)

picked : (A B : List Vector) {S : List Corner} → Sub S (joined A B) → Picked A B S
picked A B s =
    let p = parts (corners true A) (corners false B) s in
    let f = sub_map (corner true) A p.of_first in
    let g = sub_map (corner false) B p.of_second in
    let m = numbers_of f.1 in
    let n = numbers_of g.1 in
    record {
      first = m.numbers;
      second = n.numbers;
      of_first = m.choice;
      of_second = n.choice;
      are = p.are ∙ (λ i. f.2 i ++ g.2 i) ∙ (λ i. joined (m.are i) (n.are i));
    }

-- a mixture has corners of both
some_first : (P : List Vector) (ds : List ℤ) → 1 ≤ total (naturals (take (length P) ds)) → 1 ≤ length P
some_first [] ds h = absurd (omega arith)
some_first (p ∷ P) ds h = omega arith

some_second : (P Q : List Vector) (ds : List ℤ) → length ds ≡ length P + length Q → 1 ≤ total (naturals (drop (length P) ds)) → 1 ≤ length Q
some_second P [] ds e h = absurd (omega (arith, h, ap (λ (t : List ℤ). total (naturals t)) (drop_all (length P) ds (omega arith))))
some_second P (q ∷ Q) ds e h = omega arith

five_of_common : (A B : List Vector) → Spanning (A ++ B) → Common A B → Five A B
five_of_common A B s h =
    let m = five_points_mix P Q many mixes in
    let first_many = length-map p.first (λ i. get_or A i 𝟎) in
    let second_many = length-map p.second (λ i. get_or B i 𝟎) in
    record {
      first = p.first;
      second = p.second;
      of_first = p.of_first;
      of_second = p.of_second;
      some_first = subst (λ n. 1 ≤ n) first_many (some_first P (dets (P ++ Q)) m.1);
      some_second = subst (λ n. 1 ≤ n) second_many (some_second P Q (dets (P ++ Q)) (sym many) (subst (λ n. 1 ≤ n) m.0 m.1));
      many = sym (λ i. first_many i + second_many i) ∙ many;
      mixes = mixes;
    }
  where
    f : Few along rows (joined A B)
    f = few along rows (joined A B) (full_spanning (joined A B) (subst Spanning (sym (points-joined A B)) s)) (common_relation A B h)

    p : Picked A B f.Y
    p = picked A B f.sub

    P : List Vector
    P = chosen A p.first

    Q : List Vector
    Q = chosen B p.second

    many : length P + length Q ≡ 5
    many = sym (length-joined P Q) ∙ sym (ap length p.are) ∙ f.many

    mixes : yields P Q ≡ true
    mixes = five_yield P Q many (subst (Full along rows) p.are f.full) (subst (RelationOf along rows) p.are f.relation)

pub five_corners_suffice : FiveCornersSuffice
five_corners_suffice A B s h = five_of_common A B s (common_from_shared A B h)
