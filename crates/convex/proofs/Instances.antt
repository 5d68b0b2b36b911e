-- Cases of the theorems, most of them at T and a cube.
use Rattle.std.proofs.Common.{◌≡◌, ◌≤◌, true, List, [], ◌∷◌, length, pos, negsuc, ◌+ℤ◌, ◌≤ℤ◌, sym, refl, ap, ◌∙◌, subst, inl, inr, arith}
use lib.Signed.{le_z}
use Rattle.vector.specs.declared.Vector.{Vector}
use Rattle.vector.specs.Vectors.{vector, ◌·◌, ◌⨯◌, ◌+ᵛ◌, ◌-ᵛ◌, negᵛ}
use Rattle.vector.proofs.Order.{lin}
use Rattle.vector.proofs.Identities.{shift_minus, dot-plus}
use Rattle.convex.specs.Points.{◌∈◌, Shared, Mixture}
use Rattle.convex.specs.Products.{Between, Top}
use Rattle.convex.specs.Faces.{InLine, Face, Edge}
use Rattle.convex.specs.Sides.{Sided, shifted, differences, mirrored, planes}
use Rattle.convex.specs.Theorems.{Pair}
use Rattle.convex.specs.Fives.{Five, first_entries, second_entries}
use Rattle.convex.specs.Examples.{whole, T, t_flats, t_ridges, cube, cube_flats, cube_ridges, t_at_10, cube_at_4, cube_beside, entry, Apart, Touch, Inside, Beside, Bounds, EdgeOfT, Examples}
use Rattle.convex.proofs.Members.{in_at, in_map, in_sums}
use Rattle.convex.proofs.Tests.{every, all_below, is_top, none_between}
use Rattle.convex.proofs.Sharing.{plane_is_proof}
use Rattle.convex.proofs.Mixtures.{mixture_is_proof}
use Rattle.convex.proofs.Tops.{top_from}
use Rattle.convex.proofs.Products.{weak_from_products}
use Rattle.convex.proofs.Mirrors.{mirror_keeps_laws}
use Rattle.convex.proofs.Sums.{sum_keeps_laws}
use Rattle.convex.proofs.Shifts.{shift_keeps_laws}
use Rattle.convex.proofs.Mixing.{five_corners_mix}
use Rattle.convex.proofs.TwoFaces.{edge_in_two_faces}
use Rattle.convex.proofs.ExampleLists.{lists}

-- ---- two vectors that differ in a component
module _ {u v : Vector} where
  differ_x : ¬ (u.x ≡ v.x) → ¬ (u ≡ v)
  differ_x h e = h (ap (λ (t : Vector). t.x) e)

  differ_y : ¬ (u.y ≡ v.y) → ¬ (u ≡ v)
  differ_y h e = h (ap (λ (t : Vector). t.y) e)

  differ_z : ¬ (u.z ≡ v.z) → ¬ (u ≡ v)
  differ_z h e = h (ap (λ (t : Vector). t.z) e)

-- ---- the face (16, 16, 16) of the differences of T and a list whose corner c has the least product
face_of_differences : (c : Vector) (B : List Vector) → c ∈ B
    → every (λ d. le_z (whole 16 16 16 · d) (whole 16 16 16 · (whole 4 0 0 +ᵛ negᵛ c))) (differences T B) ≡ true → Face (whole 16 16 16) (differences T B)
face_of_differences c B h e = record {
  nonzero = differ_x (λ e. absurd (omega (arith, lin)));
  p = whole 4 0 0 +ᵛ negᵛ c;
  q = whole 0 4 0 +ᵛ negᵛ c;
  r = whole 0 0 4 +ᵛ negᵛ c;
  p_top = top;
  q_top = also (whole 0 4 0) (inr (inr (inl refl))) refl;
  r_top = also (whole 0 0 4) (inr (inl refl)) refl;
  spread = λ z. differ_x (λ e. absurd (omega (arith, lin))) (sym (apart_by c) ∙ z);
}
  where
    m : Vector
    m = whole 16 16 16

    in_differences : (a : Vector) → a ∈ T → (a +ᵛ negᵛ c) ∈ differences T B
    in_differences a i = in_sums T (mirrored B) a (negᵛ c) i (in_map negᵛ B c h)

    top : Top m (differences T B) (whole 4 0 0 +ᵛ negᵛ c)
    top = is_top m (whole 4 0 0 +ᵛ negᵛ c) (differences T B) (in_differences (whole 4 0 0) (inr (inr (inr (inl refl))))) e

    -- a corner of T as high as (4, 0, 0)
    also : (a : Vector) → a ∈ T → m · a ≡ pos 64 → Top m (differences T B) (a +ᵛ negᵛ c)
    also a i k = top_from m (differences T B) (whole 4 0 0 +ᵛ negᵛ c) (a +ᵛ negᵛ c) top (in_differences a i) (dot-plus m a (negᵛ c) ∙ ap (λ t. t +ℤ m · negᵛ c) k ∙ sym (dot-plus m (whole 4 0 0) (negᵛ c)))

    apart_by : (c : Vector) → ((whole 0 4 0 +ᵛ negᵛ c) -ᵛ (whole 4 0 0 +ᵛ negᵛ c)) ⨯ ((whole 0 0 4 +ᵛ negᵛ c) -ᵛ (whole 4 0 0 +ᵛ negᵛ c)) ≡ m
    apart_by c = λ i. shift_minus (whole 0 4 0) (whole 4 0 0) (negᵛ c) i ⨯ shift_minus (whole 0 0 4) (whole 4 0 0) (negᵛ c) i

-- ---- T and T at 10
accepted : Between (whole 16 16 16) T t_at_10
accepted = record { lt = tt }

pair_with : (v : Vector) (cs fs rs : List Vector) → Sided cs fs rs → 1 ≤ length (shifted v cs) → Pair T t_flats t_ridges (shifted v cs) fs rs
pair_with v cs fs rs s h = record {
  first = lists.t_sided;
  second = shift_keeps_laws v cs fs rs s;
  some_first = omega arith;
  some_second = h;
  spanning = inl lists.t_spanning;
}

none_shared : ¬ (Shared T t_at_10)
none_shared = plane_is_proof T t_at_10 (whole 16 16 16) accepted

apart : Apart
apart = record {
  pair = pair_with (whole 10 0 0) T t_flats t_ridges lists.t_sided (omega arith);
  greatest_is = refl;
  least_is = refl;
  none_shared = none_shared;
  strict = all_below (whole 1 0 0) (differences T t_at_10) refl;
  face = face_of_differences (whole 10 0 0) t_at_10 (inl refl) refl;
  face_strict = all_below (whole 16 16 16) (differences T t_at_10) refl;
  listed = inr (inr (inr (inl refl)));
  accepted = accepted;
  dets_are = refl;
  not_these = refl;
  no_five = λ f. none_shared (mixture_is_proof T t_at_10 (first_entries T t_at_10 f) (second_entries T t_at_10 f) (five_corners_mix T t_at_10 f));
}

-- ---- T and the cube at 4
abbrev touching_five : Five T cube_at_4
touching_five = record {
  first = 3 ∷ [];
  second = 0 ∷ 1 ∷ 2 ∷ 4 ∷ [];
  of_first = record { rising = (omega arith, tt); within = (omega arith, tt) };
  of_second = record {
    rising = (omega arith, (omega arith, (omega arith, (omega arith, tt))));
    within = (omega arith, (omega arith, (omega arith, (omega arith, tt))));
  };
  some_first = omega arith;
  some_second = omega arith;
  many = refl;
  mixes = refl;
}

touching_mixture : Mixture T cube_at_4 (entry 3 64 ∷ []) (entry 0 64 ∷ entry 1 0 ∷ entry 2 0 ∷ entry 4 0 ∷ [])
touching_mixture = five_corners_mix T cube_at_4 touching_five

shared : Shared T cube_at_4
shared = mixture_is_proof T cube_at_4 (entry 3 64 ∷ []) (entry 0 64 ∷ entry 1 0 ∷ entry 2 0 ∷ entry 4 0 ∷ []) touching_mixture

touching_pair : Pair T t_flats t_ridges cube_at_4 cube_flats cube_ridges
touching_pair = pair_with (whole 4 0 0) cube cube_flats cube_ridges lists.cube_sided (omega arith)

touch : Touch
touch = record {
  pair = touching_pair;
  dets_are = refl;
  five = touching_five;
  first_are = refl;
  second_are = refl;
  mixture = touching_mixture;
  sum_is = refl;
  shared = shared;
  none_between = λ n b. plane_is_proof T cube_at_4 n b shared;
  sided = sum_keeps_laws T t_flats t_ridges (mirrored cube_at_4) (mirrored cube_flats) cube_ridges lists.t_sided
      (mirror_keeps_laws cube_at_4 cube_flats cube_ridges touching_pair.second);
  weak = record { le = tt };
  face = face_of_differences (whole 4 0 0) cube_at_4 (inl refl) refl;
  face_weak = weak_from_products (whole 16 16 16) T cube_at_4 (omega arith) (omega arith) (record { le = tt });
  listed = inr (inr (inr (inl refl)));
  greatest_is = refl;
  least_is = refl;
}

inside : Inside
inside = record { dets_are = refl; yield = refl }

-- ---- T and the cube beside it
beside : Beside
beside = record {
  pair = pair_with (vector (negsuc 0) (pos 2) (pos 3)) cube cube_flats cube_ridges lists.cube_sided (omega arith);
  no_flat_of_t = none_between t_flats T cube_beside refl;
  no_flat_of_cube = none_between (mirrored cube_flats) T cube_beside refl;
  product_is = refl;
  listed = in_at (planes t_flats t_ridges cube_flats cube_ridges) 29 (omega arith);
  greatest_is = refl;
  least_is = refl;
  accepted = record { lt = tt };
  none_shared = plane_is_proof T cube_beside (whole 0 16 16) (record { lt = tt });
}

bounds : Bounds
bounds = record { far = refl; steep = refl }

-- ---- the edge of T from corner 0 to corner 3
t_edge : Edge (vector (pos 0) (negsuc 0) (negsuc 0)) T
t_edge = record {
  nonzero = differ_y (λ e. absurd (omega (arith, lin)));
  p = whole 0 0 0;
  q = whole 4 0 0;
  p_top = is_top (vector (pos 0) (negsuc 0) (negsuc 0)) (whole 0 0 0) T (inl refl) refl;
  q_top = is_top (vector (pos 0) (negsuc 0) (negsuc 0)) (whole 4 0 0) T (inr (inr (inr (inl refl)))) refl;
  differ = differ_x (λ e. absurd (omega (arith, lin)));
  line = λ r t. on_line r t.member t.most.0;
}
  where
    on_line : (r : Vector) → r ∈ T → (vector (pos 0) (negsuc 0) (negsuc 0) · whole 0 0 0) ≤ℤ (vector (pos 0) (negsuc 0) (negsuc 0) · r) → InLine (whole 0 0 0) (whole 4 0 0) r
    on_line r (inl e) h = ap (λ (t : Vector). (whole 4 0 0 -ᵛ whole 0 0 0) ⨯ (t -ᵛ whole 0 0 0)) e
    on_line r (inr (inl e)) h = absurd (below_0 (subst (λ (t : Vector). pos 0 ≤ℤ (vector (pos 0) (negsuc 0) (negsuc 0) · t)) e h))
      where
        below_0 : pos 0 ≤ℤ negsuc 3 → ⊥
        below_0 h = omega (arith, lin)
    on_line r (inr (inr (inl e))) h = absurd (below_0 (subst (λ (t : Vector). pos 0 ≤ℤ (vector (pos 0) (negsuc 0) (negsuc 0) · t)) e h))
      where
        below_0 : pos 0 ≤ℤ negsuc 3 → ⊥
        below_0 h = omega (arith, lin)
    on_line r (inr (inr (inr (inl e)))) h = ap (λ (t : Vector). (whole 4 0 0 -ᵛ whole 0 0 0) ⨯ (t -ᵛ whole 0 0 0)) e
    on_line r (inr (inr (inr (inr e)))) h = absurd e

edge_of_t : EdgeOfT
edge_of_t = record {
  edge = t_edge;
  faces = edge_in_two_faces T lists.t_spanning (vector (pos 0) (negsuc 0) (negsuc 0)) t_edge;
  first = record {
    nonzero = differ_y (λ e. absurd (omega (arith, lin)));
    p = whole 0 0 0;
    q = whole 0 0 4;
    r = whole 4 0 0;
    p_top = first_0;
    q_top = is_top (vector (pos 0) (negsuc 0) (pos 0)) (whole 0 0 4) T (inr (inl refl)) refl;
    r_top = first_3;
    spread = differ_y (λ e. absurd (omega (arith, lin)));
  };
  second = record {
    nonzero = differ_z (λ e. absurd (omega (arith, lin)));
    p = whole 0 0 0;
    q = whole 0 4 0;
    r = whole 4 0 0;
    p_top = second_0;
    q_top = is_top (vector (pos 0) (pos 0) (negsuc 0)) (whole 0 4 0) T (inr (inr (inl refl))) refl;
    r_top = second_3;
    spread = differ_z (λ e. absurd (omega (arith, lin)));
  };
  third = record {
    nonzero = differ_x (λ e. absurd (omega (arith, lin)));
    p = whole 0 0 4;
    q = whole 0 4 0;
    r = whole 4 0 0;
    p_top = is_top (whole 1 1 1) (whole 0 0 4) T (inr (inl refl)) refl;
    q_top = is_top (whole 1 1 1) (whole 0 4 0) T (inr (inr (inl refl))) refl;
    r_top = is_top (whole 1 1 1) (whole 4 0 0) T (inr (inr (inr (inl refl)))) refl;
    spread = differ_x (λ e. absurd (omega (arith, lin)));
  };
  first_on = (first_0, first_3);
  second_on = (second_0, second_3);
  third_off = λ t. absurd (omega (arith, lin, t.most.1.0));
}
  where
    first_0 : Top (vector (pos 0) (negsuc 0) (pos 0)) T (whole 0 0 0)
    first_0 = is_top (vector (pos 0) (negsuc 0) (pos 0)) (whole 0 0 0) T (inl refl) refl

    first_3 : Top (vector (pos 0) (negsuc 0) (pos 0)) T (whole 4 0 0)
    first_3 = is_top (vector (pos 0) (negsuc 0) (pos 0)) (whole 4 0 0) T (inr (inr (inr (inl refl)))) refl

    second_0 : Top (vector (pos 0) (pos 0) (negsuc 0)) T (whole 0 0 0)
    second_0 = is_top (vector (pos 0) (pos 0) (negsuc 0)) (whole 0 0 0) T (inl refl) refl

    second_3 : Top (vector (pos 0) (pos 0) (negsuc 0)) T (whole 4 0 0)
    second_3 = is_top (vector (pos 0) (pos 0) (negsuc 0)) (whole 4 0 0) T (inr (inr (inr (inl refl)))) refl

pub examples : Examples
examples = record { lists = lists; apart = apart; touch = touch; inside = inside; beside = beside; bounds = bounds; edge = edge_of_t }
