-- The extent of a list of corners: its numbers are reached, one corner more widens it, and it tells whether all corners are within reach.
use Rattle.std.proofs.Common.{◌≡◌, ℕ, ◌≤◌, true, false, List, [], ◌∷◌, ◌++◌, length, ℤ, pos, neg_ℤ, ◌≤ℤ◌, Ok, Err, sym, refl, ap, ◌∙◌, subst, inl, inr, arith}
use lib.Signed.{le_z}
use Rattle.std.specs.Int.{int_min, int_max}
use Rattle.std.specs.List.{AllByRecursion}
use Rattle.std.proofs.lemmas.Int.{ints}
use Rattle.std.proofs.lemmas.Bool.{and_parts, and_from, cases_Bool, both_ways, cond-true, cond-false}
use Rattle.vector.specs.declared.Vector.{Vector}
use Rattle.vector.specs.Vectors.{vector, ◌·◌, inside, within}
use Rattle.vector.proofs.Ring.{var, num, ring}
use Rattle.vector.proofs.Identities.{◌·ₑ◌, vec, env}
use Rattle.vector.proofs.Bounds.{ranges, within_ranges}
use Rattle.convex.specs.Points.{◌∈◌}
use Rattle.convex.specs.Products.{greatest, least}
use Rattle.convex.proofs.Members.{all_in, all_from_in}
use Rattle.convex.proofs.Products.{products_are_reached}
use Rattle.convex.proofs.Extremes.{greatest_push, least_push}
use Rattle.body.specs.Meaning.{reached, fits, body_of}
use Rattle.body.specs.Extents.{x⁺, y⁺, z⁺, extent, extent_of, widened, extent_reached}
use Rattle.body.specs.Answers.{extent_answer, reached_answer}
use Rattle.body.specs.Theorems.{ExtentIsTight}
use Rattle.body.proofs.Told.{fits_from, fits_parts, body_fit, body_unfit}

-- ---- a coordinate is the product with its axis
pub along_x : (c : Vector) → x⁺ · c ≡ c.x
along_x c = ring (env (c ∷ []) []) (record { x = num (pos 1); y = num (pos 0); z = num (pos 0) } ·ₑ vec 0) (var 0) refl

pub along_y : (c : Vector) → y⁺ · c ≡ c.y
along_y c = ring (env (c ∷ []) []) (record { x = num (pos 0); y = num (pos 1); z = num (pos 0) } ·ₑ vec 0) (var 1) refl

pub along_z : (c : Vector) → z⁺ · c ≡ c.z
along_z c = ring (env (c ∷ []) []) (record { x = num (pos 0); y = num (pos 0); z = num (pos 1) } ·ₑ vec 0) (var 2) refl

-- ---- on one axis a, whose coordinate is p
module _ (a : Vector) (p : Vector → ℤ) (e : (c : Vector) → a · c ≡ p c) (cs : List Vector) (some : 1 ≤ length cs) where
  between_bounds : AllByRecursion (λ c. (least a cs ≤ℤ p c) × (p c ≤ℤ greatest a cs)) cs
  between_bounds =
      let r = products_are_reached a cs some in
      all_from_in (λ c. (least a cs ≤ℤ p c) × (p c ≤ℤ greatest a cs)) cs (λ c h. (
        subst (λ k. least a cs ≤ℤ k) (e c) (all_in (λ d. least a cs ≤ℤ (a · d)) cs r.3 c h),
        subst (λ k. k ≤ℤ greatest a cs) (e c) (all_in (λ d. (a · d) ≤ℤ greatest a cs) cs r.1 c h),
      ))

  least_met : (c : Vector) × c ∈ cs × (p c ≡ least a cs)
  least_met = let r = (products_are_reached a cs some).2 in (r.0, r.1, sym (e r.0) ∙ r.2)

  greatest_met : (c : Vector) × c ∈ cs × (p c ≡ greatest a cs)
  greatest_met = let r = (products_are_reached a cs some).0 in (r.0, r.1, sym (e r.0) ∙ r.2)

  -- all are inside a range exactly when both ends are
  ends_inside : (m : ℕ) → ((c : Vector) → c ∈ cs → inside m (p c) ≡ true) → (inside m (least a cs) ≡ true) × (inside m (greatest a cs) ≡ true)
  ends_inside m h = (
    subst (λ k. inside m k ≡ true) least_met.2 (h least_met.0 least_met.1),
    subst (λ k. inside m k ≡ true) greatest_met.2 (h greatest_met.0 greatest_met.1),
  )

  all_inside : (m : ℕ) → inside m (least a cs) ≡ true → inside m (greatest a cs) ≡ true → (c : Vector) → c ∈ cs → inside m (p c) ≡ true
  all_inside m h k c i =
      let b = all_in (λ c. (least a cs ≤ℤ p c) × (p c ≤ℤ greatest a cs)) cs between_bounds c i in
      between (least a cs) (p c) (greatest a cs) h k b.0 b.1
    where
      between : (x y z : ℤ) → inside m x ≡ true → inside m z ≡ true → x ≤ℤ y → y ≤ℤ z → inside m y ≡ true
      between x y z h k p q =
          let a = and_parts (le_z (neg_ℤ (pos m)) x) (le_z x (pos m)) h in
          let b = and_parts (le_z (neg_ℤ (pos m)) z) (le_z z (pos m)) k in
          and_from (le_z (neg_ℤ (pos m)) y) (le_z y (pos m)) (grind (arith, ints)) (grind (arith, ints))

abbrev at_x : Vector → ℤ
at_x c = c.x

abbrev at_y : Vector → ℤ
at_y c = c.y

abbrev at_z : Vector → ℤ
at_z c = c.z

pub extent_is_tight : ExtentIsTight
extent_is_tight cs some = record {
  inside_x = between_bounds x⁺ at_x along_x cs some;
  inside_y = between_bounds y⁺ at_y along_y cs some;
  inside_z = between_bounds z⁺ at_z along_z cs some;
  least_x = least_met x⁺ at_x along_x cs some;
  least_y = least_met y⁺ at_y along_y cs some;
  least_z = least_met z⁺ at_z along_z cs some;
  greatest_x = greatest_met x⁺ at_x along_x cs some;
  greatest_y = greatest_met y⁺ at_y along_y cs some;
  greatest_z = greatest_met z⁺ at_z along_z cs some;
}

-- ---- one corner more
pub extent_push : (cs : List Vector) (c : Vector) → 1 ≤ length cs → extent_of (cs ++ c ∷ []) ≡ widened (extent_of cs) c
extent_push cs c some i = extent (vector (low x⁺ at_x along_x i) (low y⁺ at_y along_y i) (low z⁺ at_z along_z i)) (vector (high x⁺ at_x along_x i) (high y⁺ at_y along_y i) (high z⁺ at_z along_z i))
  where
    low : (a : Vector) (p : Vector → ℤ) → ((c : Vector) → a · c ≡ p c) → least a (cs ++ c ∷ []) ≡ int_min (least a cs) (p c)
    low a p e = least_push a cs c some ∙ ap (int_min (least a cs)) (e c)

    high : (a : Vector) (p : Vector → ℤ) → ((c : Vector) → a · c ≡ p c) → greatest a (cs ++ c ∷ []) ≡ int_max (greatest a cs) (p c)
    high a p e = greatest_push a cs c some ∙ ap (int_max (greatest a cs)) (e c)

-- ---- corners within reach
pub reached_in : (cs : List Vector) → reached cs ≡ true → (c : Vector) → c ∈ cs → within 10000 c ≡ true
reached_in [] h c i = absurd i
reached_in (d ∷ cs) h c (inl e) = ap (within 10000) e ∙ (and_parts (within 10000 d) (reached cs) h).0
reached_in (d ∷ cs) h c (inr i) = reached_in cs (and_parts (within 10000 d) (reached cs) h).1 c i

pub reached_from : (cs : List Vector) → ((c : Vector) → c ∈ cs → within 10000 c ≡ true) → reached cs ≡ true
reached_from [] h = refl
reached_from (d ∷ cs) h = and_from (within 10000 d) (reached cs) (h d (inl refl)) (reached_from cs (λ c i. h c (inr i)))

module _ (cs : List Vector) (some : 1 ≤ length cs) where
  pub extent_near : reached cs ≡ true → extent_reached (extent_of cs) ≡ true
  extent_near h =
      let r = λ (c : Vector) (i : c ∈ cs). ranges 10000 c (reached_in cs h c i) in
      let x = ends_inside x⁺ at_x along_x cs some 10000 (λ c i. (r c i).at_x) in
      let y = ends_inside y⁺ at_y along_y cs some 10000 (λ c i. (r c i).at_y) in
      let z = ends_inside z⁺ at_z along_z cs some 10000 (λ c i. (r c i).at_z) in
      and_from (within 10000 (extent_of cs).least) (within 10000 (extent_of cs).greatest)
      (within_ranges 10000 (extent_of cs).least (record { at_x = x.0; at_y = y.0; at_z = z.0 }))
      (within_ranges 10000 (extent_of cs).greatest (record { at_x = x.1; at_y = y.1; at_z = z.1 }))

  pub near_extent : extent_reached (extent_of cs) ≡ true → reached cs ≡ true
  near_extent h =
      let p = and_parts (within 10000 (extent_of cs).least) (within 10000 (extent_of cs).greatest) h in
      let l = ranges 10000 (extent_of cs).least p.0 in
      let g = ranges 10000 (extent_of cs).greatest p.1 in
      reached_from cs (λ c i. within_ranges 10000 c (record {
        at_x = all_inside x⁺ at_x along_x cs some 10000 l.at_x g.at_x c i;
        at_y = all_inside y⁺ at_y along_y cs some 10000 l.at_y g.at_y c i;
        at_z = all_inside z⁺ at_z along_z cs some 10000 l.at_z g.at_z c i;
      }))

  -- the extent decides whether corners that are few enough make a body
  pub decided : length cs ≤ 1024 → reached_answer (extent_of cs) ≡ extent_answer (body_of cs)
  decided few = elim (cases_Bool (extent_reached (extent_of cs))) [
    | inl h ↦ cond-true (extent_reached (extent_of cs)) (Ok (extent_of cs)) (Err 13) h ∙ ap extent_answer (sym (body_fit cs (fits_from cs some few (near_extent h))))
    | inr h ↦ cond-false (extent_reached (extent_of cs)) (Ok (extent_of cs)) (Err 13) h ∙ ap extent_answer (sym (body_unfit cs (unfit_by h)))
  ]
    where
      unfit_by : extent_reached (extent_of cs) ≡ false → fits cs ≡ false
      unfit_by h = elim (cases_Bool (fits cs)) [
        | inl k ↦ absurd (both_ways (extent_reached (extent_of cs)) h (extent_near (fits_parts cs k).2))
        | inr k ↦ k
      ]
