-- What a mirrored body answers, from the answers of the body.
use Rattle.std.proofs.Common.{◌≡◌, ℕ, ◌^◌, ◌<◌, ◌≤◌, true, ◌&&◌, List, length, ℤ, pos, negsuc, ◌+ℤ◌, neg_ℤ, nat_abs, Ok, Err, sym, refl, ap, ◌∙◌, inl, inr, arith, w64, SFits}
use Rattle.std.specs.Int.{int_wrap}
use Rattle.std.proofs.lemmas.Int.{ints, int_wrap_fits}
use Rattle.std.proofs.lemmas.Bool.{and_parts, cond-true, cond-false, cases_Bool, cases_lt}
use Rattle.vector.specs.declared.Vector.{Vector}
use Rattle.vector.specs.Vectors.{vector, ◌·◌, negᵛ, inside, within}
use Rattle.vector.specs.Wrapped.{wrappedᵛ}
use Rattle.vector.proofs.Order.{lin}
use Rattle.vector.proofs.Exact.{neg_exact, neg_corner_exact}
use Rattle.vector.proofs.Bounds.{within-neg}
use Rattle.vector.proofs.Identities.{dot-neg, neg-dot}
use Rattle.convex.specs.Sides.{mirrored}
use Rattle.convex.proofs.Extremes.{greatest-mirrored, least-mirrored}
use Rattle.body.specs.declared.extent.Extent.{Extent}
use Rattle.body.specs.Meaning.{Meaning, unfit, corners, Sound}
use Rattle.body.specs.Sides.{Sides, unlisted, listed, Bounded}
use Rattle.body.specs.Extents.{x⁺, y⁺, z⁺, extent, extent_of, extent_reached, farthest}
use Rattle.body.specs.Answers.{corner_answer, extent_answer, farthest_answer, flat_answer}
use Rattle.body.proofs.Numbered.{no_ok, mapped, numbered-map, told_all}
use Rattle.body.proofs.Told.{corners_in, told_extent, told_corner, fits_parts}
use Rattle.body.proofs.Extents.{extent_near}
use Rattle.body.proofs.Farthest.{farthest_map}
use Rattle.layers.specs.Layers.{mirror_meaning, mirror_sides}

-- ---- corners
pub mirror_corner : (m : Meaning) (i : ℕ) → mapped negᵛ (corner_answer m i) ≡ corner_answer (mirror_meaning m) i
mirror_corner unfit i = refl
mirror_corner (corners cs) i = numbered-map negᵛ cs i

pub corner_mirrored : (m : Meaning) → Sound m → (i : ℕ) (c d : Vector) → Ok c ≡ corner_answer m i → d ≡ wrappedᵛ (negᵛ c) → Ok d ≡ corner_answer (mirror_meaning m) i
corner_mirrored m s i c d h e = ap Ok (e ∙ neg_corner_exact c (told_corner m s i c h).3) ∙ ap (mapped negᵛ) h ∙ mirror_corner m i

-- ---- the extent
pub extent_mirrored : (cs : List Vector) → 1 ≤ length cs → extent (negᵛ (extent_of cs).greatest) (negᵛ (extent_of cs).least) ≡ extent_of (mirrored cs)
extent_mirrored cs some i = extent
    (vector (sym (least-mirrored x⁺ cs some) i) (sym (least-mirrored y⁺ cs some) i) (sym (least-mirrored z⁺ cs some) i))
    (vector (sym (greatest-mirrored x⁺ cs some) i) (sym (greatest-mirrored y⁺ cs some) i) (sym (greatest-mirrored z⁺ cs some) i))

pub mirror_extent : (m : Meaning) → Sound m → (e f : Extent) → Ok e ≡ extent_answer m → f ≡ extent (wrappedᵛ (negᵛ e.greatest)) (wrappedᵛ (negᵛ e.least)) → Ok f ≡ extent_answer (mirror_meaning m)
mirror_extent m s e f h q =
    let t = told_extent m s e h in
    let cs = corners_in m in
    let p = and_parts (within 10000 e.least) (within 10000 e.greatest) (ap extent_reached t.1 ∙ extent_near cs t.0.some t.0.near) in
    ap Ok (q ∙ (λ i. extent (neg_corner_exact e.greatest p.1 i) (neg_corner_exact e.least p.0 i)) ∙ ap (λ (x : Extent). extent (negᵛ x.greatest) (negᵛ x.least)) t.1 ∙ extent_mirrored cs t.0.some)
    ∙ ap (λ (x : Meaning). extent_answer (mirror_meaning x)) (sym t.0.is)

-- ---- the farthest corner is that along the opposite direction
-- a 64-bit number and its opposite are in the same ranges: the least number, its own opposite, is beyond them
inside-opposite : (m : ℕ) (a : ℤ) → m < 2 ^ 63 → SFits w64 a → inside m (int_wrap w64 (neg_ℤ a)) ≡ inside m a
unfolding int_wrap
inside-opposite m a small f = elim (cases_lt (nat_abs a) (2 ^ 63)) [
  | inl l ↦
      let g : SFits w64 (neg_ℤ a) = grind (arith, ints) in
      let e : inside m (neg_ℤ a) ≡ inside m a = grind (arith, ints) in
      ap (inside m) (int_wrap_fits w64 (neg_ℤ a) g) ∙ e
  | inr l ↦
      let e : a ≡ negsuc 9223372036854775807 = grind (arith, ints) in
      ap (λ b. inside m (int_wrap w64 (neg_ℤ b))) e ∙ sym (ap (inside m) e)
]

within-opposite : (m : ℕ) (n : Vector) → m < 2 ^ 63 → SFits w64 n.x → SFits w64 n.y → SFits w64 n.z → within m (wrappedᵛ (negᵛ n)) ≡ within m n
within-opposite m n small x y z i = inside-opposite m n.x small x i && inside-opposite m n.y small y i && inside-opposite m n.z small z i

pub mirror_farthest : (m : Meaning) → Sound m → (n o : Vector) → SFits w64 n.x → SFits w64 n.y → SFits w64 n.z → o ≡ wrappedᵛ (negᵛ n) → farthest_answer m o ≡ farthest_answer (mirror_meaning m) n
mirror_farthest unfit s n o x y z e = refl
mirror_farthest (corners cs) s n o x y z e = elim (cases_Bool (within 800000000 n)) [
  | inl h ↦
      ap (farthest_answer (corners cs)) (e ∙ neg_exact n h)
      ∙ cond-true (within 800000000 (negᵛ n)) (Ok (farthest (negᵛ n) cs)) (Err 14) (within-neg 800000000 n h)
      ∙ ap Ok (sym (farthest_map n (negᵛ n) (pos 0) negᵛ turned cs (fits_parts cs s).0))
      ∙ sym (cond-true (within 800000000 n) (Ok (farthest n (mirrored cs))) (Err 14) h)
  | inr h ↦
      cond-false (within 800000000 o) (Ok (farthest o cs)) (Err 14) (ap (within 800000000) e ∙ within-opposite 800000000 n (omega arith) x y z ∙ h)
      ∙ sym (cond-false (within 800000000 n) (Ok (farthest n (mirrored cs))) (Err 14) h)
]
  where
    turned : (c : Vector) → n · negᵛ c ≡ negᵛ n · c +ℤ pos 0
    turned c = omega (arith, lin, dot-neg n c, neg-dot n c)

-- ---- flats are negated
pub mirror_flat : (m : Meaning) (s : Sides) (i : ℕ) → mapped negᵛ (flat_answer m s i) ≡ flat_answer (mirror_meaning m) (mirror_sides s) i
mirror_flat unfit s i = refl
mirror_flat (corners cs) unlisted i = refl
mirror_flat (corners cs) (listed fs rs) i = numbered-map negᵛ fs i

pub flat_mirrored : (m : Meaning) (s : Sides) → Bounded s → (i : ℕ) (f g : Vector) → Ok f ≡ flat_answer m s i → g ≡ wrappedᵛ (negᵛ f) → Ok g ≡ flat_answer (mirror_meaning m) (mirror_sides s) i
flat_mirrored m s b i f g h e = ap Ok (e ∙ neg_exact f (flat_within m s b i f h)) ∙ ap (mapped negᵛ) h ∙ mirror_flat m s i
  where
    flat_within : (m : Meaning) (s : Sides) → Bounded s → (i : ℕ) (f : Vector) → Ok f ≡ flat_answer m s i → within 800000000 f ≡ true
    flat_within unfit s b i f h = no_ok f 13 h
    flat_within (corners cs) unlisted b i f h = no_ok f 16 h
    flat_within (corners cs) (listed fs rs) b i f h = told_all (λ f. within 800000000 f ≡ true) fs b.flats_within i f h
