-- The layers over a body are bodies: their corners fit, and their flats and ridges are few, within range and lawful.
use Rattle.std.specs.Prelude.{◌≡◌, ℕ, ◌≤◌, true, List, [], ◌∷◌, refl}
use Rattle.std.proofs.Common.{sym, subst}
use Rattle.std.specs.List.{AllByRecursion}
use Rattle.std.proofs.lemmas.List.{length-map}
use Rattle.std.proofs.lemmas.Bool.{and_parts, and_from, cond_both}
use Rattle.vector.specs.declared.Vector.{Vector}
use Rattle.vector.specs.Vectors.{negᵛ, within}
use Rattle.vector.proofs.Bounds.{within-neg}
use Rattle.convex.specs.Sides.{shifted, mirrored}
use Rattle.convex.proofs.Mirrors.{mirror_keeps_laws}
use Rattle.convex.proofs.Shifts.{shift_keeps_laws}
use Rattle.body.specs.Meaning.{Meaning, unfit, corners, reached, fits, body_of, Sound}
use Rattle.body.specs.Sides.{Sides, unlisted, listed, Bounded, Laws}
use Rattle.body.specs.Sound.{body_of_sound}
use Rattle.body.proofs.Told.{fits_parts, fits_from}
use Rattle.layers.specs.Layers.{shift_meaning, mirror_meaning, mirror_sides}

pub shift_sound : (v : Vector) (m : Meaning) → Sound (shift_meaning v m)
shift_sound v unfit = tt
shift_sound v (corners cs) = cond_both (within 20000 v) (body_of (shifted v cs)) unfit Sound (λ e. body_of_sound (shifted v cs)) (λ e. tt)

reached_mirrored : (cs : List Vector) → reached cs ≡ true → reached (mirrored cs) ≡ true
reached_mirrored [] h = refl
reached_mirrored (c ∷ cs) h =
    let p = and_parts (within 10000 c) (reached cs) h in
    and_from (within 10000 (negᵛ c)) (reached (mirrored cs)) (within-neg 10000 c p.0) (reached_mirrored cs p.1)

pub mirror_sound : (m : Meaning) → Sound m → Sound (mirror_meaning m)
mirror_sound unfit s = tt
mirror_sound (corners cs) s =
    let p = fits_parts cs s in
    let e = sym (length-map cs negᵛ) in
    fits_from (mirrored cs) (subst (λ (n : ℕ). 1 ≤ n) e p.0) (subst (λ (n : ℕ). n ≤ 1024) e p.1) (reached_mirrored cs p.2)

all_mirrored : (fs : List Vector) → AllByRecursion (λ f. within 800000000 f ≡ true) fs → AllByRecursion (λ f. within 800000000 f ≡ true) (mirrored fs)
all_mirrored [] a = tt
all_mirrored (f ∷ fs) a = (within-neg 800000000 f a.0, all_mirrored fs a.1)

pub mirror_bounded : (s : Sides) → Bounded s → Bounded (mirror_sides s)
mirror_bounded unlisted b = tt
mirror_bounded (listed fs rs) b = record {
  flats = subst (λ (n : ℕ). n ≤ 20000) (sym (length-map fs negᵛ)) b.flats;
  ridges = b.ridges;
  flats_within = all_mirrored fs b.flats_within;
  ridges_within = b.ridges_within;
}

pub shift_lawful : (v : Vector) (m : Meaning) (s : Sides) → Laws m s → Laws (shift_meaning v m) s
shift_lawful v unfit s h = tt
shift_lawful v (corners cs) s h =
    cond_both (within 20000 v) (body_of (shifted v cs)) unfit (λ m. Laws m s)
    (λ e. cond_both (fits (shifted v cs)) (corners (shifted v cs)) unfit (λ m. Laws m s) (λ e. kept s h) (λ e. tt))
    (λ e. tt)
  where
    kept : (s : Sides) → Laws (corners cs) s → Laws (corners (shifted v cs)) s
    kept unlisted h = tt
    kept (listed fs rs) h = shift_keeps_laws v cs fs rs h

pub mirror_lawful : (m : Meaning) (s : Sides) → Laws m s → Laws (mirror_meaning m) (mirror_sides s)
mirror_lawful unfit s h = tt
mirror_lawful (corners cs) unlisted h = tt
mirror_lawful (corners cs) (listed fs rs) h = mirror_keeps_laws cs fs rs h
