-- What the layers over one body mean.
use Rattle.std.specs.Prelude.{cond}
use Rattle.vector.specs.declared.Vector.{Vector}
use Rattle.vector.specs.Vectors.{within}
use Rattle.convex.specs.Sides.{shifted, mirrored}
use Rattle.body.specs.Meaning.{Meaning, unfit, corners, body_of}
use Rattle.body.specs.Sides.{Sides, unlisted, listed}

-- v is added to each corner; flats and ridges stay
abbrev pub shift_meaning : Vector → Meaning → Meaning
shift_meaning v unfit = unfit
shift_meaning v (corners cs) = cond (within 20000 v) (body_of (shifted v cs)) unfit

-- each corner and each flat is negated; ridges stay
abbrev pub mirror_meaning : Meaning → Meaning
mirror_meaning unfit = unfit
mirror_meaning (corners cs) = corners (mirrored cs)

abbrev pub mirror_sides : Sides → Sides
mirror_sides unlisted = unlisted
mirror_sides (listed fs rs) = listed (mirrored fs) rs
