-- What a solid tells of its corners, flats and ridges, by number; nothing where there is no such number.
use Rattle.std.specs.Prelude.{ℕ, cond, length, Some, None, Ok, Err, Option, Result, nat_lt}
use Rattle.refusal.specs.declared.Refusal.{Refusal}
use Rattle.refusal.specs.Numbers.{number_of}
use Rattle.vector.specs.declared.Vector.{Vector}
use Rattle.rows.specs.Captures.{Rows}
use Rattle.rows.specs.Meaning.{rows_of}
use Rattle.rules.specs.Rules.{corner, mask, ridge, outward, ridge_vector}
use Rattle.solid.specs.declared.hold.Solid.{Solid}

-- a solid means its rows
abbrev pub solid_rows : Solid → Rows
solid_rows s = rows_of s.tables

abbrev pub solid_meant : Result Solid Refusal → Result Rows ℕ
solid_meant (Ok s) = Ok (solid_rows s)
solid_meant (Err e) = Err (number_of e)

abbrev pub corner_told : Rows → ℕ → Option Vector
corner_told R k = cond (nat_lt k (length R.corners)) (Some (corner R.corners k)) None

abbrev pub flat_told : Rows → ℕ → Option Vector
flat_told R k = cond (nat_lt k (length R.flats)) (Some (outward R.corners (mask R.flats k))) None

abbrev pub ridge_told : Rows → ℕ → Option Vector
ridge_told R k = cond (nat_lt k (length R.ridges)) (Some (ridge_vector R.corners (ridge R.ridges k))) None
