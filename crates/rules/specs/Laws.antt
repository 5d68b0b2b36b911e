-- Laws above the rules.
use Rattle.std.specs.Prelude.{◌≡◌, ℕ, ◌<◌, true, false, length}
use Rattle.vector.specs.Vectors.{negᵛ}
use Rattle.rows.specs.Captures.{Rows}
use Rattle.rules.specs.Rules.{mask, ridge, is_outward, outward, lawful}

-- the outward direction of a flat is outward, and its opposite is not: there is just one
pub record FacesOut (R : Rows) (k : ℕ) : Type 0 where
  pub out : is_outward R.corners (mask R.flats k) (outward R.corners (mask R.flats k)) ≡ true
  pub only : is_outward R.corners (mask R.flats k) (negᵛ (outward R.corners (mask R.flats k))) ≡ false

abbrev pub FlatsFaceOut : Type 0
FlatsFaceOut = (R : Rows) → lawful R ≡ true → (k : ℕ) → k < length R.flats → FacesOut R k

-- a ridge row names two corners of the solid, the lower first
pub record Joins (R : Rows) (k : ℕ) : Type 0 where
  pub rising : (ridge R.ridges k).low < (ridge R.ridges k).high
  pub within_corners : (ridge R.ridges k).high < length R.corners

abbrev pub RidgesJoinCorners : Type 0
RidgesJoinCorners = (R : Rows) → lawful R ≡ true → (k : ℕ) → k < length R.ridges → Joins R k
