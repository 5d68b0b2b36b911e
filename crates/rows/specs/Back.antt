-- From rows to a capture and back.
use Rattle.std.specs.Prelude.{◌≡◌, ◌^◌, ◌<◌, true, Ok}
use Rattle.std.specs.List.{AllByRecursion}
use Rattle.vector.specs.Vectors.{within}
use Rattle.rows.specs.Sizes.{sizes}
use Rattle.rows.specs.Captures.{Rows, counts, capture, decoding}

-- rows that the format can hold: their counts are allowed, their coordinates fit 16 bits and their masks 32
pub record Storable (R : Rows) : Type 0 where
  pub allowed : sizes (counts R) ≡ true
  pub corners_fit : AllByRecursion (λ v. within 32767 v ≡ true) R.corners
  pub masks_fit : AllByRecursion (λ m. m < 2 ^ 32) R.flats

-- a capture says the rows that it was saved from
abbrev pub RowsComeBack : Type 0
RowsComeBack = (R : Rows) → Storable R → decoding (capture R) ≡ Ok R
