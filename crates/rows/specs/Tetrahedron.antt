-- The tetrahedron T, which a new place for a solid holds.
use Rattle.std.specs.Prelude.{[], ◌∷◌, pos}
use Rattle.vector.specs.Vectors.{vector}
use Rattle.rows.specs.Captures.{Rows}

abbrev pub tetrahedron : Rows
tetrahedron = record {
  corners = vector (pos 0) (pos 0) (pos 0) ∷ vector (pos 0) (pos 0) (pos 4) ∷ vector (pos 0) (pos 4) (pos 0) ∷ vector (pos 4) (pos 0) (pos 0) ∷ [];
  flats = 7 ∷ 11 ∷ 13 ∷ 14 ∷ [];
  ridges = record { low = 0; high = 1 } ∷ record { low = 0; high = 2 } ∷ record { low = 0; high = 3 } ∷ record { low = 1; high = 2 } ∷ record { low = 1; high = 3 } ∷ record { low = 2; high = 3 } ∷ [];
}
