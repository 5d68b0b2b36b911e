-- Worked examples, as theorems about the definitions: the tetrahedron T.
use Rattle.std.specs.Prelude.{◌≡◌, true, [], ◌∷◌, map, length, drop, pos, negsuc, Ok, Err}
use Rattle.vector.specs.Vectors.{vector}
use Rattle.rows.specs.Captures.{capture, rows_in}
use Rattle.rows.specs.Tetrahedron.{tetrahedron}
use Rattle.rules.specs.Rules.{lawful, outward}
use Rattle.solid.specs.Reading.{reading}

pub record Examples : Type 0 where
  pub masks : (rows_in (capture tetrahedron)).flats ≡ 7 ∷ 11 ∷ 13 ∷ 14 ∷ []
  pub size : length (capture tetrahedron) ≡ 62
  pub trailer : drop 52 (capture tetrahedron) ≡ 0x04 ∷ 0x04 ∷ 0x06 ∷ 0x01 ∷ 0x34 ∷ 0x00 ∷ 0x1C ∷ 0x00 ∷ 0x0C ∷ 0x00 ∷ []
  pub flats : map (outward tetrahedron.corners) tetrahedron.flats
      ≡ vector (negsuc 15) (pos 0) (pos 0) ∷ vector (pos 0) (negsuc 15) (pos 0) ∷ vector (pos 0) (pos 0) (negsuc 15) ∷ vector (pos 16) (pos 16) (pos 16) ∷ []
  pub kept : lawful tetrahedron ≡ true
  pub accepted : reading (capture tetrahedron) ≡ Ok tetrahedron
  pub short : reading (drop 53 (capture tetrahedron)) ≡ Err 1
  pub cut : reading (drop 1 (capture tetrahedron)) ≡ Err 2
