-- Laws above the products.
use Rattle.std.specs.Prelude.{◌≡◌, pos}
use Rattle.vector.specs.declared.Vector.{Vector}
use Rattle.vector.specs.Vectors.{◌·◌, ◌⨯◌}

-- the cross product is at right angles to both of its factors
abbrev pub Square : Type 0
Square = (u v : Vector) → ((u ⨯ v) · u ≡ pos 0) × ((u ⨯ v) · v ≡ pos 0)
