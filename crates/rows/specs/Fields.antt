-- The rows of a capture, one by one: what stands at a place, and the bytes that stand for a row.
use Rattle.std.specs.Prelude.{ℕ, ◌+◌, List, [], ◌∷◌, ◌++◌, slice_index}
use Rattle.vector.specs.declared.Vector.{Vector}
use Rattle.vector.specs.Vectors.{vector}
use Rattle.rows.specs.declared.ridge.RidgeRow.{RidgeRow}
use Rattle.rows.specs.Bytes.{i16_at, two_bytes, in16}

abbrev pub corner_at : List ℕ → ℕ → Vector
corner_at bs i = vector (i16_at bs i) (i16_at bs (i + 2)) (i16_at bs (i + 4))

abbrev pub ridge_at : List ℕ → ℕ → RidgeRow
ridge_at bs i = record { low = slice_index bs i; high = slice_index bs (i + 1) }

abbrev pub corner_bytes : Vector → List ℕ
corner_bytes v = two_bytes (in16 v.x) ++ (two_bytes (in16 v.y) ++ two_bytes (in16 v.z))

abbrev pub ridge_bytes : RidgeRow → List ℕ
ridge_bytes g = g.low ∷ g.high ∷ []
