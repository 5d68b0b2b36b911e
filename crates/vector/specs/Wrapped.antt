-- Components modulo 2^64, as 64-bit arithmetic leaves them: a number that fits 64 bits stays as it is.
use Rattle.std.specs.Int.{int_wrap, w64}
use Rattle.vector.specs.declared.Vector.{Vector}
use Rattle.vector.specs.Vectors.{vector}

abbrev pub wrappedᵛ : Vector → Vector
wrappedᵛ a = vector (int_wrap w64 a.x) (int_wrap w64 a.y) (int_wrap w64 a.z)
