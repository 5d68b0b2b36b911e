-- The cross product is at right angles to its factors.
use Rattle.vector.specs.Laws.{Square}
use Rattle.vector.proofs.Identities.{cross_first, cross_second}

pub square : Square
square u v = (cross_first u v, cross_second u v)
