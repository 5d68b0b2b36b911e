use Rattle.vector.proofs.Square.{square}
use Rattle.vector.proofs.cross_is_square.Goals as goal

pub returns : goal.returns
returns c = square
