use Rattle.solid.proofs.Tetrahedron.{examples}
use Rattle.solid.proofs.laws.examples_hold.Goals as goal

pub returns : goal.returns
returns c = examples
