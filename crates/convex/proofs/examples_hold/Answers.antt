use Rattle.convex.proofs.examples_hold.Goals as goal
use Rattle.convex.proofs.Instances.{examples}

pub returns : goal.returns
returns c = examples
