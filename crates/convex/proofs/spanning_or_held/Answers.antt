use Rattle.convex.proofs.spanning_or_held.Goals as goal
use Rattle.convex.proofs.Holding.{spanning_or_held}

pub returns : goal.returns
returns c = spanning_or_held
