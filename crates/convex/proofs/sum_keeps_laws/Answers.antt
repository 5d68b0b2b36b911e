use Rattle.convex.proofs.sum_keeps_laws.Goals as goal
use Rattle.convex.proofs.Sums.{sum_keeps_laws}

pub returns : goal.returns
returns c = sum_keeps_laws
