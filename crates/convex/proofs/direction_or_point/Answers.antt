use Rattle.convex.proofs.direction_or_point.Goals as goal
use Rattle.convex.proofs.Alternative.{direction_or_point}

pub returns : goal.returns
returns c = direction_or_point
