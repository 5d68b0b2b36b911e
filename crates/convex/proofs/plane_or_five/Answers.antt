use Rattle.convex.proofs.plane_or_five.Goals as goal
use Rattle.convex.proofs.Complete.{plane_or_five}

pub returns : goal.returns
returns c = plane_or_five
