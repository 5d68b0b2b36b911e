use Rattle.convex.proofs.planes_touch.Goals as goal
use Rattle.convex.proofs.Planes.{planes_touch}

pub returns : goal.returns
returns c = planes_touch
