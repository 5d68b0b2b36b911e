use Rattle.convex.proofs.planes_suffice.Goals as goal
use Rattle.convex.proofs.Planes.{planes_suffice}

pub returns : goal.returns
returns c = planes_suffice
