use Rattle.convex.proofs.point_is_mixture.Goals as goal
use Rattle.convex.proofs.Mixtures.{point_is_mixture}

pub returns : goal.returns
returns c = point_is_mixture
