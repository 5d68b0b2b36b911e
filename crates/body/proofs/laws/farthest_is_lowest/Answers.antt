use Rattle.body.proofs.laws.farthest_is_lowest.Goals as goal
use Rattle.body.proofs.Farthest.{farthest_is_lowest}

pub returns : goal.returns
returns c = farthest_is_lowest
