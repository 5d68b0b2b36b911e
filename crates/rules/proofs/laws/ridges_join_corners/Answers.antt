use Rattle.rules.proofs.Joined.{ridges_join_corners}
use Rattle.rules.proofs.laws.ridges_join_corners.Goals as goal

pub returns : goal.returns
returns c = ridges_join_corners
