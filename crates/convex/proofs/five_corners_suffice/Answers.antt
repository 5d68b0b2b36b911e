use Rattle.convex.proofs.five_corners_suffice.Goals as goal
use Rattle.convex.proofs.FiveCorners.{five_corners_suffice}

pub returns : goal.returns
returns c = five_corners_suffice
