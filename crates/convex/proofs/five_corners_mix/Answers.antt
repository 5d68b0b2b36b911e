use Rattle.convex.proofs.five_corners_mix.Goals as goal
use Rattle.convex.proofs.Mixing.{five_corners_mix}

pub returns : goal.returns
returns c = five_corners_mix
