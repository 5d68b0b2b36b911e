use Rattle.convex.proofs.plane_is_proof.Goals as goal
use Rattle.convex.proofs.Sharing.{plane_is_proof}

pub returns : goal.returns
returns c = plane_is_proof
