use Rattle.convex.proofs.mixture_is_proof.Goals as goal
use Rattle.convex.proofs.Mixtures.{mixture_is_proof}

pub returns : goal.returns
returns c = mixture_is_proof
