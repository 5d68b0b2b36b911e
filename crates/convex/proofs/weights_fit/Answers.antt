use Rattle.convex.proofs.weights_fit.Goals as goal
use Rattle.convex.proofs.Fits.{weights_fit}

pub returns : goal.returns
returns c = weights_fit
