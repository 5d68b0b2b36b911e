use Rattle.convex.proofs.planes_fit.Goals as goal
use Rattle.convex.proofs.Fits.{planes_fit}

pub returns : goal.returns
returns c = planes_fit
