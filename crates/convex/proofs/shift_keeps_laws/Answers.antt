use Rattle.convex.proofs.shift_keeps_laws.Goals as goal
use Rattle.convex.proofs.Shifts.{shift_keeps_laws}

pub returns : goal.returns
returns c = shift_keeps_laws
