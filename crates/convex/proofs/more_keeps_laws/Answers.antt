use Rattle.convex.proofs.more_keeps_laws.Goals as goal
use Rattle.convex.proofs.Entries.{more_keeps_laws}

pub returns : goal.returns
returns c = more_keeps_laws
