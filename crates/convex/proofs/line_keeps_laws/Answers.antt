use Rattle.convex.proofs.line_keeps_laws.Goals as goal
use Rattle.convex.proofs.Entries.{line_keeps_laws}

pub returns : goal.returns
returns c = line_keeps_laws
