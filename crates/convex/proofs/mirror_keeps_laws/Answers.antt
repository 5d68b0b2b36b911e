use Rattle.convex.proofs.mirror_keeps_laws.Goals as goal
use Rattle.convex.proofs.Mirrors.{mirror_keeps_laws}

pub returns : goal.returns
returns c = mirror_keeps_laws
