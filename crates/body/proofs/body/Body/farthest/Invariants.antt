use Rattle.body.proofs.Told.{corners_in}
use Rattle.body.proofs.Asking.{Found}
use Rattle.body.proofs.body.Body.farthest.Given as goal

abbrev pub invariant-loop-i : goal.invariant-loop-i
invariant-loop-i g l = Found l.n (corners_in (g.Self.Body.meaning l.self)) l.i l.best l.top
