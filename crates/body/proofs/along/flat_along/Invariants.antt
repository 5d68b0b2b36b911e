use Rattle.body.proofs.Flats.{Later}
use Rattle.body.proofs.along.flat_along.Given as goal

abbrev pub invariant-loop-i : goal.invariant-loop-i
invariant-loop-i g l = Later l.n (g.B.Sided.sides l.body) l.i
