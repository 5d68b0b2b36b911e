use Rattle.std.proofs.Common.{◌≡◌}
use Rattle.damage.proofs.tried.Given as goal

abbrev pub invariant-loop-at : goal.invariant-loop-at
invariant-loop-at l = l.bytes ≡ l.initial.bytes
