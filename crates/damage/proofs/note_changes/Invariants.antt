use Rattle.std.proofs.Common.{◌≡◌}
use Rattle.damage.proofs.note_changes.Given as goal

abbrev pub invariant-loop-change : goal.invariant-loop-change
invariant-loop-change l = l.bytes ≡ l.initial.bytes
