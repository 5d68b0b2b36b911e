use Rattle.std.proofs.Common.{◌-◌, ◌≤◌, length}
use Rattle.capture.proofs.first_bytes.Given as goal

abbrev pub invariant-loop-len : goal.invariant-loop-len
invariant-loop-len l = l.len ≤ length l.initial.place

abbrev pub decreases-loop-len : goal.decreases-loop-len
decreases-loop-len l = length l.initial.place - l.len
