use Rattle.std.proofs.Common.{◌≡◌, ◌+◌, ◌*◌, take}
use Rattle.rows.specs.Captures.{each}
use Rattle.rows.proofs.table.Table.read.Given as goal

abbrev pub invariant-loop-k : goal.invariant-loop-k
invariant-loop-k g l = take l.k l.row-items ≡ each l.k (λ k. g.T.Row.row_at l.bytes (l.at + g.T.Row.WIDTH * k))
