use Rattle.std.proofs.Common.{◌≡◌, take}
use Rattle.std.specs.List.{flat_map}
use Rattle.rows.specs.Bytes.{written}
use Rattle.rows.proofs.encode.put_rows.Given as goal

abbrev pub invariant-loop-k : goal.invariant-loop-k
invariant-loop-k g l = l.buffer ≡ written l.at (flat_map g.R.Row.row_bytes (take l.k l.rows)) l.initial.buffer
