use Rattle.std.proofs.Common.{arith}
use Rattle.rows.proofs.Saving.{row_more}
use Rattle.rows.proofs.encode.put_rows.Goals as goal

pub loop-k-preserved : goal.loop-k-preserved
loop-k-preserved g c = row_more g.R.Row.row_bytes g.R.Row.WIDTH g.met.R.Row.wide c.args.at c.loop-k.k c.args.rows.now _ c.args.buffer.now c.loop-k.invariant c.index-rows-k.is c.put.ensures (cc) c.loop-k-test.true (omega arith)
