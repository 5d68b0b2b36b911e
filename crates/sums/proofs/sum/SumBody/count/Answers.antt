use Rattle.sums.proofs.Corners.{told_by_extent, sum_count}
use Rattle.sums.proofs.sum.SumBody.count.Goals as goal

pub returns : goal.returns
returns g c =
    let m = g.P.Body.meaning c.args.self.now.first in
    let o = g.Q.Body.meaning c.args.self.now.second in
    let s = g.P.Body.sound c.args.self.now.first in
    let u = g.Q.Body.sound c.args.self.now.second in
    sum_count m o s u c.in_ok-n.n c.in_ok-k.k c.in_ok-n.ensures c.in_ok-k.ensures (told_by_extent m o s u c.in_ok-extent.field-0 c.in_ok-extent.ensures)
