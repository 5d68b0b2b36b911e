use Rattle.sums.proofs.Corners.{row_there, sum_corner}
use Rattle.sums.proofs.sum.SumBody.corner.Goals as goal

pub returns-in_err-c : goal.returns-in_err-c
returns-in_err-c g c =
    row_there (g.P.Body.meaning c.args.self.now.first) (g.Q.Body.meaning c.args.self.now.second) (g.P.Body.sound c.args.self.now.first) (g.Q.Body.sound c.args.self.now.second)
    c.in_ok-count.count c.in_ok-k.k c.args.i c.in_ok-count.ensures c.if-i-count.false c.in_ok-k.ensures _ c.in_err-c.ensures

pub returns : goal.returns
returns g c =
    sum_corner (g.P.Body.meaning c.args.self.now.first) (g.Q.Body.meaning c.args.self.now.second) (g.P.Body.sound c.args.self.now.first) (g.Q.Body.sound c.args.self.now.second)
    c.in_ok-count.count c.in_ok-k.k c.args.i c.in_ok-count.ensures c.if-i-count.false c.in_ok-k.ensures
    c.in_ok-c.c c.in_ok-d.d c.plus.result c.in_ok-c.ensures c.in_ok-d.ensures c.plus.ensures
