use Rattle.sums.proofs.Corners.{too_many, sum_extent}
use Rattle.sums.proofs.sum.SumBody.extent.Goals as goal

pub returns-then-n-k-gt-MOST_CORNERS : goal.returns-then-n-k-gt-MOST_CORNERS
returns-then-n-k-gt-MOST_CORNERS g c =
    too_many (g.P.Body.meaning c.args.self.now.first) (g.Q.Body.meaning c.args.self.now.second) (g.P.Body.sound c.args.self.now.first) (g.Q.Body.sound c.args.self.now.second) c.in_ok-n.n c.in_ok-k.k c.in_ok-n.ensures c.in_ok-k.ensures c.if-n-k-gt-MOST_CORNERS.true

pub returns : goal.returns
returns g c =
    sum_extent (g.P.Body.meaning c.args.self.now.first) (g.Q.Body.meaning c.args.self.now.second) (g.P.Body.sound c.args.self.now.first) (g.Q.Body.sound c.args.self.now.second) c.in_ok-n.n c.in_ok-k.k c.in_ok-n.ensures c.in_ok-k.ensures
    c.in_ok-first.first c.in_ok-second.second c.in_ok-first.ensures c.in_ok-second.ensures c.if-n-k-gt-MOST_CORNERS.false
    c.plus.result c.plus.ensures _ c.within_reach.ensures
