use Rattle.std.proofs.Common.{rules}
use Rattle.std.proofs.lemmas.Result.{err_from_is_err_and}
use Rattle.sums.proofs.Corners.{told_by_extent, direction_refused, number_small, sum_farthest}
use Rattle.sums.proofs.sum.SumBody.farthest.Goals as goal

pub returns-in_err-i : goal.returns-in_err-i
returns-in_err-i g c =
    let m = g.P.Body.meaning c.args.self.now.first in
    let o = g.Q.Body.meaning c.args.self.now.second in
    let s = g.P.Body.sound c.args.self.now.first in
    let u = g.Q.Body.sound c.args.self.now.second in
    let p = err_from_is_err_and c.from_residual-in_err-i.result c.from_residual-in_err-i.ensures.1 in
    rw (p.1, p.2) (direction_refused m o s u (told_by_extent m o s u c.in_ok-extent.field-0 c.in_ok-extent.ensures) c.args.n _ c.in_err-i.ensures)

pub overflow_mul-result : goal.overflow_mul-result
overflow_mul-result g c =
    let m = g.P.Body.meaning c.args.self.now.first in
    let o = g.Q.Body.meaning c.args.self.now.second in
    let s = g.P.Body.sound c.args.self.now.first in
    let u = g.Q.Body.sound c.args.self.now.second in
    let p = number_small m o s u (told_by_extent m o s u c.in_ok-extent.field-0 c.in_ok-extent.ensures) c.args.n c.in_ok-i.i c.in_ok-j.j c.in_ok-k.k c.in_ok-i.ensures c.in_ok-j.ensures c.in_ok-k.ensures in
    search rules

pub overflow_add-result : goal.overflow_add-result
overflow_add-result g c =
    let m = g.P.Body.meaning c.args.self.now.first in
    let o = g.Q.Body.meaning c.args.self.now.second in
    let s = g.P.Body.sound c.args.self.now.first in
    let u = g.Q.Body.sound c.args.self.now.second in
    let p = number_small m o s u (told_by_extent m o s u c.in_ok-extent.field-0 c.in_ok-extent.ensures) c.args.n c.in_ok-i.i c.in_ok-j.j c.in_ok-k.k c.in_ok-i.ensures c.in_ok-j.ensures c.in_ok-k.ensures in
    search rules

pub returns : goal.returns
returns g c =
    let m = g.P.Body.meaning c.args.self.now.first in
    let o = g.Q.Body.meaning c.args.self.now.second in
    let s = g.P.Body.sound c.args.self.now.first in
    let u = g.Q.Body.sound c.args.self.now.second in
    sum_farthest m o s u (told_by_extent m o s u c.in_ok-extent.field-0 c.in_ok-extent.ensures) c.args.n c.in_ok-i.i c.in_ok-j.j c.in_ok-k.k c.in_ok-i.ensures c.in_ok-j.ensures c.in_ok-k.ensures
