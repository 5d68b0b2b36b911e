use Rattle.std.proofs.Common.{◌<◌, ◌≤◌, subst}
use Rattle.sums.proofs.Flats.{product_past, no_row, no_column, product_even, product_odd}
use Rattle.sums.proofs.sum.Sum.product.Goals as goal

pub returns-then-t-products : goal.returns-then-t-products
returns-then-t-products g c =
    let m = g.P.Body.meaning c.args.self.now.first in
    let o = g.Q.Body.meaning c.args.self.now.second in
    let s = g.P.Body.sound c.args.self.now.first in
    let u = g.Q.Body.sound c.args.self.now.second in
    let a = g.P.Sided.sides c.args.self.now.first in
    let b = g.Q.Sided.sides c.args.self.now.second in
    product_past m o s u a b c.args.l c.requires c.args.t (subst (λ n. n ≤ c.args.t) c.products.ensures c.if-t-products.true)

pub returns-in_err-u : goal.returns-in_err-u
returns-in_err-u g c =
    let m = g.P.Body.meaning c.args.self.now.first in
    let o = g.Q.Body.meaning c.args.self.now.second in
    let s = g.P.Body.sound c.args.self.now.first in
    let u = g.Q.Body.sound c.args.self.now.second in
    let a = g.P.Sided.sides c.args.self.now.first in
    let b = g.Q.Sided.sides c.args.self.now.second in
    no_row m o s u a b c.args.l c.requires c.args.t (subst (λ n. c.args.t < n) c.products.ensures c.if-t-products.false) _ c.in_err-u.ensures.answer

pub returns-in_err-v : goal.returns-in_err-v
returns-in_err-v g c =
    let m = g.P.Body.meaning c.args.self.now.first in
    let o = g.Q.Body.meaning c.args.self.now.second in
    let s = g.P.Body.sound c.args.self.now.first in
    let u = g.Q.Body.sound c.args.self.now.second in
    let a = g.P.Sided.sides c.args.self.now.first in
    let b = g.Q.Sided.sides c.args.self.now.second in
    no_column m o s u a b c.args.l c.requires c.args.t (subst (λ n. c.args.t < n) c.products.ensures c.if-t-products.false) _ c.in_err-v.ensures.answer

pub returns-then-t-eq0 : goal.returns-then-t-eq0
returns-then-t-eq0 g c =
    let m = g.P.Body.meaning c.args.self.now.first in
    let o = g.Q.Body.meaning c.args.self.now.second in
    let s = g.P.Body.sound c.args.self.now.first in
    let u = g.Q.Body.sound c.args.self.now.second in
    let a = g.P.Sided.sides c.args.self.now.first in
    let b = g.Q.Sided.sides c.args.self.now.second in
    product_even m o s u a b c.args.l c.requires c.args.t (subst (λ n. c.args.t < n) c.products.ensures c.if-t-products.false) (g.P.Sided.bounded c.args.self.now.first) (g.Q.Sided.bounded c.args.self.now.second) c.in_ok-u.u c.in_ok-v.v c.cross-w.result c.in_ok-u.ensures.answer c.in_ok-v.ensures.answer c.cross-w.ensures c.if-t-eq0.true

pub returns-else-t-eq0 : goal.returns-else-t-eq0
returns-else-t-eq0 g c =
    let m = g.P.Body.meaning c.args.self.now.first in
    let o = g.Q.Body.meaning c.args.self.now.second in
    let s = g.P.Body.sound c.args.self.now.first in
    let u = g.Q.Body.sound c.args.self.now.second in
    let a = g.P.Sided.sides c.args.self.now.first in
    let b = g.Q.Sided.sides c.args.self.now.second in
    product_odd m o s u a b c.args.l c.requires c.args.t (subst (λ n. c.args.t < n) c.products.ensures c.if-t-products.false) (g.P.Sided.bounded c.args.self.now.first) (g.Q.Sided.bounded c.args.self.now.second) c.in_ok-u.u c.in_ok-v.v c.cross-w.result c.in_ok-u.ensures.answer c.in_ok-v.ensures.answer c.cross-w.ensures c.if-t-eq0.false c.opposite.result c.opposite.ensures
