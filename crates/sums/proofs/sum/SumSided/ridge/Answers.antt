use Rattle.std.proofs.Common.{◌∙◌, refl}
use Rattle.std.proofs.lemmas.Result.{err_from_is_err_and}
use Rattle.body.specs.Answers.{ridge_answer}
use Rattle.sums.specs.Sums.{sum_meaning}
use Rattle.sums.proofs.Flats.{no_listing, ridge_of_first, ridge_of_second}
use Rattle.sums.proofs.sum.SumSided.ridge.Goals as goal

pub returns-in_err-l-clause-answer : goal.returns-in_err-l-clause-answer
returns-in_err-l-clause-answer g c =
    let m = g.P.Body.meaning c.args.self.now.first in
    let o = g.Q.Body.meaning c.args.self.now.second in
    let a = g.P.Sided.sides c.args.self.now.first in
    let b = g.Q.Sided.sides c.args.self.now.second in
    let p = err_from_is_err_and c.from_residual.result c.from_residual.ensures.1 in
    rw (p.1, p.2) (no_listing (λ m s. ridge_answer m s c.args.i) (λ s. refl) (λ cs. refl) (sum_meaning m o) a b _ c.in_err-l.ensures.answer)

pub returns-then-i-l-clause-answer : goal.returns-then-i-l-clause-answer
returns-then-i-l-clause-answer g c =
    let m = g.P.Body.meaning c.args.self.now.first in
    let o = g.Q.Body.meaning c.args.self.now.second in
    let s = g.P.Body.sound c.args.self.now.first in
    let u = g.Q.Body.sound c.args.self.now.second in
    let a = g.P.Sided.sides c.args.self.now.first in
    let b = g.Q.Sided.sides c.args.self.now.second in
    c.ridge.ensures.answer ∙ ridge_of_first m o s u a b c.in_ok-l.l c.in_ok-l.ensures.answer c.args.i c.if-i-l.true

pub returns-clause-answer : goal.returns-clause-answer
returns-clause-answer g c =
    let m = g.P.Body.meaning c.args.self.now.first in
    let o = g.Q.Body.meaning c.args.self.now.second in
    let s = g.P.Body.sound c.args.self.now.first in
    let u = g.Q.Body.sound c.args.self.now.second in
    let a = g.P.Sided.sides c.args.self.now.first in
    let b = g.Q.Sided.sides c.args.self.now.second in
    c.ridge-2.ensures.answer ∙ ridge_of_second m o s u a b c.in_ok-l.l c.in_ok-l.ensures.answer c.args.i c.if-i-l.false
