use Rattle.std.proofs.Common.{ap, Ok, ◌∙◌, refl}
use Rattle.std.proofs.lemmas.Result.{err_from_is_err_and}
use Rattle.body.specs.Answers.{ridge_count_answer}
use Rattle.sums.specs.Sums.{sum_meaning}
use Rattle.sums.proofs.Flats.{no_listing, sum_ridge_count}
use Rattle.sums.proofs.sum.SumSided.ridge_count.Goals as goal

pub returns-in_err-listing-clause-answer : goal.returns-in_err-listing-clause-answer
returns-in_err-listing-clause-answer g c =
    let m = g.P.Body.meaning c.args.self.now.first in
    let o = g.Q.Body.meaning c.args.self.now.second in
    let a = g.P.Sided.sides c.args.self.now.first in
    let b = g.Q.Sided.sides c.args.self.now.second in
    let p = err_from_is_err_and c.from_residual.result c.from_residual.ensures.1 in
    rw (p.1, p.2) (no_listing ridge_count_answer (λ s. refl) (λ cs. refl) (sum_meaning m o) a b _ c.in_err-listing.ensures.answer)

pub returns-clause-answer : goal.returns-clause-answer
returns-clause-answer g c =
    let m = g.P.Body.meaning c.args.self.now.first in
    let o = g.Q.Body.meaning c.args.self.now.second in
    let s = g.P.Body.sound c.args.self.now.first in
    let u = g.Q.Body.sound c.args.self.now.second in
    let a = g.P.Sided.sides c.args.self.now.first in
    let b = g.Q.Sided.sides c.args.self.now.second in
    ap Ok c.ridges.ensures ∙ sum_ridge_count m o s u a b c.in_ok-listing.field-0 c.in_ok-listing.ensures.answer
