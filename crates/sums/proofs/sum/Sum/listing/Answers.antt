use Rattle.std.proofs.Common.{Err, sym, ◌∙◌}
use Rattle.std.proofs.lemmas.Bool.{cond-true, cond-false}
use Rattle.sums.proofs.Corners.{told_by_extent}
use Rattle.sums.proofs.Flats.{listing_is}
use Rattle.sums.proofs.sum.Sum.listing.Goals as goal

pub returns-then-not-is_few-clause-answer : goal.returns-then-not-is_few-clause-answer
returns-then-not-is_few-clause-answer g c =
    let m = g.P.Body.meaning c.args.self.now.first in
    let o = g.Q.Body.meaning c.args.self.now.second in
    let s = g.P.Body.sound c.args.self.now.first in
    let u = g.Q.Body.sound c.args.self.now.second in
    let a = g.P.Sided.sides c.args.self.now.first in
    let b = g.Q.Sided.sides c.args.self.now.second in
    let t = told_by_extent m o s u c.in_ok-extent.field-0 c.in_ok-extent.ensures in
    let e = listing_is m o t a b c.in_ok-first.first c.in_ok-second.second c.in_ok-first.ensures.answer c.in_ok-second.ensures.answer in
    sym (e ∙ cond-false _ _ (Err 16) (sym c.is_few.ensures ∙ c.if-not-is_few.true))

pub returns-clause-answer : goal.returns-clause-answer
returns-clause-answer g c =
    let m = g.P.Body.meaning c.args.self.now.first in
    let o = g.Q.Body.meaning c.args.self.now.second in
    let s = g.P.Body.sound c.args.self.now.first in
    let u = g.Q.Body.sound c.args.self.now.second in
    let a = g.P.Sided.sides c.args.self.now.first in
    let b = g.Q.Sided.sides c.args.self.now.second in
    let t = told_by_extent m o s u c.in_ok-extent.field-0 c.in_ok-extent.ensures in
    let e = listing_is m o t a b c.in_ok-first.first c.in_ok-second.second c.in_ok-first.ensures.answer c.in_ok-second.ensures.answer in
    sym (e ∙ cond-true _ _ (Err 16) (sym c.is_few.ensures ∙ c.if-not-is_few.false))
