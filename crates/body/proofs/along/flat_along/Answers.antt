use Rattle.std.proofs.Common.{◌≤◌, sym, ◌∙◌, subst, arith}
use Rattle.body.specs.Along.{Says}
use Rattle.body.proofs.Flats.{flat_near, flat_found, all_passed, answer_says}
use Rattle.body.proofs.along.flat_along.Goals as goal

pub is_along-requires-clause-f : goal.is_along-requires-clause-f
is_along-requires-clause-f g c =
    let m = g.B.Body.meaning c.args.body.now in
    let s = g.B.Sided.sides c.args.body.now in
    let near = sym c.is_within.ensures ∙ c.if-not-is_within.false in
    flat_near m s c.args.n c.in_ok-count.count c.in_ok-count.ensures.answer near c.loop-i.i c.loop-i-test.true c.loop-i.invariant (g.B.Sided.bounded c.args.body.now) c.in_ok-flat.field-0 c.in_ok-flat.ensures.answer

pub returns-then-is_along : goal.returns-then-is_along
returns-then-is_along g c =
    let m = g.B.Body.meaning c.args.body.now in
    let s = g.B.Sided.sides c.args.body.now in
    let near = sym c.is_within.ensures ∙ c.if-not-is_within.false in
    let e = flat_found m s c.args.n c.in_ok-count.count c.in_ok-count.ensures.answer near c.loop-i.i c.loop-i-test.true c.loop-i.invariant c.in_ok-flat.field-0 c.in_ok-flat.ensures.answer (sym c.is_along.ensures ∙ c.if-is_along.true) in
    record { answer = e; says = subst (Says m s c.args.n) (sym e) (answer_says m s c.args.n (g.met.B.Sided.lawful c.args.body.now)) }

pub returns : goal.returns
returns g c =
    let m = g.B.Body.meaning c.args.body.now in
    let s = g.B.Sided.sides c.args.body.now in
    let near = sym c.is_within.ensures ∙ c.if-not-is_within.false in
    let end : c.in_ok-count.count ≤ c.loop-i.i = omega (arith, c.loop-i-test.false) in
    let e = all_passed m s c.args.n c.in_ok-count.count c.in_ok-count.ensures.answer near c.loop-i.i end c.loop-i.invariant in
    record { answer = e; says = subst (Says m s c.args.n) (sym e) (answer_says m s c.args.n (g.met.B.Sided.lawful c.args.body.now)) }
