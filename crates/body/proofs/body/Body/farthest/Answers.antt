use Rattle.std.proofs.Common.{◌≤◌, sym, ◌∙◌, arith}
use Rattle.body.proofs.Told.{no_corner_missing, told_count}
use Rattle.body.proofs.Asking.{farthest_taken, farthest_kept, farthest_ends}
use Rattle.body.proofs.body.Body.farthest.Goals as goal
use Rattle.body.proofs.body.Body.farthest.Goals.{then-dot, else-dot}

pub returns-in_err-c : goal.returns-in_err-c
returns-in_err-c g c =
    no_corner_missing (g.Self.Body.meaning c.args.self.now) c.in_ok-count.count c.loop-i.i _ c.in_ok-count.ensures c.loop-i-test.true c.in_err-c.ensures

pub loop-i-preserved : goal.loop-i-preserved
loop-i-preserved g c =
    let m = g.Self.Body.meaning c.args.self.now in
    let s = g.Self.Body.sound c.args.self.now in
    let near = sym c.is_within.ensures ∙ c.if-not-is_within.false in
    elim c.if-dot.branch [
      | then-dot w ↦ simp (w.best-is, w.top-is)
          (farthest_taken m s c.args.n near c.loop-i.i c.loop-i.best c.in_ok-c.c c.loop-i.top c.in_ok-c.ensures c.loop-i.invariant c.dot.result c.dot-in-loop-i.result c.dot.ensures c.dot-in-loop-i.ensures w.if-dot.true)
      | else-dot w ↦ simp (w.best-is, w.top-is)
          (farthest_kept m s c.args.n near c.loop-i.i c.loop-i.best c.in_ok-c.c c.loop-i.top c.in_ok-c.ensures c.loop-i.invariant c.dot.result c.dot-in-loop-i.result c.dot.ensures c.dot-in-loop-i.ensures w.if-dot.false)
    ]

pub returns : goal.returns
returns g c =
    let m = g.Self.Body.meaning c.args.self.now in
    let s = g.Self.Body.sound c.args.self.now in
    let t = told_count m s c.in_ok-count.count c.in_ok-count.ensures in
    let end : c.loop-i.i ≤ c.in_ok-count.count = c.loop-i.auto.i-end (omega (arith, t.0.some, t.1)) in
    farthest_ends m s c.args.n (sym c.is_within.ensures ∙ c.if-not-is_within.false) c.in_ok-count.count c.in_ok-count.ensures c.loop-i.i c.loop-i.best c.loop-i-test.false end c.loop-i.invariant.0
