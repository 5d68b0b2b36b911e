use Rattle.body.proofs.Asking.{extent_begun, extent_turn}
use Rattle.body.proofs.body.Body.extent.Goals as goal

pub loop-i-init : goal.loop-i-init
loop-i-init g c = extent_begun (g.Self.Body.meaning c.args.self.now) (g.Self.Body.sound c.args.self.now) c.in_ok-first.first c.in_ok-first.ensures

pub loop-i-preserved : goal.loop-i-preserved
loop-i-preserved g c =
    extent_turn (g.Self.Body.meaning c.args.self.now) (g.Self.Body.sound c.args.self.now) c.loop-i.i c.in_ok-corner.field-0 c.in_ok-corner.ensures c.loop-i.extent c.loop-i.invariant c.widened-extent.result c.widened-extent.ensures c.loop-i.auto.i
