use Rattle.std.proofs.Common.{sym, ◌∙◌}
use Rattle.layers.proofs.Shifting.{shift_extent}
use Rattle.layers.proofs.shifted.ShiftedBody.extent.Goals as goal

pub returns : goal.returns
returns g c =
    shift_extent c.args.self.now.by (g.B.Body.meaning c.args.self.now.body) (g.B.Body.sound c.args.self.now.body) (sym c.is_within.ensures ∙ c.if-not-is_within.false)
    c.in_ok-extent.extent c.in_ok-extent.ensures c.shifted.result c.shifted.ensures _ c.within_reach.ensures
