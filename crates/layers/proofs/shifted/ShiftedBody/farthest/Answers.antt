use Rattle.std.proofs.Common.{◌∙◌}
use Rattle.layers.proofs.Shifting.{fit_told, shift_farthest}
use Rattle.layers.proofs.shifted.ShiftedBody.farthest.Goals as goal

pub returns : goal.returns
returns g c =
    let v = c.args.self.now.by in
    let m = g.B.Body.meaning c.args.self.now.body in
    let s = g.B.Body.sound c.args.self.now.body in
    rw c.in_ok-fit.ensures.body at c.farthest.ensures ∙ shift_farthest v m (fit_told v m s c.in_ok-fit.ensures.fit) c.args.n
