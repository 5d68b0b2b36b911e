use Rattle.layers.proofs.Shifting.{fit_told, corner_shifted}
use Rattle.layers.proofs.shifted.ShiftedBody.corner.Goals as goal

pub returns : goal.returns
returns g c =
    let v = c.args.self.now.by in
    let m = g.B.Body.meaning c.args.self.now.body in
    let s = g.B.Body.sound c.args.self.now.body in
    corner_shifted v m (fit_told v m s c.in_ok-fit.ensures.fit) s c.args.i c.in_ok-corner.field-0 c.plus.result (rw c.in_ok-fit.ensures.body at c.in_ok-corner.ensures) c.plus.ensures
