use Rattle.layers.proofs.Mirroring.{corner_mirrored}
use Rattle.layers.proofs.mirrored.MirroredBody.corner.Goals as goal

pub returns : goal.returns
returns g c =
    corner_mirrored (g.B.Body.meaning c.args.self.now.body) (g.B.Body.sound c.args.self.now.body)
    c.args.i c.in_ok-corner.field-0 c.opposite.result c.in_ok-corner.ensures c.opposite.ensures
