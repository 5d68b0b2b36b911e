use Rattle.layers.proofs.Mirroring.{mirror_extent}
use Rattle.layers.proofs.mirrored.MirroredBody.extent.Goals as goal

pub returns : goal.returns
returns g c =
    mirror_extent (g.B.Body.meaning c.args.self.now.body) (g.B.Body.sound c.args.self.now.body)
    c.in_ok-extent.field-0 c.mirrored.result c.in_ok-extent.ensures c.mirrored.ensures
