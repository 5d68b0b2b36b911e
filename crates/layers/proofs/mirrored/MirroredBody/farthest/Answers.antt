use Rattle.std.proofs.Common.{◌∙◌, rules, w64, SFits}
use Rattle.layers.proofs.Mirroring.{mirror_farthest}
use Rattle.layers.proofs.mirrored.MirroredBody.farthest.Goals as goal

pub returns : goal.returns
returns g c =
    let n = c.args.n in
    let x : SFits w64 c.args.n.x = search rules in
    let y : SFits w64 c.args.n.y = search rules in
    let z : SFits w64 c.args.n.z = search rules in
    c.farthest.ensures ∙ mirror_farthest (g.B.Body.meaning c.args.self.now.body) (g.B.Body.sound c.args.self.now.body) n c.opposite.result x y z c.opposite.ensures
