use Rattle.layers.proofs.Mirroring.{flat_mirrored}
use Rattle.layers.proofs.mirrored.MirroredSided.flat.Goals as goal

pub returns-clause-answer : goal.returns-clause-answer
returns-clause-answer g c =
    flat_mirrored (g.B.Body.meaning c.args.self.now.body) (g.B.Sided.sides c.args.self.now.body) (g.B.Sided.bounded c.args.self.now.body)
    c.args.i c.in_ok-flat.field-0 c.opposite.result c.in_ok-flat.ensures.answer c.opposite.ensures
