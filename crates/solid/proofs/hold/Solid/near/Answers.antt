use Rattle.std.proofs.Common.{Option, unwrap_or, ap, ◌∙◌}
use Rattle.vector.specs.declared.Vector.{Vector}
use Rattle.vector.specs.Vectors.{𝟎, within}
use Rattle.rules.proofs.Near.{corner_near}
use Rattle.rules.proofs.Lawful.{reach_from_lawful}
use Rattle.solid.specs.Questions.{solid_rows}
use Rattle.solid.proofs.Told.{corner_or_origin}
use Rattle.solid.proofs.hold.Solid.near.Goals as goal

pub returns : goal.returns
returns c =
    let R = solid_rows c.args.self.now in
    let value = c.unwrap_or.ensures ∙ ap (λ (o : Option Vector). unwrap_or o 𝟎) c.corner.ensures ∙ corner_or_origin R c.args.k in
    record { value = value; reach = ap (within 10000) value ∙ corner_near R.corners c.args.k (reach_from_lawful R c.args.self.now.kept) }
