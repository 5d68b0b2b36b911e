use Rattle.std.proofs.Common.{ap, ◌∙◌}
use Rattle.vector.specs.Vectors.{◌-ᵛ◌}
use Rattle.rules.specs.Rules.{corner}
use Rattle.vector.proofs.Exact.{minus_exact}
use Rattle.solid.specs.Questions.{solid_rows}
use Rattle.solid.proofs.hold.Solid.along.Goals as goal

pub returns : goal.returns
returns c =
    let cs = (solid_rows c.args.self.now).corners in
    let high = c.near.ensures.value ∙ ap (corner cs) c.from.ensures in
    let low = c.near-2.ensures.value ∙ ap (corner cs) c.from-2.ensures in
    c.minus.ensures ∙ minus_exact c.near.result c.near-2.result c.near.ensures.reach c.near-2.ensures.reach ∙ (λ i. high i -ᵛ low i)
