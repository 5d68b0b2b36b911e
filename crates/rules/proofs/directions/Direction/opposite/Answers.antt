use Rattle.std.proofs.Common.{ap, ◌∙◌, arith}
use Rattle.vector.specs.Vectors.{negᵛ, within}
use Rattle.vector.proofs.Bounds.{within-neg, wrappedᵛ-within}
use Rattle.rules.proofs.directions.Direction.opposite.Goals as goal

pub returns : goal.returns
returns c =
    let n = c.args.self in
    c.opposite.ensures ∙ wrappedᵛ-within 800000000 (negᵛ n.along) (omega arith) (within-neg 800000000 n.along n.bounded)

pub invariant_of-result : goal.invariant_of-result
invariant_of-result c =
    let n = c.args.self in
    let b = within-neg 800000000 n.along n.bounded in
    record { bounded = ap (within 800000000) (c.opposite.ensures ∙ wrappedᵛ-within 800000000 (negᵛ n.along) (omega arith) b) ∙ b }
