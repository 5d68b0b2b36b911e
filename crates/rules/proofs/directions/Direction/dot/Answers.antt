use Rattle.std.proofs.Common.{◌∙◌, w64, to_z, of_z}
use Rattle.std.proofs.lemmas.Int.{to_z-of_z}
use Rattle.vector.proofs.Exact.{dot_exact, dot_fits}
use Rattle.rules.proofs.directions.Direction.dot.Goals as goal

pub returns : goal.returns
returns c =
    let n = c.args.self in
    let p = c.args.c in
    (λ i. to_z w64 (of_z w64 ((c.dot.ensures ∙ dot_exact n.along p.at n.bounded p.reached) i)))
    ∙ to_z-of_z w64 _ (dot_fits n.along p.at n.bounded p.reached)
