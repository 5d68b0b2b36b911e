use Rattle.std.proofs.Common.{ap, ◌∙◌}
use Rattle.vector.specs.Vectors.{within}
use Rattle.rules.proofs.Exact.{across_exact, across_within}
use Rattle.rules.proofs.directions.Corner.across.Goals as goal

pub returns : goal.returns
returns c = across_exact c.args.self.at c.args.q.at c.args.s.at c.args.self.reached c.args.q.reached c.args.s.reached c.minus.ensures c.minus-2.ensures c.cross.ensures

pub invariant_of-result : goal.invariant_of-result
invariant_of-result c =
    let p = c.args.self in
    let q = c.args.q in
    let s = c.args.s in
    record {
      bounded = ap (within 800000000) (across_exact p.at q.at s.at p.reached q.reached s.reached c.minus.ensures c.minus-2.ensures c.cross.ensures)
          ∙ across_within p.at q.at s.at p.reached q.reached s.reached;
    }
