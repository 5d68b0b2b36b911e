use Rattle.std.proofs.Common.{◌≡◌, ◌∙◌, rules}
use Rattle.vector.specs.Vectors.{precedes}
use Rattle.rules.specs.Tests.{each_next}
use Rattle.rules.proofs.Loops.{each_next-same}
use Rattle.rules.proofs.corners.Corners.rising.Goals as goal

pub returns-clause-known : goal.returns-clause-known
returns-clause-known c =
    let rising : c.rise.result ≡ each_next precedes c.args.rows.now = c.rise.ensures ∙ each_next-same _ precedes (λ a b. search rules) c.args.rows.now in
    search rules
