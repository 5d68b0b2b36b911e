use Rattle.std.proofs.Common.{◌≡◌, ◌∙◌, rules}
use Rattle.rules.specs.Tests.{each_next}
use Rattle.rules.specs.Rules.{ridge_before, ridges_fit}
use Rattle.rules.proofs.Loops.{each_next-same}
use Rattle.rules.proofs.ridges.ridges_fit.Goals as goal

pub returns-then-ridges_complete : goal.returns-then-ridges_complete
unfolding ridges_fit
returns-then-ridges_complete c =
    let rising : c.rise.result ≡ each_next ridge_before c.args.ridges.now = c.rise.ensures ∙ each_next-same _ ridge_before (λ a b. search rules) c.args.ridges.now in
    search rules

pub returns-else-ridges_complete : goal.returns-else-ridges_complete
unfolding ridges_fit
returns-else-ridges_complete c =
    let rising : c.rise.result ≡ each_next ridge_before c.args.ridges.now = c.rise.ensures ∙ each_next-same _ ridge_before (λ a b. search rules) c.args.ridges.now in
    search rules
