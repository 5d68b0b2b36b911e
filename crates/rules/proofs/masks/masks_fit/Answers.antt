use Rattle.std.proofs.Common.{◌≡◌, ltb, ◌∙◌, rules}
use Rattle.rules.specs.Tests.{each_next}
use Rattle.rules.proofs.Loops.{each_next-same}
use Rattle.rules.proofs.masks.masks_fit.Goals as goal

pub returns-then-masks_hold : goal.returns-then-masks_hold
returns-then-masks_hold c =
    let rising : c.rise.result ≡ each_next ltb c.args.flats.now = c.rise.ensures ∙ each_next-same _ ltb (λ a b. search rules) c.args.flats.now in
    search rules
