use Rattle.std.proofs.Common.{sym, ◌∙◌}
use Rattle.std.proofs.lemmas.Bool.{and_right}
use Rattle.std.proofs.lemmas.List.Folds.{list_any_none}
use Rattle.rules.specs.Masks.{holds, meet_in}
use Rattle.rules.proofs.ridges.meets_some.Goals as goal

pub returns-else-holds : goal.returns-else-holds
returns-else-holds c =
    let e = c.args.ridge in
    let h = c.args.h in
    let no = sym c.holds.ensures ∙ c.if-holds.false in
    c.if-holds.false ∙ sym (list_any_none (λ g. meet_in e g h) _ (λ k d l. and_right _ (holds h e) no))
