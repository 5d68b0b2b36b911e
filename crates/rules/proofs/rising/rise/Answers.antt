use Rattle.std.proofs.Common.{rules}
use Rattle.std.proofs.lemmas.Fn.{always_returns_same}
use Rattle.std.specs.Ordering.{partial_lt}
use Rattle.rules.proofs.Loops.{each_next-by_number}
use Rattle.rules.proofs.rising.rise.Goals as goal

pub returns : goal.returns
returns g c = let before = partial_lt g.T.PartialOrd.partial_cmp in each_next-by_number before c.args.rows.now _ (c.is_sorted_by.ensures.cases before (always_returns_same _ _ _ (λ a r f' k. search rules)))
