use Rattle.std.proofs.lemmas.List.{set-set, set-get_or}
use Rattle.damage.proofs.changed.Goals as goal

pub returns-clause-back : goal.returns-clause-back
returns-clause-back c = simp (set-set, set-get_or)
