use Rattle.solid.proofs.Exact.{exact}
use Rattle.solid.proofs.laws.reading_is_exact.Goals as goal

pub returns : goal.returns
returns c = exact
