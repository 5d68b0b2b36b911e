use Rattle.body.proofs.laws.extent_is_tight.Goals as goal
use Rattle.body.proofs.Extents.{extent_is_tight}

pub returns : goal.returns
returns c = extent_is_tight
