use Rattle.convex.proofs.products_are_reached.Goals as goal
use Rattle.convex.proofs.Products.{products_are_reached}

pub returns : goal.returns
returns c = products_are_reached
