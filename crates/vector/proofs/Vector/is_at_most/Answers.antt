use Rattle.std.proofs.Common.{arith}
use Rattle.std.proofs.lemmas.Int.{to_z-of_z, ints}
use Rattle.vector.proofs.Vector.is_at_most.Goals as goal

pub returns-then-self-v-2 : goal.returns-then-self-v-2
returns-then-self-v-2 c = grind (arith, to_z-of_z, ints)

pub returns-else-self-v-2 : goal.returns-else-self-v-2
returns-else-self-v-2 c = grind (arith, to_z-of_z, ints)
