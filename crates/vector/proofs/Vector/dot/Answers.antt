use Rattle.std.proofs.Common.{ℕ, ◌%◌, ◌^◌, ◌<◌, arith, w64, rules}
use Rattle.std.proofs.lemmas.Int.{wraps, wrapping_add-bits}
use Rattle.std.proofs.lemmas.Nat.{mod_below}
use Rattle.vector.proofs.Vector.dot.Goals as goal

-- a remainder by 2^64 fits 64 bits
modulo : (n : ℕ) → n % 2 ^ 64 < 2 ^ 64
modulo n = mod_below n (2 ^ 64) (omega arith)

pub returns : goal.returns
returns c = search (rules, wraps, wrapping_add-bits w64, modulo) depth 12
