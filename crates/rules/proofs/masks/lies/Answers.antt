use Rattle.std.proofs.Common.{sym, ◌∙◌, arith}
use Rattle.std.proofs.lemmas.Bool.{le-ltb}
use Rattle.rules.proofs.Bits.{bit, bit_past}
use Rattle.rules.proofs.masks.lies.Goals as goal

pub returns-then-k-lt32 : goal.returns-then-k-lt32
returns-then-k-lt32 c = bit _ _

pub returns-else-k-lt32 : goal.returns-else-k-lt32
returns-else-k-lt32 c = le-ltb _ _ c.if-k-lt32.false ∙ sym (bit_past _ _ (omega arith) c.if-k-lt32.false)
