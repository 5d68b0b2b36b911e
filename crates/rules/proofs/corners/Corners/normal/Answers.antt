use Rattle.std.proofs.Common.{◌+◌, arith}
use Rattle.rules.proofs.Bits.{next_most}
use Rattle.rules.proofs.corners.Corners.normal.Goals as goal

pub overflow_add-p : goal.overflow_add-p
overflow_add-p c = omega (arith, c.next-p.ensures, next_most 0 c.args.mask)

pub overflow_add-q : goal.overflow_add-q
overflow_add-q c = omega (arith, c.next-p.ensures, next_most 0 c.args.mask, c.next-q.ensures, next_most (c.next-p.result + 1) c.args.mask)
