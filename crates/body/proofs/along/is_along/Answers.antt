use Rattle.std.proofs.Common.{sym, ◌∙◌}
use Rattle.body.proofs.Flats.{along_by_dot, no_line}
use Rattle.body.proofs.along.is_along.Goals as goal

pub returns-then-is_zero : goal.returns-then-is_zero
returns-then-is_zero c =
    along_by_dot c.args.n c.args.f c.cross.result c.requires.n c.requires.f c.cross.ensures c.dot.result c.dot.ensures (sym c.is_zero.ensures ∙ c.if-is_zero.true)

pub returns-else-is_zero : goal.returns-else-is_zero
returns-else-is_zero c = c.if-is_zero.false ∙ no_line c.args.n c.args.f c.cross.result c.requires.n c.requires.f c.cross.ensures (sym c.is_zero.ensures ∙ c.if-is_zero.false)
