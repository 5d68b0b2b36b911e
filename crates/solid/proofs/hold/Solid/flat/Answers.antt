use Rattle.std.proofs.Common.{◌∙◌}
use Rattle.solid.specs.Questions.{solid_rows}
use Rattle.solid.proofs.Told.{flat_is_told}
use Rattle.solid.proofs.hold.Solid.flat.Goals as goal

pub returns : goal.returns
returns c = c.outward.ensures ∙ flat_is_told (solid_rows c.args.self.now) c.args.k c.args.self.now.kept
