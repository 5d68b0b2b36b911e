use Rattle.std.proofs.Common.{ap, ◌∙◌}
use Rattle.rules.specs.Rules.{lawful}
use Rattle.solid.proofs.Tetrahedron.{tetrahedron_lawful}
use Rattle.solid.proofs.hold.Solid.new.Goals as goal

pub invariant_of-result : goal.invariant_of-result
invariant_of-result c = record { kept = ap lawful c.tetrahedron.ensures ∙ tetrahedron_lawful }
