use Rattle.std.proofs.Common.{◌≡◌, take}
use Rattle.body.specs.Extents.{extent_of}
use Rattle.body.proofs.Told.{corners_in}
use Rattle.body.proofs.body.Body.extent.Given as goal

abbrev pub invariant-loop-i : goal.invariant-loop-i
invariant-loop-i g l = l.extent ≡ extent_of (take l.i (corners_in (g.Self.Body.meaning l.self)))
