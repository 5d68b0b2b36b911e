-- The tetrahedron T keeps every rule, and the worked examples, by computing.
use Rattle.std.proofs.Common.{◌≡◌, true, refl}
use lib.Count.{ones, ones_in}
use Rattle.rows.specs.Tetrahedron.{tetrahedron}
use Rattle.rules.specs.Masks.{lies, lowest}
use Rattle.rules.specs.Rules.{ridges_fit, lawful}
use Rattle.solid.specs.Examples.{Examples}

pub tetrahedron_lawful : lawful tetrahedron ≡ true
unfolding lawful ridges_fit lies lowest ones ones_in
tetrahedron_lawful = refl

pub examples : Examples
unfolding ridges_fit lies lowest ones ones_in
examples = record {
  masks = refl;
  size = refl;
  trailer = refl;
  flats = refl;
  kept = tetrahedron_lawful;
  accepted = refl;
  short = refl;
  cut = refl;
}
