-- How many corners tables hold at most.
use Rattle.std.proofs.Common.{◌≤◌, length}
use Rattle.rows.specs.declared.tables.Tables.{Tables}
use Rattle.rows.specs.Meaning.{rows_of}
use Rattle.rows.specs.Captures.{counts}
use Rattle.rows.proofs.Layouts.{sized}

pub corners_most : (t : Tables) → length (rows_of t).corners ≤ 32
corners_most t = (sized (counts (rows_of t)) t.allowed).corners_to
