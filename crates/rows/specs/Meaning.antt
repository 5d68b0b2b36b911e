-- The rows that tables in memory hold.
use Rattle.std.specs.Prelude.{ℕ, Ok, Err, Result}
use Rattle.refusal.specs.declared.Refusal.{Refusal}
use Rattle.refusal.specs.Numbers.{number_of}
use Rattle.rows.specs.declared.tables.Tables.{Tables}
use Rattle.rows.specs.Captures.{Rows}
use Rattle.rows.specs.Table.{held}

abbrev pub rows_of : Tables → Rows
rows_of t = record { corners = held t.corners; flats = held t.flats; ridges = held t.ridges }

abbrev pub meant : Result Tables Refusal → Result Rows ℕ
meant (Ok t) = Ok (rows_of t)
meant (Err e) = Err (number_of e)
