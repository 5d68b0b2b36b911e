-- The rows that a table holds: its places past its length mean nothing.
use Rattle.std.specs.Prelude.{ℕ, List, length, take}
use Rattle.vector.specs.declared.Vector.{Vector}
use Rattle.rows.specs.declared.counts.Counts.{Counts}
use Rattle.rows.specs.declared.ridge.RidgeRow.{RidgeRow}
use Rattle.rows.specs.declared.table.Table.{Table}

abbrev pub held : {T : Type 0} {N : ℕ} → Table T N → List T
held t = take t.len t.rows

-- how many rows three tables hold
abbrev pub held_counts : {A B C : ℕ} → Table Vector A → Table ℕ B → Table RidgeRow C → Counts
held_counts cs fs gs = record { corners = length (held cs); flats = length (held fs); ridges = length (held gs) }
