-- The rows that a capture's bytes say, and the bytes that rows are saved as.
use Rattle.std.specs.Prelude.{ℕ, ◌+◌, ◌-◌, ◌*◌, cond, not, List, ◌++◌, map, length, drop, Ok, Err, Result, nat_lt}
use Rattle.std.specs.List.{range_with_len, flat_map}
use Rattle.vector.specs.declared.Vector.{Vector}
use Rattle.rows.specs.declared.counts.Counts.{Counts}
use Rattle.rows.specs.declared.ridge.RidgeRow.{RidgeRow}
use Rattle.rows.specs.declared.trailer.Trailer.{Trailer}
use Rattle.rows.specs.Bytes.{u32_at, four_bytes}
use Rattle.rows.specs.Fields.{corner_at, ridge_at, corner_bytes, ridge_bytes}
use Rattle.rows.specs.Sizes.{from_to}
use Rattle.rows.specs.Trailers.{trailer_at, layout, trailer_bytes}

-- corner rows, flat rows as masks (bit k says that corner k lies in the flat), ridge rows
pub record Rows : Type 0 where
  pub corners : List Vector
  pub flats : List ℕ
  pub ridges : List RidgeRow

abbrev pub counts : Rows → Counts
counts R = record { corners = length R.corners; flats = length R.flats; ridges = length R.ridges }

-- f 0, f 1, and so on up to f (n - 1)
abbrev pub each : {X : Type 0} → ℕ → (ℕ → X) → List X
each n f = map f (range_with_len 0 n)

-- the trailer is the last ten bytes
abbrev pub trailer_in : List ℕ → Trailer
trailer_in bs = trailer_at bs (length bs - 10)

abbrev pub rows_by : Counts → List ℕ → Rows
rows_by n bs = record {
  corners = each n.corners (λ k. corner_at bs (6 * k));
  flats = each n.flats (λ k. u32_at bs (6 * n.corners + 4 * k));
  ridges = each n.ridges (λ k. ridge_at bs (6 * n.corners + 4 * n.flats + 2 * k));
}

abbrev pub rows_in : List ℕ → Rows
rows_in bs = rows_by (trailer_in bs).counts bs

-- the rows of a capture whose length and trailer are as they should be
abbrev pub decoding : List ℕ → Result Rows ℕ
decoding bs =
    cond (not (from_to 10 622 (length bs))) (Err 1)
    (cond (not (layout (length bs) (trailer_in bs))) (Err 2)
    (Ok (rows_in bs)))

-- the capture of rows
abbrev pub capture : Rows → List ℕ
capture R = flat_map corner_bytes R.corners ++ (flat_map four_bytes R.flats ++ (flat_map ridge_bytes R.ridges ++ trailer_bytes (counts R)))

-- saving: how many bytes are written, or refusal 9 where the buffer is too short
abbrev pub saving : Rows → List ℕ → Result ℕ ℕ
saving R buffer = cond (nat_lt (length buffer) (length (capture R))) (Err 9) (Ok (length (capture R)))

-- the buffer after it: the capture from its start on, and the bytes past it as they were
abbrev pub saved : Rows → List ℕ → List ℕ
saved R buffer = cond (nat_lt (length buffer) (length (capture R))) buffer (capture R ++ drop (length (capture R)) buffer)
