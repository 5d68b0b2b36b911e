-- The trailer of a capture, and the layout that it has to fit.
use Rattle.std.specs.Prelude.{ℕ, ◌+◌, ◌*◌, Bool, ◌&&◌, List, ◌∷◌, ◌++◌, ◌==◌, slice_index}
use Rattle.rows.specs.declared.counts.Counts.{Counts}
use Rattle.rows.specs.declared.trailer.Trailer.{Trailer}
use Rattle.rows.specs.Bytes.{u16_at, two_bytes}
use Rattle.rows.specs.Sizes.{sizes}

abbrev pub trailer_at : List ℕ → ℕ → Trailer
trailer_at bs i = record {
  counts = record { corners = slice_index bs i; flats = slice_index bs (i + 1); ridges = slice_index bs (i + 2) };
  edition = slice_index bs (i + 3);
  back = record { corners = u16_at bs (i + 4); flats = u16_at bs (i + 6); ridges = u16_at bs (i + 8) };
}

-- how many bytes the rows and the trailer take
abbrev pub size : Counts → ℕ
size n = 6 * n.corners + 4 * n.flats + 2 * n.ridges + 10

-- where the first row of each table lies
abbrev pub starts : Counts → Counts
starts n = record { corners = 0; flats = 6 * n.corners; ridges = 6 * n.corners + 4 * n.flats }

-- how far back from the trailer the first row of each table lies
abbrev pub distances : Counts → Counts
distances n = record {
  corners = 6 * n.corners + 4 * n.flats + 2 * n.ridges;
  flats = 4 * n.flats + 2 * n.ridges;
  ridges = 2 * n.ridges;
}

-- the counts are in their ranges, the edition is 1, the length is that of the rows and the trailer,
-- and the distances lead from the trailer back to the first row of each table
abbrev pub layout : ℕ → Trailer → Bool
layout len t =
    sizes t.counts
    && t.edition == 1
    && len == size t.counts
    && t.back.corners == (distances t.counts).corners
    && t.back.flats == (distances t.counts).flats
    && t.back.ridges == (distances t.counts).ridges

abbrev pub trailer_bytes : Counts → List ℕ
trailer_bytes n =
    n.corners ∷ n.flats ∷ n.ridges ∷ 1 ∷
    two_bytes (distances n).corners ++ (two_bytes (distances n).flats ++ two_bytes (distances n).ridges)
