-- The sizes that the format allows: 4 to 32 corners, 4 to 60 flats, 6 to 90 ridges.
use Rattle.std.specs.Prelude.{ℕ, Bool, ◌&&◌, nat_le}
use Rattle.rows.specs.declared.counts.Counts.{Counts}

abbrev pub from_to : ℕ → ℕ → ℕ → Bool
from_to a e n = nat_le a n && nat_le n e

abbrev pub sizes : Counts → Bool
sizes n = from_to 4 32 n.corners && from_to 4 60 n.flats && from_to 6 90 n.ridges
