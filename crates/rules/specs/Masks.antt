-- Masks: bit k of a flat's mask says that corner k lies in it.
use Rattle.std.specs.Prelude.{ℕ, ◌-◌, ◌/◌, ◌%◌, ◌^◌, Bool, ◌&&◌, ◌==◌, bit_and, count_ones, nat_lt, max, Option, find, unwrap_or}
use Rattle.std.specs.List.{range_with_len}
use Rattle.rows.specs.declared.ridge.RidgeRow.{RidgeRow}

unfoldable pub lies : ℕ → ℕ → Bool
lies k m = m / 2 ^ k % 2 == 1

-- the lowest corner of m that is not below a
unfoldable pub lowest : ℕ → ℕ → Option ℕ
lowest a m = find (λ k. lies k m) (range_with_len a (32 - a))

-- that corner, or the first number that is no corner's and not below a
abbrev pub next : ℕ → ℕ → ℕ
next a m = unwrap_or (lowest a m) (max a 32)

-- both corners of the ridge lie in the flat
abbrev pub holds : ℕ → RidgeRow → Bool
holds m e = lies e.low m && lies e.high m

-- the two masks share exactly two ones
abbrev pub share_two : ℕ → ℕ → Bool
share_two g h = count_ones (bit_and g h) == 2

-- two flats meet in a ridge: they share exactly two ones, the ridge's corners, the lower first
abbrev pub meet_in : RidgeRow → ℕ → ℕ → Bool
meet_in e g h = share_two g h && nat_lt e.low e.high && holds g e && holds h e
