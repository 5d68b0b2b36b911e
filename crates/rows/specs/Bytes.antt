-- Little-endian numbers in a list of bytes.
use Rattle.std.specs.Prelude.{ℕ, ◌+◌, ◌*◌, ◌/◌, ◌%◌, ◌<◌, List, [], ◌∷◌, ◌++◌, length, take, drop, ℤ, pos, slice_index, unsigned_abs}
use Rattle.std.specs.Int.{int_rem_euclid, cast_signed, w16}

abbrev pub u16_at : List ℕ → ℕ → ℕ
u16_at bs i = slice_index bs i + 256 * slice_index bs (i + 1)

-- two's complement
abbrev pub i16_at : List ℕ → ℕ → ℤ
i16_at bs i = cast_signed w16 (u16_at bs i)

abbrev pub u32_at : List ℕ → ℕ → ℕ
u32_at bs i = slice_index bs i + 256 * (slice_index bs (i + 1) + 256 * (slice_index bs (i + 2) + 256 * slice_index bs (i + 3)))

abbrev pub two_bytes : ℕ → List ℕ
two_bytes n = n % 256 ∷ n / 256 % 256 ∷ []

abbrev pub four_bytes : ℕ → List ℕ
four_bytes n = n % 256 ∷ n / 256 % 256 ∷ n / 65536 % 256 ∷ n / 16777216 % 256 ∷ []

-- a whole number in 16 bits, two's complement: its remainder by 2^16
abbrev pub in16 : ℤ → ℕ
in16 a = unsigned_abs (int_rem_euclid a (pos 65536))

-- every element is a byte
abbrev pub Bytes : List ℕ → Type 0
Bytes bs = (k : ℕ) → slice_index bs k < 256

-- bs written over a buffer, from place at on
abbrev pub written : ℕ → List ℕ → List ℕ → List ℕ
written at bs buffer = take at buffer ++ (bs ++ drop (at + length bs) buffer)
