-- Numbers and their bytes, both ways.
use Rattle.std.proofs.Common.{◌≡◌, ℕ, ◌+◌, ◌*◌, ◌/◌, ◌%◌, ◌^◌, ◌<◌, true, ℤ, arith, w16, to_z}
use Rattle.std.proofs.lemmas.Int.{ints}
use Rattle.vector.specs.Vectors.{inside}
use Rattle.vector.proofs.Bounds.{abs_from_inside}
use Rattle.rows.specs.Bytes.{in16}

-- ---- a number is that of its bytes
pub two_back : (n : ℕ) → n < 65536 → n % 256 + 256 * (n / 256 % 256) ≡ n
two_back n h = omega arith

pub four_back : (n : ℕ) → n < 2 ^ 32 → n % 256 + 256 * (n / 256 % 256 + 256 * (n / 65536 % 256 + 256 * (n / 16777216 % 256))) ≡ n
four_back n h = omega arith

-- ---- two's complement: from a number to a whole number and back, the range, and from a whole number and back
pub in16_back : (n : ℕ) → n < 65536 → in16 (to_z w16 n) ≡ n
in16_back n h = grind (arith, ints)

pub in16_below : (a : ℤ) → in16 a < 65536
in16_below a = grind (arith, ints)

pub coordinate_back : (a : ℤ) → inside 32767 a ≡ true → to_z w16 (in16 a) ≡ a
coordinate_back a h = let k = abs_from_inside 32767 a h in grind (arith, ints)
