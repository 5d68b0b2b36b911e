-- What a trailer that fits its layout says, test by test.
use Rattle.std.proofs.Common.{◌≡◌, ℕ, ◌≤◌, true, arith}
use Rattle.std.proofs.lemmas.Bool.Decides.{nat_tests}
use Rattle.rows.specs.declared.counts.Counts.{Counts}
use Rattle.rows.specs.declared.trailer.Trailer.{Trailer}
use Rattle.rows.specs.Sizes.{sizes}
use Rattle.rows.specs.Trailers.{size, distances, layout}

-- what the layout asks of a trailer
pub record Laid (len : ℕ) (t : Trailer) : Type 0 where
  pub allowed : sizes t.counts ≡ true
  pub edition : t.edition ≡ 1
  pub whole : len ≡ size t.counts
  pub to_corners : t.back.corners ≡ (distances t.counts).corners
  pub to_flats : t.back.flats ≡ (distances t.counts).flats
  pub to_ridges : t.back.ridges ≡ (distances t.counts).ridges

-- a trailer that fits is laid out so
pub laid : (len : ℕ) (t : Trailer) → layout len t ≡ true → Laid len t
laid len t h = grind (arith, nat_tests)

-- the ranges of the counts
pub record Sized (n : Counts) : Type 0 where
  pub corners_from : 4 ≤ n.corners
  pub corners_to : n.corners ≤ 32
  pub flats_from : 4 ≤ n.flats
  pub flats_to : n.flats ≤ 60
  pub ridges_from : 6 ≤ n.ridges
  pub ridges_to : n.ridges ≤ 90

-- counts that are allowed lie in their ranges
pub sized : (n : Counts) → sizes n ≡ true → Sized n
sized n h = grind (arith, nat_tests)
