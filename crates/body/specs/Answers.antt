-- What every kind of body answers, from its meaning alone: the value, or the number of the refusal.
use Rattle.std.specs.Prelude.{ℕ, cond, List, length, Ok, Err, Result, nat_lt, slice_index_or}
use Rattle.vector.specs.declared.Vector.{Vector}
use Rattle.vector.specs.Vectors.{within, 𝟎}
use Rattle.body.specs.declared.extent.Extent.{Extent}
use Rattle.body.specs.Meaning.{Meaning, unfit, corners}
use Rattle.body.specs.Sides.{Sides, unlisted, listed}
use Rattle.body.specs.Extents.{extent_of, extent_reached, farthest}

-- an entry of a list by its number: refused with 14 where there is none
abbrev pub numbered : List Vector → ℕ → Result Vector ℕ
numbered L i = cond (nat_lt i (length L)) (Ok (slice_index_or L i 𝟎)) (Err 14)

-- ---- the four questions: an unfit body refuses them with 13
abbrev pub count_answer : Meaning → Result ℕ ℕ
count_answer unfit = Err 13
count_answer (corners cs) = Ok (length cs)

abbrev pub corner_answer : Meaning → ℕ → Result Vector ℕ
corner_answer unfit i = Err 13
corner_answer (corners cs) i = numbered cs i

abbrev pub extent_answer : Meaning → Result Extent ℕ
extent_answer unfit = Err 13
extent_answer (corners cs) = Ok (extent_of cs)

abbrev pub farthest_answer : Meaning → Vector → Result ℕ ℕ
farthest_answer unfit n = Err 13
farthest_answer (corners cs) n = cond (within 800000000 n) (Ok (farthest n cs)) (Err 14)

-- ---- flats and ridges: an unfit body refuses with 13, an unlisted one by any number with 16
abbrev pub flat_count_answer : Meaning → Sides → Result ℕ ℕ
flat_count_answer unfit s = Err 13
flat_count_answer (corners cs) unlisted = Err 16
flat_count_answer (corners cs) (listed fs rs) = Ok (length fs)

abbrev pub flat_answer : Meaning → Sides → ℕ → Result Vector ℕ
flat_answer unfit s i = Err 13
flat_answer (corners cs) unlisted i = Err 16
flat_answer (corners cs) (listed fs rs) i = numbered fs i

abbrev pub ridge_count_answer : Meaning → Sides → Result ℕ ℕ
ridge_count_answer unfit s = Err 13
ridge_count_answer (corners cs) unlisted = Err 16
ridge_count_answer (corners cs) (listed fs rs) = Ok (length rs)

abbrev pub ridge_answer : Meaning → Sides → ℕ → Result Vector ℕ
ridge_answer unfit s i = Err 13
ridge_answer (corners cs) unlisted i = Err 16
ridge_answer (corners cs) (listed fs rs) i = numbered rs i

-- an extent that is within reach, or 13
abbrev pub reached_answer : Extent → Result Extent ℕ
reached_answer e = cond (extent_reached e) (Ok e) (Err 13)
