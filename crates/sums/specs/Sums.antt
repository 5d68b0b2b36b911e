-- What the sum of two bodies means (the Minkowski sum).
use Rattle.std.specs.Prelude.{ℕ, ◌+◌, ◌*◌, Bool, cond, ◌&&◌, List, ◌++◌, length, Ok, Err, Result, nat_le}
use Rattle.vector.specs.declared.Vector.{Vector}
use Rattle.convex.specs.Sides.{sums, products, sum_flats}
use Rattle.body.specs.Meaning.{Meaning, unfit, corners, body_of}
use Rattle.body.specs.Sides.{Sides, unlisted, listed, sides_of}
use Rattle.body.specs.Answers.{numbered}
use Rattle.sums.specs.declared.listing.Counts.{Counts}
use Rattle.sums.specs.declared.listing.Listing.{Listing}

-- each corner of the first and, within it, each of the second, added
abbrev pub sum_meaning : Meaning → Meaning → Meaning
sum_meaning unfit o = unfit
sum_meaning (corners A) unfit = unfit
sum_meaning (corners A) (corners B) = body_of (sums A B)

-- the flats of the first, those of the second, and the products of their ridges with the opposites; then the ridges of both
abbrev pub sum_sides : Sides → Sides → Sides
sum_sides unlisted s = unlisted
sum_sides (listed fs rs) unlisted = unlisted
sum_sides (listed fs rs) (listed gs ts) = sides_of (sum_flats fs rs gs ts) (rs ++ ts)

-- ---- answers that the sum goes by
abbrev pub counts_of : List Vector → List Vector → Counts
counts_of fs rs = record { flats = length fs; ridges = length rs }

-- how many flats and ridges one body lists
abbrev pub counts_answer : Meaning → Sides → Result Counts ℕ
counts_answer unfit s = Err 13
counts_answer (corners cs) unlisted = Err 16
counts_answer (corners cs) (listed fs rs) = Ok (counts_of fs rs)

-- how many the parts of a sum list, if the sum is fit and lists its own
abbrev pub listing_answer : Meaning → Sides → Sides → Result Listing ℕ
listing_answer unfit a b = Err 13
listing_answer (corners cs) unlisted b = Err 16
listing_answer (corners cs) (listed fs rs) unlisted = Err 16
listing_answer (corners cs) (listed fs rs) (listed gs ts) = cond (nat_le (length (sum_flats fs rs gs ts)) 20000 && nat_le (length (rs ++ ts)) 1000) (Ok (record { first = counts_of fs rs; second = counts_of gs ts })) (Err 16)

-- how many products of ridges, flats and ridges the sum has by what its parts list
abbrev pub product_count : Listing → ℕ
product_count l = 2 * (l.first.ridges * l.second.ridges)

abbrev pub flat_count : Listing → ℕ
flat_count l = l.first.flats + l.second.flats + product_count l

abbrev pub ridge_count : Listing → ℕ
ridge_count l = l.first.ridges + l.second.ridges

-- they are few enough to be listed
abbrev pub is_few : Listing → Bool
is_few l = nat_le (flat_count l) 20000 && nat_le (ridge_count l) 1000

-- a product of ridges, or its opposite, by number
abbrev pub product_answer : Sides → Sides → ℕ → Result Vector ℕ
product_answer unlisted b t = Err 16
product_answer (listed fs rs) unlisted t = Err 16
product_answer (listed fs rs) (listed gs ts) t = numbered (products rs ts) t
