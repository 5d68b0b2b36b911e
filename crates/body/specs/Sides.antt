-- The flats and ridges of a sided body: too many to be listed, or two lists, with the two laws that they keep over the corners.
use Rattle.std.specs.Prelude.{◌≡◌, ◌≤◌, true, cond, ◌&&◌, List, length, nat_le}
use Rattle.std.specs.List.{AllByRecursion}
use Rattle.vector.specs.declared.Vector.{Vector}
use Rattle.vector.specs.Vectors.{within}
use Rattle.convex.specs.Sides.{Sided}
use Rattle.body.specs.Meaning.{Meaning, unfit, corners}

-- flats (outer normals of facets, and more), then ridges (directions of edges, and more)
pub data Sides : Type 0 where
  unlisted : Sides
  listed : List Vector → List Vector → Sides

-- how many flats and ridges are listed, and their ranges
pub record Few (fs rs : List Vector) : Type 0 where
  pub flats : length fs ≤ 20000
  pub ridges : length rs ≤ 1000
  pub flats_within : AllByRecursion (λ f. within 800000000 f ≡ true) fs
  pub ridges_within : AllByRecursion (λ u. within 20000 u ≡ true) rs

-- what has these flats and ridges: listed, or unlisted where they are too many
abbrev pub sides_of : List Vector → List Vector → Sides
sides_of fs rs = cond (nat_le (length fs) 20000 && nat_le (length rs) 1000) (listed fs rs) unlisted

abbrev pub Bounded : Sides → Type 0
Bounded unlisted = Unit {0}
Bounded (listed fs rs) = Few fs rs

-- the two laws: a face's direction is a positive multiple of a listed flat, and an edge is parallel to a listed ridge
abbrev pub Laws : Meaning → Sides → Type 0
Laws unfit s = Unit {0}
Laws (corners cs) unlisted = Unit {0}
Laws (corners cs) (listed fs rs) = Sided cs fs rs
