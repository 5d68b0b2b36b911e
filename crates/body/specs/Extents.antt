-- The extent of a list of corners (its bounding box), and the farthest corner along a direction (a support point).
use Rattle.std.specs.Prelude.{ℕ, suc, Bool, cond, ◌&&◌, List, [], ◌∷◌, ℤ, pos}
use Rattle.vector.specs.declared.Vector.{Vector}
use Rattle.vector.specs.Vectors.{vector, ◌·◌, eq_z, within, least_of, greatest_of}
use Rattle.convex.specs.Products.{greatest, least}
use Rattle.body.specs.declared.extent.Extent.{Extent}

-- the directions of the axes: the product with one is that coordinate
abbrev pub x⁺ : Vector
x⁺ = vector (pos 1) (pos 0) (pos 0)

abbrev pub y⁺ : Vector
y⁺ = vector (pos 0) (pos 1) (pos 0)

abbrev pub z⁺ : Vector
z⁺ = vector (pos 0) (pos 0) (pos 1)

abbrev pub extent : Vector → Vector → Extent
extent l g = record { least = l; greatest = g }

-- the least and the greatest of each coordinate
abbrev pub extent_of : List Vector → Extent
extent_of cs = extent (vector (least x⁺ cs) (least y⁺ cs) (least z⁺ cs)) (vector (greatest x⁺ cs) (greatest y⁺ cs) (greatest z⁺ cs))

-- the extent of one corner more
abbrev pub widened : Extent → Vector → Extent
widened e c = extent (least_of e.least c) (greatest_of e.greatest c)

-- all of it is within reach
abbrev pub extent_reached : Extent → Bool
extent_reached e = within 10000 e.least && within 10000 e.greatest

-- the lowest number of a corner whose product with n is k
abbrev pub first_with : Vector → ℤ → List Vector → ℕ
first_with n k [] = 0
first_with n k (c ∷ cs) = cond (eq_z (n · c) k) 0 (suc (first_with n k cs))

-- the lowest-numbered corner with the greatest product
abbrev pub farthest : Vector → List Vector → ℕ
farthest n cs = first_with n (greatest n cs) cs
