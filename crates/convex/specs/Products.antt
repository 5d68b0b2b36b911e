-- The products of a direction with the corners of a list: the greatest, the least, and planes between two lists.
use Rattle.std.specs.Prelude.{List, [], ◌∷◌, ℤ, pos, ◌≤ℤ◌, ◌<ℤ◌}
use Rattle.std.specs.Int.{int_min, int_max}
use Rattle.std.specs.List.{AllByRecursion}
use Rattle.vector.specs.declared.Vector.{Vector}
use Rattle.vector.specs.Vectors.{◌·◌}
use Rattle.convex.specs.Points.{◌∈◌}

-- the greatest product of n with a corner; 0 where there is none
abbrev pub greatest : Vector → List Vector → ℤ
greatest n [] = pos 0
greatest n (c ∷ []) = n · c
greatest n (c ∷ d ∷ cs) = int_max (n · c) (greatest n (d ∷ cs))

-- the least
abbrev pub least : Vector → List Vector → ℤ
least n [] = pos 0
least n (c ∷ []) = n · c
least n (c ∷ d ∷ cs) = int_min (n · c) (least n (d ∷ cs))

-- the plane is accepted: it stands between the two lists (a separating plane)
abbrev pub Between : Vector → List Vector → List Vector → Type 0
Between n A B = greatest n A <ℤ least n B

-- c is a corner with the greatest product (a support point)
pub record Top (n : Vector) (cs : List Vector) (c : Vector) : Type 0 where
  pub member : c ∈ cs
  pub most : AllByRecursion (λ d. (n · d) ≤ℤ (n · c)) cs
