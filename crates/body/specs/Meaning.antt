-- What a body is: unfit, or a list of 1 to 1,024 corners within reach, numbered from 0.
use Rattle.std.specs.Prelude.{◌≡◌, Bool, true, cond, ◌&&◌, List, [], ◌∷◌, length, nat_le}
use Rattle.vector.specs.declared.Vector.{Vector}
use Rattle.vector.specs.Vectors.{within}

pub data Meaning : Type 0 where
  unfit : Meaning
  corners : List Vector → Meaning

-- every corner is within reach
abbrev pub reached : List Vector → Bool
reached [] = true
reached (c ∷ cs) = within 10000 c && reached cs

-- 1 to 1,024 corners within reach
abbrev pub fits : List Vector → Bool
fits cs = nat_le 1 (length cs) && nat_le (length cs) 1024 && reached cs

-- what has these corners: a body, or unfit
abbrev pub body_of : List Vector → Meaning
body_of cs = cond (fits cs) (corners cs) unfit

-- the corners of a body fit
abbrev pub Sound : Meaning → Type 0
Sound unfit = Unit {0}
Sound (corners cs) = fits cs ≡ true
