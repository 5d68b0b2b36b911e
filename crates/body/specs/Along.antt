-- The flat of a sided body that a direction is along.
use Rattle.std.specs.Prelude.{◌≡◌, ℕ, ◌+◌, Bool, cond, ◌&&◌, List, [], ◌∷◌, pos, Some, None, Ok, Err, Option, Result, int_lt}
use Rattle.vector.specs.declared.Vector.{Vector}
use Rattle.vector.specs.Vectors.{◌·◌, ◌⨯◌, is_zero, within}
use Rattle.convex.specs.Faces.{Face}
use Rattle.convex.specs.Sides.{Multiple}
use Rattle.body.specs.Meaning.{Meaning, unfit, corners}
use Rattle.body.specs.Sides.{Sides, unlisted, listed}
use Rattle.body.specs.Answers.{flat_answer}

-- n and f are on one line, and point the same way
abbrev pub along : Vector → Vector → Bool
along n f = is_zero (f ⨯ n) && int_lt (pos 0) (f · n)

-- the first flat that n is along, where the list begins with number i
abbrev pub first_along : Vector → ℕ → List Vector → Option ℕ
first_along n i [] = None
first_along n i (f ∷ fs) = cond (along n f) (Some i) (first_along n (i + 1) fs)

abbrev pub along_answer : Meaning → Sides → Vector → Result (Option ℕ) ℕ
along_answer unfit s n = Err 13
along_answer (corners cs) unlisted n = Err 16
along_answer (corners cs) (listed fs rs) n = cond (within 800000000 n) (Ok (first_along n 0 fs)) (Err 14)

-- what such an answer says: n is a positive multiple of that flat; or no three farthest corners along n are off one line
abbrev pub Says : Meaning → Sides → Vector → Result (Option ℕ) ℕ → Type 0
Says m s n (Err e) = Unit {0}
Says m s n (Ok None) = (cs : List Vector) → m ≡ corners cs → ¬ (Face n cs)
Says m s n (Ok (Some k)) = (f : Vector) × (flat_answer m s k ≡ Ok f) × Multiple n f
