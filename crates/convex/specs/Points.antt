-- Rational points, and which of them belong to a list of corners (the convex hull of its vertices).
use Rattle.std.specs.Prelude.{◌≡◌, ℕ, ◌+◌, ◌<◌, ◌≤◌, ◌⊎◌, List, [], ◌∷◌, length, pos, slice_index_or}
use Rattle.std.specs.List.{AllByRecursion}
use Rattle.vector.specs.declared.Vector.{Vector}
use Rattle.vector.specs.Vectors.{◌+ᵛ◌, ◌∗◌, 𝟎}

-- a vector stands in a list
infix 50 ◌∈◌
abbrev pub ◌∈◌ : Vector → List Vector → Type 0
c ∈ [] = ⊥
c ∈ (d ∷ ds) = (c ≡ d) ⊎ (c ∈ ds)

-- a rational point: a vector over a positive denominator
pub record Point : Type 0 where
  pub over : Vector
  pub under : ℕ
  pub positive : 1 ≤ under

-- Σ w
abbrev pub total : List ℕ → ℕ
total [] = 0
total (w ∷ ws) = w + total ws

-- Σ w·c; where one list is shorter, the rest of the other counts for nothing
abbrev pub weighted : List ℕ → List Vector → Vector
weighted [] cs = 𝟎
weighted (w ∷ ws) [] = 𝟎
weighted (w ∷ ws) (c ∷ cs) = pos w ∗ c +ᵛ weighted ws cs

-- the point is Σ w·c ÷ Σ w, with whole weights w ≥ 0, one for each corner c and not all 0
pub record Belongs (p : Point) (cs : List Vector) : Type 0 where
  pub weights : List ℕ
  pub one_each : length weights ≡ length cs
  pub some : 1 ≤ total weights
  pub is : pos (total weights) ∗ p.over ≡ pos p.under ∗ weighted weights cs

-- one point belongs to both
abbrev pub Shared : List Vector → List Vector → Type 0
Shared A B = (p : Point) × Belongs p A × Belongs p B

-- an entry of a mixture: a corner by its number, and its weight
pub record Entry : Type 0 where
  pub corner : ℕ
  pub weight : ℕ

abbrev pub entries_total : List Entry → ℕ
entries_total [] = 0
entries_total (e ∷ es) = e.weight + entries_total es

-- the sum of the corners that the entries name, each times its weight
abbrev pub entries_sum : List Vector → List Entry → Vector
entries_sum cs [] = 𝟎
entries_sum cs (e ∷ es) = pos e.weight ∗ slice_index_or cs e.corner 𝟎 +ᵛ entries_sum cs es

-- a mixture that is accepted: each entry names an existing corner, both totals are equal and at least 1, and both sums are equal
pub record Mixture (A B : List Vector) (es fs : List Entry) : Type 0 where
  pub in_first : AllByRecursion (λ e. e.corner < length A) es
  pub in_second : AllByRecursion (λ e. e.corner < length B) fs
  pub same_total : entries_total es ≡ entries_total fs
  pub some : 1 ≤ entries_total es
  pub same_sum : entries_sum A es ≡ entries_sum B fs
