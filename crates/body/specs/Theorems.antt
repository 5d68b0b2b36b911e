-- What the definitions of the answers mean, in plain words. Each statement is the contract of a function of this crate.
use Rattle.std.specs.Prelude.{◌≡◌, ℕ, ◌<◌, ◌≤◌, List, length, ◌≤ℤ◌, ◌<ℤ◌, slice_index_or}
use Rattle.std.specs.List.{AllByRecursion}
use Rattle.vector.specs.declared.Vector.{Vector}
use Rattle.vector.specs.Vectors.{◌·◌, 𝟎}
use Rattle.convex.specs.Points.{◌∈◌}
use Rattle.body.specs.Extents.{extent_of, farthest}

-- corner k has the greatest product with n, and no lower number has it
pub record Farthest (n : Vector) (cs : List Vector) (k : ℕ) : Type 0 where
  pub below : k < length cs
  pub most : (j : ℕ) → j < length cs → (n · slice_index_or cs j 𝟎) ≤ℤ (n · slice_index_or cs k 𝟎)
  pub lowest : (j : ℕ) → j < k → (n · slice_index_or cs j 𝟎) <ℤ (n · slice_index_or cs k 𝟎)

-- `farthest` is that number, and no other is
abbrev pub FarthestIsLowest : Type 0
FarthestIsLowest = (n : Vector) (cs : List Vector) → 1 ≤ length cs
    → Farthest n cs (farthest n cs) × ((k : ℕ) → Farthest n cs k → k ≡ farthest n cs)

-- no corner is outside the extent, and each of its six numbers is a coordinate of some corner
pub record Tight (cs : List Vector) : Type 0 where
  pub inside_x : AllByRecursion (λ c. ((extent_of cs).least.x ≤ℤ c.x) × (c.x ≤ℤ (extent_of cs).greatest.x)) cs
  pub inside_y : AllByRecursion (λ c. ((extent_of cs).least.y ≤ℤ c.y) × (c.y ≤ℤ (extent_of cs).greatest.y)) cs
  pub inside_z : AllByRecursion (λ c. ((extent_of cs).least.z ≤ℤ c.z) × (c.z ≤ℤ (extent_of cs).greatest.z)) cs
  pub least_x : (c : Vector) × c ∈ cs × (c.x ≡ (extent_of cs).least.x)
  pub least_y : (c : Vector) × c ∈ cs × (c.y ≡ (extent_of cs).least.y)
  pub least_z : (c : Vector) × c ∈ cs × (c.z ≡ (extent_of cs).least.z)
  pub greatest_x : (c : Vector) × c ∈ cs × (c.x ≡ (extent_of cs).greatest.x)
  pub greatest_y : (c : Vector) × c ∈ cs × (c.y ≡ (extent_of cs).greatest.y)
  pub greatest_z : (c : Vector) × c ∈ cs × (c.z ≡ (extent_of cs).greatest.z)

abbrev pub ExtentIsTight : Type 0
ExtentIsTight = (cs : List Vector) → 1 ≤ length cs → Tight cs
