-- The flats and ridges of a list of corners, the two laws that they keep, and the planes that two such lists give.
use Rattle.std.specs.Prelude.{◌≡◌, ℕ, ◌≤◌, List, [], ◌∷◌, ◌++◌, map, pos}
use Rattle.vector.specs.declared.Vector.{Vector}
use Rattle.vector.specs.Vectors.{◌⨯◌, ◌+ᵛ◌, ◌-ᵛ◌, ◌∗◌, negᵛ, 𝟎}
use Rattle.convex.specs.Points.{◌∈◌}
use Rattle.convex.specs.Faces.{Face, Edge}

-- n is a positive rational multiple of f
pub record Multiple (n f : Vector) : Type 0 where
  pub over : ℕ
  pub under : ℕ
  pub over_positive : 1 ≤ over
  pub under_positive : 1 ≤ under
  pub is : pos under ∗ n ≡ pos over ∗ f

-- the law of flats: a face's direction is a positive multiple of a listed flat
abbrev pub FlatLaw : List Vector → List Vector → Type 0
FlatLaw cs fs = (n : Vector) → Face n cs → (f : Vector) × f ∈ fs × Multiple n f

-- the law of ridges: an edge is parallel to a listed ridge that is not 0
abbrev pub RidgeLaw : List Vector → List Vector → Type 0
RidgeLaw cs rs = (n : Vector) (e : Edge n cs) → (u : Vector) × u ∈ rs × (¬ (u ≡ 𝟎)) × (u ⨯ (e.q -ᵛ e.p) ≡ 𝟎)

-- corners with flats and ridges that keep both laws (a polytope with its facet normals and edge directions)
pub record Sided (cs fs rs : List Vector) : Type 0 where
  pub flats : FlatLaw cs fs
  pub ridges : RidgeLaw cs rs

-- every corner, or every flat, turned about the origin
abbrev pub mirrored : List Vector → List Vector
mirrored cs = map negᵛ cs

-- v added to every corner
abbrev pub shifted : Vector → List Vector → List Vector
shifted v cs = map (λ c. c +ᵛ v) cs

-- each corner of the first and, within it, each of the second, added (the Minkowski sum)
abbrev pub sums : List Vector → List Vector → List Vector
sums [] B = []
sums (a ∷ A) B = map (λ b. a +ᵛ b) B ++ sums A B

-- each corner of the first less each of the second
abbrev pub differences : List Vector → List Vector → List Vector
differences A B = sums A (mirrored B)

-- u × v and its opposite for each v
abbrev pub products_with : Vector → List Vector → List Vector
products_with u [] = []
products_with u (v ∷ ts) = (u ⨯ v) ∷ negᵛ (u ⨯ v) ∷ products_with u ts

-- the same for each u of the first and, within it, each v of the second
abbrev pub products : List Vector → List Vector → List Vector
products [] ts = []
products (u ∷ rs) ts = products_with u ts ++ products rs ts

-- the flats of a sum: those of the first with flats fs and ridges rs, those of the second with gs and ts, and the products of the ridges
abbrev pub sum_flats : List Vector → List Vector → List Vector → List Vector → List Vector
sum_flats fs rs gs ts = fs ++ gs ++ products rs ts

-- the listed planes of two lists: the flats of the sum of the first and the mirrored second
abbrev pub planes : List Vector → List Vector → List Vector → List Vector → List Vector
planes fs rs gs ts = sum_flats fs rs (mirrored gs) ts
