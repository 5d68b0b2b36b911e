-- Cases of the theorems, most of them at two small lists, the corners of the tetrahedron T and of a cube, with the numbers computed.
use Rattle.std.specs.Prelude.{◌≡◌, ℕ, true, false, List, [], ◌∷◌, ◌++◌, pos, negsuc, neg_ℤ, ◌≤ℤ◌, ◌<ℤ◌}
use Rattle.std.specs.List.{AllByRecursion}
use Rattle.vector.specs.declared.Vector.{Vector}
use Rattle.vector.specs.Vectors.{vector, ◌·◌, ◌⨯◌, negᵛ}
use Rattle.convex.specs.Points.{◌∈◌, Shared, Entry, entries_sum, Mixture}
use Rattle.convex.specs.Products.{greatest, least, Between, Top}
use Rattle.convex.specs.Faces.{Spanning, Held, Face, Edge}
use Rattle.convex.specs.Sides.{Sided, shifted, mirrored, differences, planes}
use Rattle.convex.specs.Fives.{det, dets, yields, chosen, Five, first_entries, second_entries}
use Rattle.convex.specs.Theorems.{Pair, TwoFaces}

abbrev pub whole : ℕ → ℕ → ℕ → Vector
whole x y z = vector (pos x) (pos y) (pos z)

-- T, with its flats and ridges
abbrev pub T : List Vector
T = whole 0 0 0 ∷ whole 0 0 4 ∷ whole 0 4 0 ∷ whole 4 0 0 ∷ []

abbrev pub t_flats : List Vector
t_flats = vector (negsuc 15) (pos 0) (pos 0) ∷ vector (pos 0) (negsuc 15) (pos 0) ∷ vector (pos 0) (pos 0) (negsuc 15) ∷ whole 16 16 16 ∷ []

abbrev pub t_ridges : List Vector
t_ridges = whole 0 0 4 ∷ whole 0 4 0 ∷ whole 4 0 0 ∷ vector (pos 0) (pos 4) (negsuc 3) ∷ vector (pos 4) (pos 0) (negsuc 3) ∷ vector (pos 4) (negsuc 3) (pos 0) ∷ []

-- the cube of side 4 from the origin, with its flats and ridges
abbrev pub cube : List Vector
cube = whole 0 0 0 ∷ whole 0 0 4 ∷ whole 0 4 0 ∷ whole 0 4 4 ∷ whole 4 0 0 ∷ whole 4 0 4 ∷ whole 4 4 0 ∷ whole 4 4 4 ∷ []

abbrev pub cube_flats : List Vector
cube_flats =
    whole 0 0 16 ∷ vector (pos 0) (pos 0) (negsuc 15) ∷ vector (pos 0) (negsuc 15) (pos 0) ∷ whole 0 16 0 ∷ whole 16 0 0 ∷ vector (negsuc 15) (pos 0) (pos 0) ∷ []

abbrev pub cube_ridges : List Vector
cube_ridges = whole 4 0 0 ∷ whole 0 4 0 ∷ whole 0 0 4 ∷ []

abbrev pub t_at_10 : List Vector
t_at_10 = shifted (whole 10 0 0) T

abbrev pub cube_at_4 : List Vector
cube_at_4 = shifted (whole 4 0 0) cube

abbrev pub cube_beside : List Vector
cube_beside = shifted (vector (negsuc 0) (pos 2) (pos 3)) cube

abbrev pub entry : ℕ → ℕ → Entry
entry i w = record { corner = i; weight = w }

-- what the theorems assume: both keep the laws, and both are spanning
pub record Lists : Type 0 where
  pub t_sided : Sided T t_flats t_ridges
  pub t_spanning : Spanning T
  pub mirror_sided : Sided (mirrored T) (mirrored t_flats) t_ridges
  pub cube_sided : Sided cube cube_flats cube_ridges
  pub cube_spanning : Spanning cube
  -- the four corners of the cube with x = 0 are not
  pub square_held : Held (whole 0 0 0 ∷ whole 0 0 4 ∷ whole 0 4 0 ∷ whole 0 4 4 ∷ [])

-- T and T at 10 are apart
pub record Apart : Type 0 where
  pub pair : Pair T t_flats t_ridges t_at_10 t_flats t_ridges
  -- a plane is a proof
  pub greatest_is : greatest (whole 16 16 16) T ≡ pos 64
  pub least_is : least (whole 16 16 16) t_at_10 ≡ pos 160
  pub none_shared : ¬ (Shared T t_at_10)
  -- a face: the direction +x has only negative products over the differences, and so has the face (16, 16, 16)
  pub strict : AllByRecursion (λ d. (whole 1 0 0 · d) <ℤ pos 0) (differences T t_at_10)
  pub face : Face (whole 16 16 16) (differences T t_at_10)
  pub face_strict : AllByRecursion (λ d. (whole 16 16 16 · d) <ℤ pos 0) (differences T t_at_10)
  -- the listed planes: it is one of them
  pub listed : whole 16 16 16 ∈ planes t_flats t_ridges t_flats t_ridges
  pub accepted : Between (whole 16 16 16) T t_at_10
  -- no five corners yield a mixture: not the corners 0, 1, 2 of T and 0, 1 of the other, and no others
  pub dets_are : dets (whole 0 0 0 ∷ whole 0 0 4 ∷ whole 0 4 0 ∷ whole 10 0 0 ∷ whole 10 0 4 ∷ []) ≡ negsuc 159 ∷ pos 160 ∷ pos 0 ∷ pos 160 ∷ negsuc 159 ∷ []
  pub not_these : yields (chosen T (0 ∷ 1 ∷ 2 ∷ [])) (chosen t_at_10 (0 ∷ 1 ∷ [])) ≡ false
  pub no_five : ¬ (Five T t_at_10)

-- T and the cube at 4 touch
pub record Touch : Type 0 where
  pub pair : Pair T t_flats t_ridges cube_at_4 cube_flats cube_ridges
  -- corner 3 of T and the corners 0, 1, 2, 4 of the cube yield a mixture
  pub dets_are : dets (whole 4 0 0 ∷ whole 4 0 0 ∷ whole 4 0 4 ∷ whole 4 4 0 ∷ whole 8 0 0 ∷ []) ≡ negsuc 63 ∷ pos 64 ∷ pos 0 ∷ pos 0 ∷ pos 0 ∷ []
  pub five : Five T cube_at_4
  pub first_are : first_entries T cube_at_4 five ≡ entry 3 64 ∷ []
  pub second_are : second_entries T cube_at_4 five ≡ entry 0 64 ∷ entry 1 0 ∷ entry 2 0 ∷ entry 4 0 ∷ []
  -- it is accepted, and is a proof
  pub mixture : Mixture T cube_at_4 (entry 3 64 ∷ []) (entry 0 64 ∷ entry 1 0 ∷ entry 2 0 ∷ entry 4 0 ∷ [])
  pub sum_is : entries_sum T (entry 3 64 ∷ []) ≡ whole 256 0 0
  pub shared : Shared T cube_at_4
  -- no plane is accepted
  pub none_between : (n : Vector) → ¬ (Between n T cube_at_4)
  -- a face: the direction +x has no positive product over the differences, and neither has the face (16, 16, 16)
  pub sided : Sided (differences T cube_at_4) (planes t_flats t_ridges cube_flats cube_ridges) (t_ridges ++ cube_ridges)
  pub weak : greatest (whole 1 0 0) T ≤ℤ least (whole 1 0 0) cube_at_4
  pub face : Face (whole 16 16 16) (differences T cube_at_4)
  pub face_weak : AllByRecursion (λ d. (whole 16 16 16 · d) ≤ℤ pos 0) (differences T cube_at_4)
  -- one of the listed planes, it has equal products
  pub listed : whole 16 16 16 ∈ planes t_flats t_ridges cube_flats cube_ridges
  pub greatest_is : greatest (whole 16 16 16) T ≡ pos 64
  pub least_is : least (whole 16 16 16) cube_at_4 ≡ pos 64

-- corner 0 of the cube at (1, 1, 1) is inside T: with the four corners of T it yields a mixture
pub record Inside : Type 0 where
  pub dets_are : dets (whole 0 0 0 ∷ whole 0 0 4 ∷ whole 0 4 0 ∷ whole 4 0 0 ∷ whole 1 1 1 ∷ []) ≡ pos 16 ∷ pos 16 ∷ pos 16 ∷ pos 16 ∷ negsuc 63 ∷ []
  pub yield : yields (chosen T (0 ∷ 1 ∷ 2 ∷ 3 ∷ [])) (chosen (shifted (whole 1 1 1) cube) (0 ∷ [])) ≡ true

-- T and the cube at (−1, 2, 3) are apart near ridges: no flat of either is accepted, and the product of a ridge of T and one of the cube is
pub record Beside : Type 0 where
  pub pair : Pair T t_flats t_ridges cube_beside cube_flats cube_ridges
  pub no_flat_of_t : AllByRecursion (λ f. ¬ (Between f T cube_beside)) t_flats
  pub no_flat_of_cube : AllByRecursion (λ f. ¬ (Between f T cube_beside)) (mirrored cube_flats)
  pub product_is : negᵛ (vector (pos 0) (pos 4) (negsuc 3) ⨯ whole 4 0 0) ≡ whole 0 16 16
  pub listed : whole 0 16 16 ∈ planes t_flats t_ridges cube_flats cube_ridges
  pub greatest_is : greatest (whole 0 16 16) T ≡ pos 64
  pub least_is : least (whole 0 16 16) cube_beside ≡ pos 80
  pub accepted : Between (whole 0 16 16) T cube_beside
  pub none_shared : ¬ (Shared T cube_beside)

-- a determinant of corners that are far apart, and a product of ridges that reaches the bound of planes
pub record Bounds : Type 0 where
  pub far : let k = pos 10000 in det (vector k k k) (vector k (neg_ℤ k) (neg_ℤ k)) (vector (neg_ℤ k) k (neg_ℤ k)) (vector (neg_ℤ k) (neg_ℤ k) k) ≡ pos 16000000000000
  pub steep : whole 0 20000 20000 ⨯ vector (pos 0) (neg_ℤ (pos 20000)) (pos 20000) ≡ whole 800000000 0 0

-- the edge of T from corner 0 to corner 3 lies in the faces −y and −z, and not in the face (1, 1, 1)
pub record EdgeOfT : Type 0 where
  pub edge : Edge (vector (pos 0) (negsuc 0) (negsuc 0)) T
  pub faces : TwoFaces T (vector (pos 0) (negsuc 0) (negsuc 0)) edge
  pub first : Face (vector (pos 0) (negsuc 0) (pos 0)) T
  pub second : Face (vector (pos 0) (pos 0) (negsuc 0)) T
  pub third : Face (whole 1 1 1) T
  pub first_on : Top (vector (pos 0) (negsuc 0) (pos 0)) T (whole 0 0 0) × Top (vector (pos 0) (negsuc 0) (pos 0)) T (whole 4 0 0)
  pub second_on : Top (vector (pos 0) (pos 0) (negsuc 0)) T (whole 0 0 0) × Top (vector (pos 0) (pos 0) (negsuc 0)) T (whole 4 0 0)
  pub third_off : ¬ (Top (whole 1 1 1) T (whole 0 0 0))

pub record Examples : Type 0 where
  pub lists : Lists
  pub apart : Apart
  pub touch : Touch
  pub inside : Inside
  pub beside : Beside
  pub bounds : Bounds
  pub edge : EdgeOfT
