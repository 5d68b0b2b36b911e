-- A plane or a five: where a plane stands between two sided lists, a listed one does; where they share a point, five corners yield a mixture.
use Rattle.std.proofs.Common.{◌≡◌, ◌⊎◌, List, ◌++◌, inl, inr}
use Rattle.vector.specs.declared.Vector.{Vector}
use Rattle.vector.specs.Vectors.{◌·◌}
use Rattle.convex.specs.Faces.{Spanning}
use Rattle.convex.specs.Theorems.{PlaneOrFive}
use Rattle.convex.proofs.Members.{all_left, all_right}
use Rattle.convex.proofs.Sharing.{plane_is_proof}
use Rattle.convex.proofs.Alternative.{direction_or_point}
use Rattle.convex.proofs.Planes.{planes_suffice}
use Rattle.convex.proofs.FiveCorners.{five_corners_suffice}

-- where one of two lists is spanning, so are both together
spanning_both : (A B : List Vector) → Spanning A ⊎ Spanning B → Spanning (A ++ B)
spanning_both A B (inl s) w h k a = s w h k (all_left (λ p. w · p ≡ k) A B a)
spanning_both A B (inr s) w h k a = s w h k (all_right (λ p. w · p ≡ k) A B a)

pub plane_or_five : PlaneOrFive
plane_or_five A fs rs B gs ts pair = elim (direction_or_point A B pair.some_first pair.some_second) [
  | inl (n, b) ↦ inl (planes_suffice A fs rs B gs ts pair (plane_is_proof A B n b))
  | inr s ↦ inr (five_corners_suffice A B (spanning_both A B pair.spanning) s)
]
