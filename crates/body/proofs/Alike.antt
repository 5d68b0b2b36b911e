-- Two fit bodies with the same sides tell the same flats and ridges, whatever their corners.
use Rattle.std.proofs.Common.{◌≡◌, ℕ, List, refl}
use Rattle.vector.specs.declared.Vector.{Vector}
use Rattle.body.specs.Meaning.{corners}
use Rattle.body.specs.Sides.{Sides, unlisted, listed}
use Rattle.body.specs.Answers.{flat_count_answer, flat_answer, ridge_count_answer, ridge_answer}

module _ (cs ds : List Vector) where
  pub same_flat_count : (s : Sides) → flat_count_answer (corners cs) s ≡ flat_count_answer (corners ds) s
  same_flat_count unlisted = refl
  same_flat_count (listed fs rs) = refl

  pub same_flat : (s : Sides) (i : ℕ) → flat_answer (corners cs) s i ≡ flat_answer (corners ds) s i
  same_flat unlisted i = refl
  same_flat (listed fs rs) i = refl

  pub same_ridge_count : (s : Sides) → ridge_count_answer (corners cs) s ≡ ridge_count_answer (corners ds) s
  same_ridge_count unlisted = refl
  same_ridge_count (listed fs rs) = refl

  pub same_ridge : (s : Sides) (i : ℕ) → ridge_answer (corners cs) s i ≡ ridge_answer (corners ds) s i
  same_ridge unlisted i = refl
  same_ridge (listed fs rs) i = refl
