-- The corners of rows within reach, by any number; and numbers compared by their bits.
use Rattle.std.proofs.Common.{◌≡◌, ℕ, true, eqb, List, length, ℤ, ap, inl, inr, arith, w64, SFits, of_z}
use Rattle.std.proofs.lemmas.List.{get_or_past}
use Rattle.std.proofs.lemmas.Int.{ints}
use Rattle.std.proofs.lemmas.Bool.{cases_lt}
use Rattle.vector.specs.declared.Vector.{Vector}
use Rattle.vector.specs.Vectors.{𝟎, eq_z, within}
use Rattle.rules.specs.Rules.{corner, in_reach}
use Rattle.rules.proofs.Loops.{all_at}

-- equal bits are equal numbers
pub same_bits : (a b : ℤ) → SFits w64 a → SFits w64 b → eqb (of_z w64 a) (of_z w64 b) ≡ eq_z a b
same_bits a b f g = grind (arith, ints)

pub corner_near : (cs : List Vector) (k : ℕ) → in_reach cs ≡ true → within 10000 (corner cs k) ≡ true
corner_near cs k h = elim (cases_lt k (length cs)) [
  | inl l ↦ all_at (within 10000) cs k 𝟎 l h
  | inr l ↦ ap (within 10000) (get_or_past cs k 𝟎 l)
]
