-- What the invariant of a solid adds to the questions on rows.
use Rattle.std.proofs.Common.{◌≡◌, ℕ, Bool, true, false, cond, ◌&&◌, ltb, length, Some, None, unwrap_or, sym, refl, ap, ◌∙◌, inl, inr}
use Rattle.std.proofs.lemmas.List.{get_or_past}
use Rattle.std.proofs.lemmas.Bool.{cases_lt, lt-ltb, le-ltb}
use Rattle.vector.specs.Vectors.{𝟎}
use Rattle.rows.specs.Captures.{Rows}
use Rattle.rules.specs.Rules.{corner, mask, outward, direction, lawful}
use Rattle.rules.proofs.Lawful.{reach_from_lawful}
use Rattle.solid.specs.Questions.{corner_told, flat_told}

and_true : (b : Bool) → (b && true) ≡ b
and_true true = refl
and_true false = refl

pub flat_is_told : (R : Rows) (k : ℕ) → lawful R ≡ true → direction R k ≡ flat_told R k
flat_is_told R k h =
    let X = Some (outward R.corners (mask R.flats k)) in
    ap (λ (b : Bool). cond (ltb k (length R.flats) && b) X None) (reach_from_lawful R h)
    ∙ ap (λ (b : Bool). cond b X None) (and_true (ltb k (length R.flats)))

-- a corner that is not there is taken for the origin
pub corner_or_origin : (R : Rows) (k : ℕ) → unwrap_or (corner_told R k) 𝟎 ≡ corner R.corners k
corner_or_origin R k = elim (cases_lt k (length R.corners)) [
  | inl l ↦ ap (λ (b : Bool). unwrap_or (cond b (Some (corner R.corners k)) None) 𝟎) (lt-ltb k (length R.corners) l)
  | inr l ↦ ap (λ (b : Bool). unwrap_or (cond b (Some (corner R.corners k)) None) 𝟎) (le-ltb k (length R.corners) l) ∙ sym (get_or_past R.corners k 𝟎 l)
]
