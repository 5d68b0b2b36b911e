-- Saving a solid and reading it gives the same solid; reading a capture and saving it gives the same bytes.
use Rattle.std.proofs.Common.{◌≡◌, ℕ, ◌^◌, ◌<◌, Bool, true, false, cond, ltb, List, ◌++◌, length, get_or, take, drop, IfOk, Ok, Err, Result, refl, ap, ◌∙◌, arith, pow_mono}
use Rattle.std.proofs.ByRecursion.{All-from_get_or}
use Rattle.std.proofs.lemmas.List.{take_at}
use Rattle.refusal.specs.declared.Refusal.{Refusal}
use Rattle.refusal.specs.Numbers.{told}
use Rattle.vector.specs.Vectors.{𝟎, within}
use Rattle.vector.proofs.Bounds.{within_wider}
use Rattle.rows.specs.Sizes.{sizes}
use Rattle.rows.specs.Captures.{Rows, counts, capture, saving, saved}
use Rattle.rows.specs.Back.{Storable}
use Rattle.rows.proofs.Back.{rows_come_back}
use Rattle.rows.proofs.Layouts.{sized}
use Rattle.rules.specs.Rules.{corner, lawful}
use Rattle.rules.proofs.Near.{corner_near}
use Rattle.rules.proofs.Lawful.{checking_from_lawful, reach_from_lawful, mask_from_lawful}
use Rattle.solid.specs.Reading.{reading}
use Rattle.solid.specs.Laws.{SavedThenRead}
use Rattle.solid.proofs.Reading.{accepted_rows}

storable : (R : Rows) → sizes (counts R) ≡ true → lawful R ≡ true → Storable R
storable R z h = record {
  allowed = z;
  corners_fit = All-from_get_or (λ v. within 32767 v ≡ true) R.corners 𝟎 (λ k l. within_wider 10000 32767 (corner R.corners k) (omega arith) (corner_near R.corners k (reach_from_lawful R h)));
  masks_fit = All-from_get_or (λ m. m < 2 ^ 32) R.flats 0 (λ k l. below k l);
}
  where
    below : (k : ℕ) → k < length R.flats → get_or R.flats k 0 < 2 ^ 32
    below k l = omega (arith, mask_from_lawful R h k l, pow_mono {i = length R.corners} {j = 32} (sized (counts R) z).corners_to)

pub saved_then_read : SavedThenRead
saved_then_read R z h = accepted_rows (capture R) R (rows_come_back R (storable R z h)) (checking_from_lawful R h)

-- what a call of saving leaves in the buffer is read as the same rows
pub saved_back : (R : Rows) (buffer after : List ℕ) (r : Result ℕ Refusal) → told r ≡ saving R buffer → after ≡ saved R buffer → sizes (counts R) ≡ true → lawful R ≡ true
    → IfOk r (λ n. reading (take n after) ≡ Ok R)
saved_back R buffer after (Err e) p q z h = tt
saved_back R buffer after (Ok n) p q z h = by (ltb (length buffer) (length (capture R))) p q
  where
    by : (b : Bool) → told {X = ℕ} (Ok n) ≡ cond b (Err 9) (Ok (length (capture R))) → after ≡ cond b buffer (capture R ++ drop (length (capture R)) buffer) → reading (take n after) ≡ Ok R
    by true p q = absurd (let w : ◌≡◌ {A = ℕ} 0 1 = cc in omega arith)
    by false p q =
        let e : n ≡ length (capture R) = cc in
        (λ i. reading (take (e i) (q i))) ∙ ap reading (take_at (capture R) (drop (length (capture R)) buffer) (length (capture R)) refl) ∙ saved_then_read R z h
