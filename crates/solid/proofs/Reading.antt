-- Reading in two steps: the rows of the bytes, then the rules over the rows.
use Rattle.std.proofs.Common.{◌≡◌, ℕ, Bool, true, false, cond, not, List, length, Ok, Err, Result, refl, ap, ◌∙◌}
use Rattle.rows.specs.Sizes.{from_to}
use Rattle.rows.specs.Trailers.{layout}
use Rattle.rows.specs.Captures.{Rows, trailer_in, rows_in, decoding}
use Rattle.rules.specs.Rules.{rule_3, rule_4, rule_5, rule_6, rule_7, rule_8, checking}
use Rattle.solid.specs.Reading.{reading}

-- the rows, where the check of them lets them pass
abbrev passed : Result (Unit {0}) ℕ → Rows → Result Rows ℕ
passed (Ok u) R = Ok R
passed (Err n) R = Err n

abbrev steps : Result Rows ℕ → Result Rows ℕ
steps (Ok R) = passed (checking R) R
steps (Err n) = Err n

rest : (a b c d e f : Bool) (R : Rows)
    → cond (not a) (Err 3) (cond (not b) (Err 4) (cond (not c) (Err 5) (cond (not d) (Err 6) (cond (not e) (Err 7) (cond (not f) (Err 8) (Ok R))))))
    ≡ passed (cond (not a) (Err 3) (cond (not b) (Err 4) (cond (not c) (Err 5) (cond (not d) (Err 6) (cond (not e) (Err 7) (cond (not f) (Err 8) (Ok tt))))))) R
rest false b c d e f R = refl
rest true false c d e f R = refl
rest true true false d e f R = refl
rest true true true false e f R = refl
rest true true true true false f R = refl
rest true true true true true false R = refl
rest true true true true true true R = refl

both : (a b : Bool) (R : Rows) (X : Result Rows ℕ) → X ≡ passed (checking R) R → cond (not a) (Err 1) (cond (not b) (Err 2) X) ≡ steps (cond (not a) (Err 1) (cond (not b) (Err 2) (Ok R)))
both false b R X e = refl
both true false R X e = refl
both true true R X e = e

in_steps : (bs : List ℕ) → reading bs ≡ steps (decoding bs)
in_steps bs =
    let R = rows_in bs in
    both (from_to 10 622 (length bs)) (layout (length bs) (trailer_in bs)) R _ (rest (rule_3 R) (rule_4 R) (rule_5 R) (rule_6 R) (rule_7 R) (rule_8 R) R)

pub refused_bytes : (bs : List ℕ) (n : ℕ) → decoding bs ≡ Err n → reading bs ≡ Err n
refused_bytes bs n h = in_steps bs ∙ ap steps h

pub refused_rows : (bs : List ℕ) (R : Rows) (n : ℕ) → decoding bs ≡ Ok R → checking R ≡ Err n → reading bs ≡ Err n
refused_rows bs R n h k = in_steps bs ∙ ap steps h ∙ ap (λ (r : Result (Unit {0}) ℕ). passed r R) k

pub accepted_rows : (bs : List ℕ) (R : Rows) → decoding bs ≡ Ok R → checking R ≡ Ok tt → reading bs ≡ Ok R
accepted_rows bs R h k = in_steps bs ∙ ap steps h ∙ ap (λ (r : Result (Unit {0}) ℕ). passed r R) k
