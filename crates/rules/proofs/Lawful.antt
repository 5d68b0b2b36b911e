-- Rows are lawful exactly when no rule refuses them.
use Rattle.std.proofs.Common.{◌≡◌, ℕ, ◌^◌, ◌<◌, Bool, true, false, cond, not, ◌&&◌, ltb, leb, length, Ok, Err, Result, refl}
use lib.Count.{ones}
use Rattle.std.proofs.lemmas.Bool.{and_parts, ltb-true}
use Rattle.rows.specs.Captures.{Rows}
use Rattle.std.specs.List.{list_all}
use Rattle.vector.specs.Vectors.{precedes}
use Rattle.rules.specs.Tests.{each_next}
use Rattle.rules.proofs.Loops.{all_at}
use Rattle.rules.specs.Rules.{mask, in_reach, mask_fits, rule_3, rule_4, rule_5, rule_6, rule_7, rule_8, lawful, checking}

-- six tests in a row
abbrev chain : Bool → Bool → Bool → Bool → Bool → Bool → Result (Unit {0}) ℕ
chain a b c d e f =
    cond (not a) (Err 3) (cond (not b) (Err 4) (cond (not c) (Err 5) (cond (not d) (Err 6) (cond (not e) (Err 7) (cond (not f) (Err 8) (Ok tt))))))

passed : (a b c d e f : Bool) → chain a b c d e f ≡ Ok tt → (a && b && c && d && e && f) ≡ true
passed true true true true true true h = refl
passed false b c d e f h = cc
passed true false c d e f h = cc
passed true true false d e f h = cc
passed true true true false e f h = cc
passed true true true true false f h = cc
passed true true true true true false h = cc

passes : (a b c d e f : Bool) → (a && b && c && d && e && f) ≡ true → chain a b c d e f ≡ Ok tt
passes true true true true true true h = refl
passes false b c d e f h = cc
passes true false c d e f h = cc
passes true true false d e f h = cc
passes true true true false e f h = cc
passes true true true true false f h = cc
passes true true true true true false h = cc

pub lawful_from_checking : (R : Rows) → checking R ≡ Ok tt → lawful R ≡ true
unfolding lawful
lawful_from_checking R h = passed (rule_3 R) (rule_4 R) (rule_5 R) (rule_6 R) (rule_7 R) (rule_8 R) h

pub checking_from_lawful : (R : Rows) → lawful R ≡ true → checking R ≡ Ok tt
unfolding lawful
checking_from_lawful R h = passes (rule_3 R) (rule_4 R) (rule_5 R) (rule_6 R) (rule_7 R) (rule_8 R) h

-- lawful rows keep each rule
pub record Kept (R : Rows) : Type 0 where
  pub three : rule_3 R ≡ true
  pub four : rule_4 R ≡ true
  pub five : rule_5 R ≡ true
  pub six : rule_6 R ≡ true
  pub seven : rule_7 R ≡ true
  pub eight : rule_8 R ≡ true

pub kept : (R : Rows) → lawful R ≡ true → Kept R
unfolding lawful
kept R h =
    let p = and_parts (rule_3 R && rule_4 R && rule_5 R && rule_6 R && rule_7 R) (rule_8 R) h in
    let q = and_parts (rule_3 R && rule_4 R && rule_5 R && rule_6 R) (rule_7 R) p.0 in
    let r = and_parts (rule_3 R && rule_4 R && rule_5 R) (rule_6 R) q.0 in
    let s = and_parts (rule_3 R && rule_4 R) (rule_5 R) r.0 in
    let t = and_parts (rule_3 R) (rule_4 R) s.0 in
    record { three = t.0; four = t.1; five = s.1; six = r.1; seven = q.1; eight = p.1 }

-- their corners are within reach
pub reach_from_lawful : (R : Rows) → lawful R ≡ true → in_reach R.corners ≡ true
reach_from_lawful R h = (and_parts (in_reach R.corners) (each_next precedes R.corners) (kept R h).three).0

-- their masks have no bit that no corner has
pub mask_from_lawful : (R : Rows) → lawful R ≡ true → (k : ℕ) → k < length R.flats → mask R.flats k < 2 ^ length R.corners
mask_from_lawful R h k l =
    let ms = R.flats in
    let fits = (and_parts (list_all (mask_fits (length R.corners)) ms) (each_next ltb ms) (kept R h).four).0 in
    let here = all_at (mask_fits (length R.corners)) ms k 0 l fits in
    ltb-true (mask ms k) (2 ^ length R.corners) (and_parts (ltb (mask ms k) (2 ^ length R.corners)) (leb 3 (ones (mask ms k))) here).0
