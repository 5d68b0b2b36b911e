-- A ridge row names two corners of the solid, the lower first.
use Rattle.std.proofs.Common.{◌≡◌, ℕ, ◌<◌, true, ◌&&◌, ltb, length}
use Rattle.std.proofs.lemmas.Bool.{and_parts, ltb-true}
use Rattle.rows.specs.declared.ridge.RidgeRow.{RidgeRow}
use Rattle.rows.specs.Captures.{Rows}
use Rattle.std.specs.List.{list_all}
use Rattle.rules.specs.Tests.{each_next, each_two, some_two}
use Rattle.rules.specs.Masks.{lies, holds, share_two, meet_in}
use Rattle.rules.specs.Rules.{mask, ridge, ridge_before, meeting_listed, ridges_fit, lawful}
use Rattle.rules.specs.Laws.{RidgesJoinCorners}
use Rattle.rules.proofs.Loops.{all_at, later_at}
use Rattle.rules.proofs.Bits.{bit_below}
use Rattle.rules.proofs.Lawful.{kept, mask_from_lawful}

-- of a ridge in which two flats meet: its corners rise, and the higher lies in the second flat
meeting : (e : RidgeRow) (g h : ℕ) → meet_in e g h ≡ true → (e.low < e.high) × (lies e.high h ≡ true)
meeting e g h t =
    let p = and_parts (share_two g h && ltb e.low e.high && holds g e) (holds h e) t in
    let q = and_parts (share_two g h && ltb e.low e.high) (holds g e) p.0 in
    let r = and_parts (share_two g h) (ltb e.low e.high) q.0 in
    (ltb-true e.low e.high r.1, (and_parts (lies e.low h) (lies e.high h) p.1).1)

-- in each ridge of lawful rows two flats meet
true_from_lawful : (R : Rows) → lawful R ≡ true → (k : ℕ) → k < length R.ridges → some_two (meet_in (ridge R.ridges k)) R.flats ≡ true
unfolding ridges_fit
true_from_lawful R h k l =
    let ms = R.flats in
    let es = R.ridges in
    let met = (and_parts (each_next ridge_before es && each_two (meeting_listed es) ms) (list_all (λ e. some_two (meet_in e) ms) es) (kept R h).eight).1 in
    all_at (λ e. some_two (meet_in e) ms) es k record { low = 0; high = 0 } l met

pub ridges_join_corners : RidgesJoinCorners
ridges_join_corners R h k l =
    let e = ridge R.ridges k in
    let later = later_at (meet_in e) R.flats 0 (true_from_lawful R h k l) in
    let m = meeting e later.1 (mask R.flats later.0) later.3 in
    record { rising = m.0; within_corners = bit_below e.high (mask R.flats later.0) (length R.corners) (mask_from_lawful R h later.0 later.2) m.1 }
