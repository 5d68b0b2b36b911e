-- The rules 3 to 8 of a lawful solid, over its rows. Rules 1 and 2 are of a capture's bytes.
use Rattle.std.specs.Prelude.{ℕ, ◌+◌, ◌^◌, Bool, cond, not, ◌&&◌, ◌||◌, List, length, get_or, Some, None, Ok, Err, Option, Result, ◌==◌, count_by, count_ones, int_lt, nat_le, nat_lt, slice_index, slice_index_or}
use Rattle.std.specs.List.{list_all, list_any}
use Rattle.vector.specs.declared.Vector.{Vector}
use Rattle.vector.specs.Vectors.{◌·◌, ◌⨯◌, ◌-ᵛ◌, negᵛ, 𝟎, eq_z, is_zero, precedes, within}
use Rattle.rows.specs.declared.ridge.RidgeRow.{RidgeRow}
use Rattle.rows.specs.Captures.{Rows}
use Rattle.rules.specs.Tests.{every, some, each_next, each_two, some_two}
use Rattle.rules.specs.Masks.{lies, next, share_two, meet_in}

-- row number k of each table
abbrev pub corner : List Vector → ℕ → Vector
corner cs k = slice_index_or cs k 𝟎

abbrev pub mask : List ℕ → ℕ → ℕ
mask ms k = slice_index ms k

abbrev pub ridge : List RidgeRow → ℕ → RidgeRow
ridge es k = get_or es k record { low = 0; high = 0 }

-- ---- 3: coordinates are within reach, and corner rows rise strictly
abbrev pub in_reach : List Vector → Bool
in_reach cs = list_all (within 10000) cs

abbrev pub rule_3 : Rows → Bool
rule_3 R = in_reach R.corners && each_next precedes R.corners

-- ---- 4: masks use only bits below the number of corners, have at least three ones, and rise strictly
abbrev pub mask_fits : ℕ → ℕ → Bool
mask_fits c m = nat_lt m (2 ^ c) && nat_le 3 (count_ones m)

abbrev pub masks_fit : ℕ → List ℕ → Bool
masks_fit c ms = list_all (mask_fits c) ms && each_next nat_lt ms

abbrev pub rule_4 : Rows → Bool
rule_4 R = masks_fit (length R.corners) R.flats

-- ---- 5: for the three lowest corners p, q, s of a flat, (q − p) × (s − p) is not zero; it or its opposite is the flat's
-- outward direction (outer normal of the facet): its product is equal at all the flat's corners and lower at every other
abbrev pub first_corner : List Vector → ℕ → Vector
first_corner cs m = corner cs (next 0 m)

abbrev pub normal : List Vector → ℕ → Vector
normal cs m =
    (corner cs (next (next 0 m + 1) m) -ᵛ first_corner cs m) ⨯ (corner cs (next (next (next 0 m + 1) m + 1) m) -ᵛ first_corner cs m)

abbrev pub faces : List Vector → ℕ → Vector → ℕ → Bool
faces cs m n k = cond (lies k m) (eq_z (n · corner cs k) (n · first_corner cs m)) (int_lt (n · corner cs k) (n · first_corner cs m))

abbrev pub is_outward : List Vector → ℕ → Vector → Bool
is_outward cs m n = every (length cs) (faces cs m n)

abbrev pub is_left_out : ℕ → ℕ → Bool
is_left_out m k = not (lies k m)

abbrev pub is_flat : List Vector → ℕ → Bool
is_flat cs m =
    not (is_zero (normal cs m))
    && (is_outward cs m (normal cs m) || is_outward cs m (negᵛ (normal cs m)))
    && some (length cs) (is_left_out m)

abbrev pub rule_5 : Rows → Bool
rule_5 R = list_all (is_flat R.corners) R.flats

-- the outward direction of a flat, and of flat number k where the corners are within reach
abbrev pub outward : List Vector → ℕ → Vector
outward cs m = cond (is_outward cs m (normal cs m)) (normal cs m) (negᵛ (normal cs m))

abbrev pub direction : Rows → ℕ → Option Vector
direction R k = cond (nat_lt k (length R.flats) && in_reach R.corners) (Some (outward R.corners (mask R.flats k))) None

-- ---- 6: three corners not on one line, whose plane has no corner on one of its sides, lie together in a listed flat:
-- each three are on one line, or have corners on both sides of their plane, or lie together
abbrev pub is_below : List Vector → Vector → Vector → ℕ → Bool
is_below cs n p k = int_lt (n · corner cs k) (n · p)

abbrev pub is_above : List Vector → Vector → Vector → ℕ → Bool
is_above cs n p k = int_lt (n · p) (n · corner cs k)

abbrev pub has_three : ℕ → ℕ → ℕ → ℕ → Bool
has_three i j l m = lies i m && lies j m && lies l m

abbrev pub across : List Vector → ℕ → ℕ → ℕ → Vector
across cs i j l = (corner cs j -ᵛ corner cs i) ⨯ (corner cs l -ᵛ corner cs i)

abbrev pub triple_listed : List Vector → List ℕ → ℕ → ℕ → ℕ → Bool
triple_listed cs ms l j i =
    is_zero (across cs i j l)
    || (some (length cs) (is_below cs (across cs i j l) (corner cs i)) && some (length cs) (is_above cs (across cs i j l) (corner cs i)))
    || list_any (has_three i j l) ms

abbrev pub pair_listed : List Vector → List ℕ → ℕ → ℕ → Bool
pair_listed cs ms l j = every j (triple_listed cs ms l j)

abbrev pub corner_listed : List Vector → List ℕ → ℕ → Bool
corner_listed cs ms l = every l (pair_listed cs ms l)

abbrev pub rule_6 : Rows → Bool
rule_6 R = every (length R.corners) (corner_listed R.corners R.flats)

-- ---- 7: each corner lies in at least three flats
abbrev pub is_tied : List ℕ → ℕ → Bool
is_tied ms k = nat_le 3 (count_by (lies k) ms)

abbrev pub rule_7 : Rows → Bool
rule_7 R = every (length R.corners) (is_tied R.flats)

-- ---- 8: ridge rows rise strictly by first byte, then second; each two flats that share exactly two ones meet in a listed
-- ridge, and in each listed ridge two flats meet
abbrev pub ridge_before : RidgeRow → RidgeRow → Bool
ridge_before d e = nat_lt d.low e.low || (d.low == e.low && nat_lt d.high e.high)

abbrev pub meeting_listed : List RidgeRow → ℕ → ℕ → Bool
meeting_listed es g h = not (share_two g h) || list_any (λ e. meet_in e g h) es

unfoldable pub ridges_fit : List ℕ → List RidgeRow → Bool
ridges_fit ms es = each_next ridge_before es && each_two (meeting_listed es) ms && list_all (λ e. some_two (meet_in e) ms) es

abbrev pub rule_8 : Rows → Bool
rule_8 R = ridges_fit R.flats R.ridges

-- the vector of a ridge: its higher corner minus its lower
abbrev pub ridge_vector : List Vector → RidgeRow → Vector
ridge_vector cs e = corner cs e.high -ᵛ corner cs e.low

-- ---- the rules together
unfoldable pub lawful : Rows → Bool
lawful R = rule_3 R && rule_4 R && rule_5 R && rule_6 R && rule_7 R && rule_8 R

-- the number of the first rule that is broken, or nothing but success
abbrev pub checking : Rows → Result (Unit {0}) ℕ
checking R =
    cond (not (rule_3 R)) (Err 3)
    (cond (not (rule_4 R)) (Err 4)
    (cond (not (rule_5 R)) (Err 5)
    (cond (not (rule_6 R)) (Err 6)
    (cond (not (rule_7 R)) (Err 7)
    (cond (not (rule_8 R)) (Err 8)
    (Ok tt))))))
