-- Reading a capture: the rows that it says, or the number of the first rule that it breaks.
use Rattle.std.specs.Prelude.{ℕ, cond, not, List, ◌++◌, length, drop, Ok, Err, Result}
use Rattle.rows.specs.Sizes.{from_to}
use Rattle.rows.specs.Trailers.{layout}
use Rattle.rows.specs.Captures.{Rows, trailer_in, rows_in, saving}
use Rattle.rules.specs.Rules.{rule_3, rule_4, rule_5, rule_6, rule_7, rule_8}

-- each rule over the whole capture, in their order
abbrev pub reading : List ℕ → Result Rows ℕ
reading bs =
    cond (not (from_to 10 622 (length bs))) (Err 1)
    (cond (not (layout (length bs) (trailer_in bs))) (Err 2)
    (cond (not (rule_3 (rows_in bs))) (Err 3)
    (cond (not (rule_4 (rows_in bs))) (Err 4)
    (cond (not (rule_5 (rows_in bs))) (Err 5)
    (cond (not (rule_6 (rows_in bs))) (Err 6)
    (cond (not (rule_7 (rows_in bs))) (Err 7)
    (cond (not (rule_8 (rows_in bs))) (Err 8)
    (Ok (rows_in bs)))))))))

-- nothing but success, or the number
abbrev pub reply : Result Rows ℕ → Result (Unit {0}) ℕ
reply (Ok R) = Ok tt
reply (Err n) = Err n

-- what the place holds after it: the rows read, or what it held before
abbrev pub held : Result Rows ℕ → Rows → Rows
held (Ok R) before = R
held (Err n) before = before

-- reading a capture and saving its solid: how many bytes are written, or the number
abbrev pub copied : Result Rows ℕ → List ℕ → Result ℕ ℕ
copied (Ok R) buffer = saving R buffer
copied (Err n) buffer = Err n

-- the buffer after it: where nothing refuses, the very bytes of the capture from its start on, and what stood past them
abbrev pub after_copy : List ℕ → Result ℕ ℕ → List ℕ → List ℕ
after_copy bs (Ok n) buffer = bs ++ drop (length bs) buffer
after_copy bs (Err n) buffer = buffer
