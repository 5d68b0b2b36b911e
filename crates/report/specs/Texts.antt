-- What is found of a capture, and the words that say so.
use Rattle.std.specs.Prelude.{ℕ, true, cond, List, ◌++◌, length, Ok, Err, codes, decimal, Result}
use Rattle.refusal.specs.declared.Refusal.{Refusal}
use Rattle.refusal.specs.Numbers.{number_of, words_of}
use Rattle.rows.specs.Captures.{Rows, counts}
use Rattle.report.specs.declared.accepted.Accepted.{Accepted}

abbrev pub accepted_words : Accepted → List ℕ
accepted_words a =
    codes "accepted: " ++ (decimal a.counts.corners ++ (codes " corners, " ++ (decimal a.counts.flats ++ (codes " flats, " ++ (decimal a.counts.ridges ++ (codes " ridges; saved again: "
    ++ (decimal a.saved ++ (codes " bytes, " ++ cond a.same (codes "the same") (codes "not the same")))))))))

abbrev pub words : Result Accepted Refusal → List ℕ
words (Ok a) = accepted_words a
words (Err e) = codes "refused " ++ (decimal (number_of e) ++ (codes ": " ++ words_of e))

-- what has to be found: a lawful capture is saved as the same bytes; of another, the number of its refusal
abbrev pub Found : Result Rows ℕ → List ℕ → Result Accepted ℕ
Found (Ok R) bs = Ok record { counts = counts R; saved = length bs; same = true }
Found (Err n) bs = Err n
