-- The counts of a tally.
use Rattle.std.specs.Prelude.{◌≡◌, ◌≢◌, ℕ, ◌+◌, ◌-◌, ◌^◌, min, slice_index_or}
use Rattle.damage.specs.declared.tally.Tally.{Tally}

-- how many captures were refused by a number
abbrev pub refused_by : Tally → ℕ → ℕ
refused_by tally number = slice_index_or tally.refused number 0

-- one more, up to the largest count
abbrev pub one_more : ℕ → ℕ
one_more n = min (n + 1) (2 ^ 64 - 1)

-- one more was accepted, and nothing else changed
abbrev pub CountsAccepted : Tally → Tally → Type 0
CountsAccepted old new = new ≡ record old { accepted = one_more old.accepted }

-- one more was refused by a number, and as many as before by every other
pub record CountsRefused (old new : Tally) (number : ℕ) : Type 0 where
  pub counted : refused_by new number ≡ one_more (refused_by old number)
  pub others : (q : ℕ) → q ≢ number → refused_by new q ≡ refused_by old q
