-- Laws above the reading: what is accepted, which refusal comes, and that saving and reading undo each other.
use Rattle.std.specs.Prelude.{◌≡◌, ℕ, ◌-◌, ◌<◌, ◌≤◌, Bool, true, List, [], ◌∷◌, length, Ok, Err, slice_index_or}
use Rattle.rows.specs.Bytes.{Bytes}
use Rattle.rows.specs.Sizes.{from_to, sizes}
use Rattle.rows.specs.Trailers.{layout}
use Rattle.rows.specs.Captures.{Rows, counts, trailer_in, rows_in, capture}
use Rattle.rules.specs.Rules.{rule_3, rule_4, rule_5, rule_6, rule_7, rule_8, lawful}
use Rattle.solid.specs.Reading.{reading}

-- the rules 1 to 8, the first of which is the length
abbrev pub rules : List ℕ → List Bool
rules bs =
    from_to 10 622 (length bs) ∷ layout (length bs) (trailer_in bs)
    ∷ rule_3 (rows_in bs) ∷ rule_4 (rows_in bs) ∷ rule_5 (rows_in bs) ∷ rule_6 (rows_in bs) ∷ rule_7 (rows_in bs) ∷ rule_8 (rows_in bs) ∷ []

-- a capture keeps rule number n
abbrev pub Keeps : ℕ → List ℕ → Type 0
Keeps n bs = slice_index_or (rules bs) (n - 1) true ≡ true

-- a capture is accepted exactly when it keeps every rule, and then its rows are read
pub record Accepted (bs : List ℕ) : Type 0 where
  pub kept : (R : Rows) → reading bs ≡ Ok R → (R ≡ rows_in bs) × ((n : ℕ) → Keeps n bs)
  pub read : ((n : ℕ) → Keeps n bs) → reading bs ≡ Ok (rows_in bs)

-- a refusal has the number of the first rule that is broken
pub record Refused (bs : List ℕ) (n : ℕ) : Type 0 where
  pub least : 1 ≤ n
  pub most : n ≤ 8
  pub broken : ¬ (Keeps n bs)
  pub before : (k : ℕ) → 1 ≤ k → k < n → Keeps k bs

pub record Exact : Type 0 where
  pub accepts : (bs : List ℕ) → Accepted bs
  pub refuses : (bs : List ℕ) (n : ℕ) → reading bs ≡ Err n → Refused bs n

-- saving a solid and reading it gives the same solid
abbrev pub SavedThenRead : Type 0
SavedThenRead = (R : Rows) → sizes (counts R) ≡ true → lawful R ≡ true → reading (capture R) ≡ Ok R

-- reading a capture and saving its solid gives the same bytes
abbrev pub ReadThenSaved : Type 0
ReadThenSaved = (bs : List ℕ) → Bytes bs → (R : Rows) → reading bs ≡ Ok R → capture R ≡ bs
