-- What the calls of reading and saving say of the finding.
use Rattle.std.proofs.Common.{◌≡◌, ℕ, ◌≤◌, true, List, length, take, Ok, Err, Result, arith, rules}
use Rattle.std.proofs.lemmas.Bool.Decides.{nat_tests}
use Rattle.std.proofs.lemmas.Grind.{common_steps}
use Rattle.rows.specs.Captures.{Rows, counts, capture, saving, saved}
use Rattle.solid.specs.Reading.{reading, reply, held}
use Rattle.report.specs.Texts.{Found}

-- what the reading refuses is found refused
pub refused_found : (X : Result Rows ℕ) (n : ℕ) (bs : List ℕ) → Err n ≡ reply X → Err n ≡ Found X bs
refused_found (Ok R) n bs e = cc
refused_found (Err m) n bs e = cc

-- what is read is found accepted, with the counts of the rows S that the place then holds
pub accepted_found : (X : Result Rows ℕ) (S before : Rows) (bs : List ℕ) → Ok tt ≡ reply X → S ≡ held X before → Ok record { counts = counts S; saved = length bs; same = true } ≡ Found X bs
accepted_found (Ok R) S before bs e p = cc
accepted_found (Err m) S before bs e p = cc

-- what is read has no more bytes than the longest capture
pub read_fits : (bs : List ℕ) → Ok tt ≡ reply (reading bs) → length bs ≤ 622
read_fits bs e = search rules

-- no more bytes are saved than the buffer has
pub save_within : (S : Rows) (buffer : List ℕ) (n : ℕ) → Ok n ≡ saving S buffer → n ≤ length buffer
save_within S buffer n e = grind (arith, nat_tests)

module _ (S : Rows) (bs buffer : List ℕ) (again : capture S ≡ bs) (room : length bs ≤ length buffer) where
  -- where there is room a solid is saved
  pub save_answer : saving S buffer ≡ Ok (length bs)
  save_answer = grind (arith, nat_tests)

  -- as many bytes are saved as were read
  pub save_size : (n : ℕ) → Ok n ≡ saving S buffer → n ≡ length bs
  save_size n e = cc save_answer

  -- the bytes that are saved are those that were read
  pub save_front : (n : ℕ) → Ok n ≡ saving S buffer → take n (saved S buffer) ≡ bs
  save_front n e = rw (save_size n e) (grind (arith, nat_tests, common_steps))
