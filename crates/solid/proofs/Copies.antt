-- Reading a capture, then saving its solid into a buffer.
use Rattle.std.proofs.Common.{◌≡◌, ℕ, Bool, true, false, cond, ltb, List, ◌++◌, length, drop, IfOk, Ok, Err, Result, ap, ◌∙◌, arith}
use Rattle.refusal.specs.declared.Refusal.{Refusal}
use Rattle.refusal.specs.Numbers.{told}
use Rattle.rows.specs.Captures.{Rows, capture, saving, saved}
use Rattle.solid.specs.Reading.{reply, held, copied, after_copy}

pub copy_refused : (X : Result Rows ℕ) (n : ℕ) (buffer : List ℕ) → Err n ≡ reply X → Err n ≡ copied X buffer
copy_refused (Ok R) n buffer e = absurd (let w : ◌≡◌ {A = ℕ} 0 1 = cc in omega arith)
copy_refused (Err m) n buffer e = cc

-- the rows S that the place holds after a reading that nothing refused
pub copy_answer : (X : Result Rows ℕ) (S before : Rows) (buffer : List ℕ) (r : Result ℕ Refusal) → Ok tt ≡ reply X → S ≡ held X before → told r ≡ saving S buffer → told r ≡ copied X buffer
copy_answer (Ok R) S before buffer r e p q = q ∙ ap (λ (T : Rows). saving T buffer) p
copy_answer (Err m) S before buffer r e p q = absurd (let w : ◌≡◌ {A = ℕ} 0 1 = cc in omega arith)

module _ (S : Rows) (bs buffer after : List ℕ) (again : capture S ≡ bs) where
  abbrev room : Bool → Result ℕ ℕ
  room b = cond b (Err 9) (Ok (length (capture S)))

  size_from : (b : Bool) (n : ℕ) → Ok n ≡ room b → n ≡ length bs
  size_from true n e = absurd (let w : ◌≡◌ {A = ℕ} 0 1 = cc in omega arith)
  size_from false n e = let q : n ≡ length (capture S) = cc in q ∙ ap length again

  pub copy_length : (r : Result ℕ Refusal) → told r ≡ saving S buffer → IfOk r (λ n. n ≡ length bs)
  copy_length (Ok n) e = size_from (ltb (length buffer) (length (capture S))) n e
  copy_length (Err x) e = tt

  full : (b : Bool) (n : ℕ) → Ok n ≡ room b → after ≡ cond b buffer (capture S ++ drop (length (capture S)) buffer) → after ≡ bs ++ drop (length bs) buffer
  full true n e p = absurd (let w : ◌≡◌ {A = ℕ} 0 1 = cc in omega arith)
  full false n e p = p ∙ ap (λ (t : List ℕ). t ++ drop (length t) buffer) again

  none : (b : Bool) (n : ℕ) → Err n ≡ room b → after ≡ cond b buffer (capture S ++ drop (length (capture S)) buffer) → after ≡ buffer
  none true n e p = p
  none false n e p = absurd (let w : ◌≡◌ {A = ℕ} 0 1 = cc in omega arith)

  pub copy_bytes : (r : Result ℕ Refusal) → told r ≡ saving S buffer → after ≡ saved S buffer → after ≡ after_copy bs (told r) buffer
  copy_bytes (Ok n) e p = full (ltb (length buffer) (length (capture S))) n e p
  copy_bytes (Err x) e p = none (ltb (length buffer) (length (capture S))) _ e p
