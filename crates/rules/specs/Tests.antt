-- Tests over the numbers below a bound, and over the elements of a list.
use Rattle.std.specs.Prelude.{ℕ, Bool, List, drop, take}
use Rattle.std.specs.List.{range_with_len, list_all, list_any, zip, enumerate_from}

-- p holds of every number below n
abbrev pub every : ℕ → (ℕ → Bool) → Bool
every n p = list_all p (range_with_len 0 n)

-- p holds of some number below n
abbrev pub some : ℕ → (ℕ → Bool) → Bool
some n p = list_any p (range_with_len 0 n)

-- r holds of each element and the next
abbrev pub each_next : {X : Type 0} → (X → X → Bool) → List X → Bool
each_next r xs = list_all (λ p. r p.0 p.1) (zip xs (drop 1 xs))

-- r holds of each two elements, the earlier one first
abbrev pub each_two : {X : Type 0} → (X → X → Bool) → List X → Bool
each_two r xs = list_all (λ p. list_all (λ x. r x p.1) (take p.0 xs)) (enumerate_from 0 xs)

-- r holds of some two elements, the earlier one first
abbrev pub some_two : {X : Type 0} → (X → X → Bool) → List X → Bool
some_two r xs = list_any (λ p. list_any (λ x. r x p.1) (take p.0 xs)) (enumerate_from 0 xs)
