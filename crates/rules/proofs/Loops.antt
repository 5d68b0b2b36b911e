-- What the tests over numbers and lists say of each number and each element.
use Rattle.std.proofs.Common.{◌≡◌, ℕ, zero, suc, ◌+◌, ◌<◌, Bool, true, false, List, [], ◌∷◌, length, get_or, take, sym, refl, ap, ◌∙◌, inl, inr, zero-add, add-one, arith}
use Rattle.std.specs.List.{range_with_len, list_all, list_any, enumerate_from, IsAllAdjacentAnswer}
use Rattle.std.proofs.lemmas.List.Folds.{list_all_at, Any-from_list_any}
use Rattle.std.proofs.lemmas.List.Sums.{AllPass-from_list_all}
use Rattle.std.proofs.lemmas.List.FromFn.{length-range_with_len, get_or-range_with_len, length-enumerate_from, get_or-enumerate_from}
use Rattle.std.proofs.lemmas.Bool.{and_from, and_left, and_right, or_cases, false≢true}
use Rattle.rules.specs.Tests.{every, some, each_next, some_two}

-- ---- numbers below a bound
-- number k of the numbers below n is k
number : (n k : ℕ) → k < n → get_or (range_with_len 0 n) k 0 ≡ k
number n k h = get_or-range_with_len 0 n k 0 h ∙ zero-add k

module _ (p : ℕ → Bool) where
  pub every_at : (n k : ℕ) → k < n → every n p ≡ true → p k ≡ true
  every_at n k h e = ap p (sym (number n k h)) ∙ AllPass-from_list_all p (range_with_len 0 n) e k 0 (omega (arith, length-range_with_len 0 n))

  pub every_fails : (n k : ℕ) → k < n → p k ≡ false → every n p ≡ false
  every_fails n k h e = list_all_at p (range_with_len 0 n) k 0 (omega (arith, length-range_with_len 0 n)) (ap p (number n k h) ∙ e)

  pub some_at : (n : ℕ) → some n p ≡ true → (k : ℕ) × (k < n) × (p k ≡ true)
  some_at n e =
      let a = Any-from_list_any p (range_with_len 0 n) e in
      let h : a.0 < n = omega (arith, a.2, length-range_with_len 0 n) in
      (a.0, h, ap p (sym (get_or-range_with_len 0 n a.0 a.1 h ∙ zero-add a.0) ∙ a.3) ∙ a.4)

-- ---- elements of a list
pub all_at : {X : Type 0} (p : X → Bool) (xs : List X) (k : ℕ) (d : X) → k < length xs → list_all p xs ≡ true → p (get_or xs k d) ≡ true
all_at p xs k d h e = AllPass-from_list_all p xs e k d h

pub any_at : {X : Type 0} (p : X → Bool) (xs : List X) → list_any p xs ≡ true → (k : ℕ) × (k < length xs) × ((d : X) → p (get_or xs k d) ≡ true)
any_at p [] e = absurd (false≢true e)
any_at p (x ∷ xs) e = elim (or_cases (p x) (list_any p xs) e) [
  | inl q ↦ (0, omega arith, λ d. q)
  | inr q ↦ let r = any_at p xs q in (suc r.0, omega (arith, r.1), r.2)
]

-- of two elements that pass, the later one is at some place
pub later_at : {X : Type 0} (r : X → X → Bool) (xs : List X) (d : X) → some_two r xs ≡ true → (k : ℕ) × (x : X) × (k < length xs) × (r x (get_or xs k d) ≡ true)
later_at {X} r xs d e =
    let a = any_at (λ (p : ℕ × X). list_any (λ x. r x p.1) (take p.0 xs)) (enumerate_from 0 xs) e in
    let h : a.0 < length xs = omega (arith, a.1, length-enumerate_from {X = X} 0 xs) in
    let found = ap (λ (p : ℕ × X). list_any (λ x. r x p.1) (take p.0 xs)) (sym (get_or-enumerate_from 0 xs a.0 (0, d) h)) ∙ a.2 (0, d) in
    let b = any_at (λ x. r x (get_or xs a.0 d)) (take (0 + a.0) xs) found in
    (a.0, get_or (take (0 + a.0) xs) b.0 d, h, b.2 d)

-- ---- each element and the next: what the library says of them by number is the test over the list
next_all : {X : Type 0} (r : X → X → Bool) (x : X) (ys : List X) → ((k : ℕ) (d : X) → k < length ys → true ≡ r (get_or (x ∷ ys) k d) (get_or ys k d)) → true ≡ each_next r (x ∷ ys)
next_all r x [] h = refl
next_all r x (y ∷ ys) h = sym (and_from (r x y) (each_next r (y ∷ ys)) (sym (h 0 x (omega arith))) (sym (next_all r y ys (λ k d l. h (suc k) d (omega arith)))))

next_fails : {X : Type 0} (r : X → X → Bool) (x : X) (ys : List X) (k : ℕ) → k < length ys → ((d : X) → false ≡ r (get_or (x ∷ ys) k d) (get_or ys k d)) → false ≡ each_next r (x ∷ ys)
next_fails r x [] k l h = absurd (omega arith)
next_fails r x (y ∷ ys) zero l h = sym (and_left (r x y) (each_next r (y ∷ ys)) (sym (h x)))
next_fails r x (y ∷ ys) (suc k) l h = sym (and_right (r x y) (each_next r (y ∷ ys)) (sym (next_fails r y ys k (omega arith) h)))

pub each_next-by_number : {X : Type 0} (r : X → X → Bool) (xs : List X) (b : Bool) → IsAllAdjacentAnswer (λ x y a. a ≡ r x y) xs b → b ≡ each_next r xs
each_next-by_number r [] true h = refl
each_next-by_number r [] false h = absurd (omega (arith, h.1))
each_next-by_number r (x ∷ ys) true h = next_all r x ys (λ k d l. h k d (omega arith) ∙ ap (λ n. r (get_or (x ∷ ys) k d) (get_or (x ∷ ys) n d)) (add-one k))
each_next-by_number r (x ∷ ys) false h = next_fails r x ys h.0 (omega (arith, h.1)) (λ d. h.2 d ∙ ap (λ n. r (get_or (x ∷ ys) h.0 d) (get_or (x ∷ ys) n d)) (add-one h.0))

pub each_next-same : {X : Type 0} (r q : X → X → Bool) → ((x y : X) → r x y ≡ q x y) → (xs : List X) → each_next r xs ≡ each_next q xs
each_next-same r q e xs = λ i. each_next (λ x y. e x y i) xs
