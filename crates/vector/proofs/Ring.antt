-- Equations of polynomials over ℤ, by computing: `ring vs e f refl` proves `eval vs e ≡ eval vs f` where e and f have one normal form.
-- A normal form is a list of terms, a coefficient with the sorted list of its variables, in the order of those lists and with no coefficient 0.
use Rattle.std.proofs.Common.{◌≡◌, ℕ, zero, suc, true, false, T, ltb, List, [], ◌∷◌, ◌++◌, get_or, ℤ, pos, negsuc, ◌+ℤ◌, ◌*ℤ◌, neg_ℤ, sym, refl, ap, ◌∙◌, subst, arith, eqb→eq}
use Prim.Native.Nat.{compare, Ordering}
use lib.Dec.{compare_is_eq}
use lib.IntN.{one, +ℤ_assoc, +ℤ_comm, +ℤ_idl, +ℤ_idr, *ℤ_comm, *ℤ-one, *ℤ-zero, zero-*ℤ}
use borrow.Author.Differences.{ints}
use Rattle.vector.proofs.Integers.{*ℤ_assoc, *ℤ-+ℤ, +ℤ-*ℤ}

-- ---- expressions
infixl 6 ◌⊕◌ ◌⊝◌
infixl 7 ◌⊗◌
pub data Exp : Type 0 where
  var : ℕ → Exp
  num : ℤ → Exp
  ◌⊕◌ : Exp → Exp → Exp
  ◌⊗◌ : Exp → Exp → Exp
  neg : Exp → Exp

abbrev pub ◌⊝◌ : Exp → Exp → Exp
a ⊝ b = a ⊕ neg b

abbrev pub eval : List ℤ → Exp → ℤ
eval vs (var i) = get_or vs i (pos 0)
eval vs (num z) = z
eval vs (a ⊕ b) = eval vs a +ℤ eval vs b
eval vs (a ⊗ b) = eval vs a *ℤ eval vs b
eval vs (neg a) = neg_ℤ (eval vs a)

-- ---- polynomials
pub data Poly : Type 0 where
  nil : Poly
  term : ℤ → List ℕ → Poly → Poly

module _ (vs : List ℤ) where
  abbrev pub monomial : List ℕ → ℤ
  monomial [] = pos 1
  monomial (i ∷ m) = get_or vs i (pos 0) *ℤ monomial m

  abbrev pub value : Poly → ℤ
  value nil = pos 0
  value (term c m p) = c *ℤ monomial m +ℤ value p

abbrev pub plus : Poly → Poly → Poly
plus nil q = q
plus (term c m p) q = term c m (plus p q)

-- c · m times q, and then r
abbrev pub scaled : ℤ → List ℕ → Poly → Poly → Poly
scaled c m nil r = r
scaled c m (term d n q) r = term (c *ℤ d) (m ++ n) (scaled c m q r)

abbrev pub times : Poly → Poly → Poly
times nil q = nil
times (term c m p) q = scaled c m q (times p q)

abbrev pub expand : Exp → Poly
expand (var i) = term (pos 1) (i ∷ []) nil
expand (num z) = term z [] nil
expand (a ⊕ b) = plus (expand a) (expand b)
expand (a ⊗ b) = times (expand a) (expand b)
expand (neg a) = scaled (negsuc 0) [] (expand a) nil

-- ---- sorting
abbrev pub insert : ℕ → List ℕ → List ℕ
insert i [] = i ∷ []
insert i (j ∷ m) = elim (ltb j i) [ true ↦ j ∷ insert i m | false ↦ i ∷ j ∷ m ]

abbrev pub sort : List ℕ → List ℕ
sort [] = []
sort (i ∷ m) = insert i (sort m)

abbrev pub order : List ℕ → List ℕ → Ordering
order [] [] = Ordering.eq
order [] (j ∷ n) = Ordering.lt
order (i ∷ m) [] = Ordering.gt
order (i ∷ m) (j ∷ n) = elim (compare i j) [ Ordering.lt ↦ Ordering.lt | Ordering.eq ↦ order m n | Ordering.gt ↦ Ordering.gt ]

abbrev pub add : ℤ → List ℕ → Poly → Poly
add c m nil = term c m nil
add c m (term d n p) = elim (order m n) [ Ordering.lt ↦ term c m (term d n p) | Ordering.eq ↦ term (c +ℤ d) m p | Ordering.gt ↦ term d n (add c m p) ]

abbrev pub gather : Poly → Poly
gather nil = nil
gather (term c m p) = add c (sort m) (gather p)

abbrev pub keep : ℤ → List ℕ → Poly → Poly
keep (pos zero) m p = p
keep (pos (suc k)) m p = term (pos (suc k)) m p
keep (negsuc k) m p = term (negsuc k) m p

abbrev pub clean : Poly → Poly
clean nil = nil
clean (term c m p) = keep c m (clean p)

abbrev pub norm : Exp → Poly
norm e = clean (gather (expand e))

-- ---- each step keeps the value
times_one : (a : ℤ) → a *ℤ pos 1 ≡ a
unfolding one
times_one a = *ℤ-one a

one_times : (a : ℤ) → pos 1 *ℤ a ≡ a
one_times a = *ℤ_comm (pos 1) a ∙ times_one a

minus_one_times : (a : ℤ) → negsuc 0 *ℤ a ≡ neg_ℤ a
minus_one_times a = omega (arith, ints)

swapped : (a b c : ℤ) → a *ℤ (b *ℤ c) ≡ b *ℤ (a *ℤ c)
swapped a b c = sym (*ℤ_assoc a b c) ∙ ap (λ x. x *ℤ c) (*ℤ_comm a b) ∙ *ℤ_assoc b a c

fours : (a b c d : ℤ) → a *ℤ b *ℤ (c *ℤ d) ≡ a *ℤ c *ℤ (b *ℤ d)
fours a b c d = *ℤ_assoc a b (c *ℤ d) ∙ ap (λ x. a *ℤ x) (swapped b c d) ∙ sym (*ℤ_assoc a c (b *ℤ d))

module _ (vs : List ℤ) where
  monomial-++ : (m n : List ℕ) → monomial vs (m ++ n) ≡ monomial vs m *ℤ monomial vs n
  monomial-++ [] n = sym (one_times (monomial vs n))
  monomial-++ (i ∷ m) n = ap (λ x. get_or vs i (pos 0) *ℤ x) (monomial-++ m n) ∙ sym (*ℤ_assoc (get_or vs i (pos 0)) (monomial vs m) (monomial vs n))

  plus_is : (p q : Poly) → value vs (plus p q) ≡ value vs p +ℤ value vs q
  plus_is nil q = sym (+ℤ_idl (value vs q))
  plus_is (term c m p) q = ap (λ x. c *ℤ monomial vs m +ℤ x) (plus_is p q) ∙ sym (+ℤ_assoc (c *ℤ monomial vs m) (value vs p) (value vs q))

  scaled_is : (c : ℤ) (m : List ℕ) (q r : Poly) → value vs (scaled c m q r) ≡ c *ℤ monomial vs m *ℤ value vs q +ℤ value vs r
  scaled_is c m nil r = sym (ap (λ x. x +ℤ value vs r) (*ℤ-zero (c *ℤ monomial vs m)) ∙ +ℤ_idl (value vs r))
  scaled_is c m (term d n q) r =
      (λ i. c *ℤ d *ℤ monomial-++ m n i +ℤ scaled_is c m q r i)
      ∙ ap (λ x. x +ℤ (c *ℤ monomial vs m *ℤ value vs q +ℤ value vs r)) (fours c d (monomial vs m) (monomial vs n))
      ∙ sym (+ℤ_assoc (c *ℤ monomial vs m *ℤ (d *ℤ monomial vs n)) (c *ℤ monomial vs m *ℤ value vs q) (value vs r))
      ∙ ap (λ x. x +ℤ value vs r) (sym (*ℤ-+ℤ (c *ℤ monomial vs m) (d *ℤ monomial vs n) (value vs q)))

  times_is : (p q : Poly) → value vs (times p q) ≡ value vs p *ℤ value vs q
  times_is nil q = sym (zero-*ℤ (value vs q))
  times_is (term c m p) q =
      scaled_is c m q (times p q)
      ∙ ap (λ x. c *ℤ monomial vs m *ℤ value vs q +ℤ x) (times_is p q)
      ∙ sym (+ℤ-*ℤ (c *ℤ monomial vs m) (value vs p) (value vs q))

  expand_is : (e : Exp) → value vs (expand e) ≡ eval vs e
  expand_is (var i) = +ℤ_idr (pos 1 *ℤ (get_or vs i (pos 0) *ℤ pos 1)) ∙ one_times (get_or vs i (pos 0) *ℤ pos 1) ∙ times_one (get_or vs i (pos 0))
  expand_is (num z) = +ℤ_idr (z *ℤ pos 1) ∙ times_one z
  expand_is (a ⊕ b) = plus_is (expand a) (expand b) ∙ (λ i. expand_is a i +ℤ expand_is b i)
  expand_is (a ⊗ b) = times_is (expand a) (expand b) ∙ (λ i. expand_is a i *ℤ expand_is b i)
  expand_is (neg a) =
      scaled_is (negsuc 0) [] (expand a) nil ∙ +ℤ_idr (negsuc 0 *ℤ pos 1 *ℤ value vs (expand a))
      ∙ minus_one_times (value vs (expand a)) ∙ ap neg_ℤ (expand_is a)

  insert_is : (i : ℕ) (m : List ℕ) → monomial vs (insert i m) ≡ get_or vs i (pos 0) *ℤ monomial vs m
  insert_is i [] = refl
  insert_is i (j ∷ m) =
      elim (ltb j i) as (λ b. monomial vs (elim b as (λ _. List ℕ) [ true ↦ j ∷ insert i m | false ↦ i ∷ j ∷ m ]) ≡ get_or vs i (pos 0) *ℤ (get_or vs j (pos 0) *ℤ monomial vs m)) [
        | true ↦ ap (λ x. get_or vs j (pos 0) *ℤ x) (insert_is i m) ∙ swapped (get_or vs j (pos 0)) (get_or vs i (pos 0)) (monomial vs m)
        | false ↦ refl
      ]

  sort_is : (m : List ℕ) → monomial vs (sort m) ≡ monomial vs m
  sort_is [] = refl
  sort_is (i ∷ m) = insert_is i (sort m) ∙ ap (λ x. get_or vs i (pos 0) *ℤ x) (sort_is m)

same_number : (i j : ℕ) → compare i j ≡ Ordering.eq → i ≡ j
same_number i j e = eqb→eq i j (subst (λ (o : Ordering). T (compare_is_eq o)) (sym e) tt)

same_order : (m n : List ℕ) → order m n ≡ Ordering.eq → m ≡ n
same_order [] [] e = refl
same_order [] (j ∷ n) e = cc
same_order (i ∷ m) [] e = cc
same_order (i ∷ m) (j ∷ n) e = go (same_order m n) (compare i j) refl e
  where
    go : (order m n ≡ Ordering.eq → m ≡ n) → (o : Ordering) → compare i j ≡ o → elim o as (λ _. Ordering) [ Ordering.lt ↦ Ordering.lt | Ordering.eq ↦ order m n | Ordering.gt ↦ Ordering.gt ] ≡ Ordering.eq → i ∷ m ≡ j ∷ n
    go f Ordering.lt d e = cc
    go f Ordering.eq d e = let h = same_number i j d in let k = f e in cc
    go f Ordering.gt d e = cc

module _ (vs : List ℤ) where
  add_is : (c : ℤ) (m : List ℕ) (p : Poly) → value vs (add c m p) ≡ c *ℤ monomial vs m +ℤ value vs p
  add_is c m nil = refl
  add_is c m (term d n p) = go (order m n) refl (add_is c m p)
    where
      go : (o : Ordering) → order m n ≡ o → value vs (add c m p) ≡ c *ℤ monomial vs m +ℤ value vs p
          → value vs (elim o as (λ _. Poly) [ Ordering.lt ↦ term c m (term d n p) | Ordering.eq ↦ term (c +ℤ d) m p | Ordering.gt ↦ term d n (add c m p) ]) ≡ c *ℤ monomial vs m +ℤ (d *ℤ monomial vs n +ℤ value vs p)
      go Ordering.lt e h = refl
      go Ordering.eq e h =
          ap (λ x. x +ℤ value vs p) (+ℤ-*ℤ c d (monomial vs m)) ∙ +ℤ_assoc (c *ℤ monomial vs m) (d *ℤ monomial vs m) (value vs p)
          ∙ ap (λ (k : List ℕ). c *ℤ monomial vs m +ℤ (d *ℤ monomial vs k +ℤ value vs p)) (same_order m n e)
      go Ordering.gt e h =
          ap (λ x. d *ℤ monomial vs n +ℤ x) h ∙ sym (+ℤ_assoc (d *ℤ monomial vs n) (c *ℤ monomial vs m) (value vs p))
          ∙ ap (λ x. x +ℤ value vs p) (+ℤ_comm (d *ℤ monomial vs n) (c *ℤ monomial vs m)) ∙ +ℤ_assoc (c *ℤ monomial vs m) (d *ℤ monomial vs n) (value vs p)

  gather_is : (p : Poly) → value vs (gather p) ≡ value vs p
  gather_is nil = refl
  gather_is (term c m p) = add_is c (sort m) (gather p) ∙ (λ i. c *ℤ sort_is vs m i +ℤ gather_is p i)

  keep_is : (c : ℤ) (m : List ℕ) (p : Poly) → value vs (keep c m p) ≡ c *ℤ monomial vs m +ℤ value vs p
  keep_is (pos zero) m p = sym (ap (λ x. x +ℤ value vs p) (zero-*ℤ (monomial vs m)) ∙ +ℤ_idl (value vs p))
  keep_is (pos (suc k)) m p = refl
  keep_is (negsuc k) m p = refl

  clean_is : (p : Poly) → value vs (clean p) ≡ value vs p
  clean_is nil = refl
  clean_is (term c m p) = keep_is c m (clean p) ∙ ap (λ x. c *ℤ monomial vs m +ℤ x) (clean_is p)

  norm_is : (e : Exp) → value vs (norm e) ≡ eval vs e
  norm_is e = clean_is (gather (expand e)) ∙ gather_is (expand e) ∙ expand_is vs e

  pub ring : (e f : Exp) → norm e ≡ norm f → eval vs e ≡ eval vs f
  ring e f h = sym (norm_is e) ∙ ap (value vs) h ∙ norm_is f

-- ---- the expression of a number, found by `search`
-- An element of `Quoted vs a` is an expression whose value at vs is a: `search quote` finds one. So `by_ring vs (search quote depth 30 fits 20000) refl`
-- proves an equation of sums, products and negations of the members of vs and of numerals.
pub data Member : List ℤ → ℤ → Type 0 where
  first : {a : ℤ} {vs : List ℤ} → Member (a ∷ vs) a
  later : {a b : ℤ} {vs : List ℤ} → Member vs a → Member (b ∷ vs) a

pub data Quoted (vs : List ℤ) : ℤ → Type 0 where
  quote_var : {a : ℤ} → Member vs a → Quoted vs a
  quote_pos : (n : ℕ) → Quoted vs (pos n)
  quote-neg : (n : ℕ) → Quoted vs (negsuc n)
  quote-⊕ : {a b : ℤ} → Quoted vs a → Quoted vs b → Quoted vs (a +ℤ b)
  quote-⊗ : {a b : ℤ} → Quoted vs a → Quoted vs b → Quoted vs (a *ℤ b)
  quote-⊖ : {a : ℤ} → Quoted vs a → Quoted vs (neg_ℤ a)

pub ruleset quote = (quote-⊕, quote-⊗, quote-⊖, first, later, quote_var, quote_pos, quote-neg)

abbrev pub place : {vs : List ℤ} {a : ℤ} → Member vs a → ℕ
place first = 0
place (later p) = suc (place p)

abbrev pub exp : {vs : List ℤ} {a : ℤ} → Quoted vs a → Exp
exp (quote_var p) = var (place p)
exp (quote_pos n) = num (pos n)
exp (quote-neg n) = num (negsuc n)
exp (quote-⊕ p q) = exp p ⊕ exp q
exp (quote-⊗ p q) = exp p ⊗ exp q
exp (quote-⊖ p) = neg (exp p)

place_is : {vs : List ℤ} {a : ℤ} (p : Member vs a) → get_or vs (place p) (pos 0) ≡ a
place_is first = refl
place_is (later p) = place_is p

exp_is : {vs : List ℤ} {a : ℤ} (q : Quoted vs a) → eval vs (exp q) ≡ a
exp_is (quote_var p) = place_is p
exp_is (quote_pos n) = refl
exp_is (quote-neg n) = refl
exp_is (quote-⊕ p q) = λ i. exp_is p i +ℤ exp_is q i
exp_is (quote-⊗ p q) = λ i. exp_is p i *ℤ exp_is q i
exp_is (quote-⊖ p) = ap neg_ℤ (exp_is p)

pub by_ring : (vs : List ℤ) {a b : ℤ} (s : Quoted vs a × Quoted vs b) → norm (exp s.0) ≡ norm (exp s.1) → a ≡ b
by_ring vs s h = sym (exp_is s.0) ∙ ring vs (exp s.0) (exp s.1) h ∙ exp_is s.1
