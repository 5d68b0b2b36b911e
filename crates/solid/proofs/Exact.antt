-- Reading accepts exactly what keeps every rule, and refuses by the first that is broken.
use Rattle.std.proofs.Common.{◌≡◌, ℕ, zero, suc, ◌+◌, ◌-◌, ◌<◌, Bool, true, false, cond, not, List, [], ◌∷◌, length, get_or, Ok, Err, Result, sym, refl, ap, ◌∙◌, subst, arith}
use Rattle.std.proofs.lemmas.Bool.{both_ways}
use Rattle.rows.specs.Captures.{Rows, rows_in}
use Rattle.solid.specs.Reading.{reading}
use Rattle.solid.specs.Laws.{rules, Accepted, Refused, Exact}

-- tests in their order, numbered from n
abbrev chain : ℕ → List Bool → Rows → Result Rows ℕ
chain n [] R = Ok R
chain n (t ∷ ts) R = cond (not t) (Err n) (chain (suc n) ts R)

-- all pass
abbrev Pass : List Bool → Type 0
Pass ts = (k : ℕ) → get_or ts k true ≡ true

pass_more : (t : Bool) (ts : List Bool) → t ≡ true → Pass ts → Pass (t ∷ ts)
pass_more t ts e h zero = e
pass_more t ts e h (suc k) = h k

ok_passes : (n : ℕ) (ts : List Bool) (R S : Rows) → chain n ts R ≡ Ok S → (S ≡ R) × Pass ts
ok_passes n [] R S e = (cc, λ k. refl)
ok_passes n (true ∷ ts) R S e = let p = ok_passes (suc n) ts R S e in (p.0, pass_more true ts refl p.1)
ok_passes n (false ∷ ts) R S e = absurd (let z : ◌≡◌ {A = ℕ} 0 1 = cc in omega arith)

passes_ok : (n : ℕ) (ts : List Bool) (R : Rows) → Pass ts → chain n ts R ≡ Ok R
passes_ok n [] R h = refl
passes_ok n (t ∷ ts) R h = ap (λ (b : Bool). cond (not b) (Err n) (chain (suc n) ts R)) (h 0) ∙ passes_ok (suc n) ts R (λ k. h (suc k))

-- the first that fails: at place d, which has number n + d
record First (n m : ℕ) (ts : List Bool) : Type 0 where
  place : ℕ
  is : m ≡ n + place
  inside : place < length ts
  fails : get_or ts place true ≡ false
  before : (k : ℕ) → k < place → get_or ts k true ≡ true

first_later : (n m : ℕ) (ts : List Bool) → First (suc n) m ts → First n m (true ∷ ts)
first_later n m ts f = record { place = suc f.place; is = omega (arith, f.is); inside = omega (arith, f.inside); fails = f.fails; before = below }
  where
    below : (k : ℕ) → k < suc f.place → get_or (true ∷ ts) k true ≡ true
    below zero h = refl
    below (suc k) h = f.before k (omega arith)

err_first : (n m : ℕ) (ts : List Bool) (R : Rows) → chain n ts R ≡ Err m → First n m ts
err_first n m [] R e = absurd (let z : ◌≡◌ {A = ℕ} 0 1 = cc in omega arith)
err_first n m (true ∷ ts) R e = first_later n m ts (err_first (suc n) m ts R e)
err_first n m (false ∷ ts) R e =
    let q : m ≡ n = cc in
    record { place = 0; is = omega (arith, q); inside = omega arith; fails = refl; before = λ k h. absurd (omega arith) }

reading_chain : (bs : List ℕ) → reading bs ≡ chain 1 (rules bs) (rows_in bs)
reading_chain bs = refl

back : (k : ℕ) → suc k - 1 ≡ k
back k = omega arith

accepts : (bs : List ℕ) → Accepted bs
accepts bs = record {
  kept = λ R e. let p = ok_passes 1 (rules bs) (rows_in bs) R e in (p.0, λ n. p.1 (n - 1));
  read = λ h. passes_ok 1 (rules bs) (rows_in bs) (λ k. subst (λ (j : ℕ). get_or (rules bs) j true ≡ true) (back k) (h (suc k)));
}

refuses : (bs : List ℕ) (n : ℕ) → reading bs ≡ Err n → Refused bs n
refuses bs n e =
    let f = err_first 1 n (rules bs) (rows_in bs) e in
    let at : n - 1 ≡ f.place = omega (arith, f.is) in
    record {
      least = omega (arith, f.is);
      most = omega (arith, f.is, f.inside);
      broken = λ t. both_ways (get_or (rules bs) f.place true) f.fails (ap (λ (j : ℕ). get_or (rules bs) j true) (sym at) ∙ t);
      before = λ k l h. f.before (k - 1) (omega (arith, f.is));
    }

pub exact : Exact
exact = record { accepts = accepts; refuses = refuses }
