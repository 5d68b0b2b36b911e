-- Entries of a list by their numbers, and of lists that are made of others.
use Rattle.std.proofs.Common.{◌≡◌, ℕ, ◌+◌, ◌-◌, ◌<◌, ◌≤◌, ltb, List, ◌++◌, map, length, get_or, Ok, Err, Result, sym, ap, ◌∙◌, subst, inl, inr, arith}
use Rattle.std.specs.List.{AllByRecursion}
use Rattle.std.proofs.lemmas.List.{length-map, length-append, get_or-map, get_or_append_left, get_or-append-add}
use Rattle.std.proofs.lemmas.Bool.{lt-ltb, le-ltb, cond-true, cond-false, cases_lt}
use Rattle.vector.specs.declared.Vector.{Vector}
use Rattle.vector.specs.Vectors.{𝟎}
use Rattle.convex.proofs.Members.{all_in, in_at}
use Rattle.body.specs.Answers.{numbered}

-- a value is no refusal
pub no_ok : {X Y Z : Type 0} (x : X) (e : Y) → ◌≡◌ {A = Result X Y} (Ok x) (Err e) → Z
no_ok x e p = let z : ◌≡◌ {A = ℕ} 0 1 = cc in absurd (omega arith)

pub same_ok : {X Y : Type 0} {x y : X} → ◌≡◌ {A = Result X Y} (Ok x) (Ok y) → x ≡ y
same_ok {X} {Y} {x} {y} p = cc

-- ---- entries by number
pub numbered_in : (L : List Vector) (i : ℕ) → i < length L → numbered L i ≡ Ok (get_or L i 𝟎)
numbered_in L i l = cond-true (ltb i (length L)) (Ok (get_or L i 𝟎)) (Err 14) (lt-ltb i (length L) l)

pub numbered_past : (L : List Vector) (i : ℕ) → length L ≤ i → numbered L i ≡ Err 14
numbered_past L i l = cond-false (ltb i (length L)) (Ok (get_or L i 𝟎)) (Err 14) (le-ltb i (length L) l)

-- an entry that was told
pub told_entry : (L : List Vector) (i : ℕ) (v : Vector) → Ok v ≡ numbered L i → (i < length L) × (v ≡ get_or L i 𝟎)
told_entry L i v h = elim (cases_lt i (length L)) [
  | inl l ↦ (l, same_ok (h ∙ numbered_in L i l))
  | inr l ↦ no_ok v 14 (h ∙ numbered_past L i l)
]

-- an entry that was refused
pub told_past : (L : List Vector) (i e : ℕ) → Err e ≡ numbered L i → (length L ≤ i) × (e ≡ 14)
told_past L i e h = elim (cases_lt i (length L)) [
  | inl l ↦ no_ok (get_or L i 𝟎) e (sym (h ∙ numbered_in L i l))
  | inr l ↦ (l, number e (h ∙ numbered_past L i l))
]
  where
    number : (e : ℕ) → ◌≡◌ {A = Result Vector ℕ} (Err e) (Err 14) → e ≡ 14
    number e p = cc

-- what holds of all entries holds of one that was told
pub told_all : (Q : Vector → Type 0) (L : List Vector) → AllByRecursion Q L → (i : ℕ) (v : Vector) → Ok v ≡ numbered L i → Q v
told_all Q L a i v h = let t = told_entry L i v h in subst Q (sym t.1) (all_in Q L a (get_or L i 𝟎) (in_at L i t.0))

-- ---- each entry changed
abbrev pub mapped : (Vector → Vector) → Result Vector ℕ → Result Vector ℕ
mapped f (Ok v) = Ok (f v)
mapped f (Err e) = Err e

pub numbered-map : (f : Vector → Vector) (L : List Vector) (i : ℕ) → mapped f (numbered L i) ≡ numbered (map f L) i
numbered-map f L i = elim (cases_lt i (length L)) [
  | inl l ↦ ap (mapped f) (numbered_in L i l) ∙ ap Ok (sym (get_or-map f L i 𝟎 𝟎 l)) ∙ sym (numbered_in (map f L) i (omega (arith, length-map L f)))
  | inr l ↦ ap (mapped f) (numbered_past L i l) ∙ sym (numbered_past (map f L) i (omega (arith, length-map L f)))
]

-- ---- two lists, one after the other
pub numbered_left : (L M : List Vector) (i : ℕ) → i < length L → numbered (L ++ M) i ≡ numbered L i
numbered_left L M i l = numbered_in (L ++ M) i (omega (arith, length-append L M)) ∙ ap Ok (get_or_append_left L M 𝟎 i l) ∙ sym (numbered_in L i l)

pub numbered_right : (L M : List Vector) (i : ℕ) → length L ≤ i → numbered (L ++ M) i ≡ numbered M (i - length L)
numbered_right L M i l =
    let j = i - length L in
    let e : i ≡ length L + j = omega arith in
    elim (cases_lt j (length M)) [
      | inl k ↦ numbered_in (L ++ M) i (omega (arith, length-append L M)) ∙ ap (λ n. Ok (get_or (L ++ M) n 𝟎)) e ∙ ap Ok (get_or-append-add L M j 𝟎) ∙ sym (numbered_in M j k)
      | inr k ↦ numbered_past (L ++ M) i (omega (arith, length-append L M)) ∙ sym (numbered_past M j k)
    ]
