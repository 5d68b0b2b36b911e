-- What an answer tells of a body's meaning.
use Rattle.std.proofs.Common.{◌≡◌, ℕ, zero, suc, ◌<◌, ◌≤◌, true, false, ◌&&◌, leb, List, [], ◌∷◌, length, get_or, Ok, Err, sym, refl, ◌∙◌, subst, inl, inr, arith}
use Rattle.std.proofs.lemmas.Bool.{and_parts, and_from, leb-true, le-leb, cond-true, cond-false, cases_Bool}
use Rattle.vector.specs.declared.Vector.{Vector}
use Rattle.vector.specs.Vectors.{within, 𝟎}
use Rattle.body.specs.Meaning.{Meaning, unfit, corners, reached, fits, body_of, Sound}
use Rattle.body.specs.declared.extent.Extent.{Extent}
use Rattle.body.specs.Extents.{extent_of, farthest}
use Rattle.body.specs.Answers.{count_answer, corner_answer, extent_answer, farthest_answer}
use Rattle.body.proofs.Numbered.{no_ok, same_ok, told_entry, told_past}

-- the corners of a body, none where it is unfit
abbrev pub corners_in : Meaning → List Vector
corners_in unfit = []
corners_in (corners cs) = cs

-- ---- lists that fit
pub fits_parts : (cs : List Vector) → fits cs ≡ true → (1 ≤ length cs) × (length cs ≤ 1024) × (reached cs ≡ true)
fits_parts cs h =
    let p = and_parts (leb 1 (length cs) && leb (length cs) 1024) (reached cs) h in
    let q = and_parts (leb 1 (length cs)) (leb (length cs) 1024) p.0 in
    (leb-true 1 (length cs) q.0, leb-true (length cs) 1024 q.1, p.1)

pub fits_from : (cs : List Vector) → 1 ≤ length cs → length cs ≤ 1024 → reached cs ≡ true → fits cs ≡ true
fits_from cs a b c = and_from (leb 1 (length cs) && leb (length cs) 1024) (reached cs) (and_from (leb 1 (length cs)) (leb (length cs) 1024) (le-leb 1 (length cs) a) (le-leb (length cs) 1024 b)) c

pub reached_at : (cs : List Vector) (i : ℕ) → reached cs ≡ true → i < length cs → within 10000 (get_or cs i 𝟎) ≡ true
reached_at [] i h l = absurd (omega arith)
reached_at (c ∷ cs) zero h l = (and_parts (within 10000 c) (reached cs) h).0
reached_at (c ∷ cs) (suc i) h l = reached_at cs i (and_parts (within 10000 c) (reached cs) h).1 (omega arith)

-- a body of corners that fit, and what is told of it
pub body_fit : (cs : List Vector) → fits cs ≡ true → body_of cs ≡ corners cs
body_fit cs h = cond-true (fits cs) (corners cs) unfit h

pub body_unfit : (cs : List Vector) → fits cs ≡ false → body_of cs ≡ unfit
body_unfit cs h = cond-false (fits cs) (corners cs) unfit h

-- ---- a body whose count, corner or extent was told is fit
pub record Fit (m : Meaning) : Type 0 where
  pub is : m ≡ corners (corners_in m)
  pub some : 1 ≤ length (corners_in m)
  pub few : length (corners_in m) ≤ 1024
  pub near : reached (corners_in m) ≡ true

pub fit : (cs : List Vector) → Sound (corners cs) → Fit (corners cs)
fit cs s = let p = fits_parts cs s in record { is = refl; some = p.0; few = p.1; near = p.2 }

pub told_count : (m : Meaning) → Sound m → (n : ℕ) → Ok n ≡ count_answer m → Fit m × (n ≡ length (corners_in m))
told_count unfit s n h = no_ok n 13 h
told_count (corners cs) s n h = (fit cs s, same_ok h)

pub told_corner : (m : Meaning) → Sound m → (i : ℕ) (c : Vector) → Ok c ≡ corner_answer m i
    → Fit m × (i < length (corners_in m)) × (c ≡ get_or (corners_in m) i 𝟎) × (within 10000 c ≡ true)
told_corner unfit s i c h = no_ok c 13 h
told_corner (corners cs) s i c h =
    let t = told_entry cs i c h in
    (fit cs s, t.0, t.1, subst (λ (v : Vector). within 10000 v ≡ true) (sym t.1) (reached_at cs i (fits_parts cs s).2 t.0))

pub told_extent : (m : Meaning) → Sound m → (e : Extent) → Ok e ≡ extent_answer m → Fit m × (e ≡ extent_of (corners_in m))
told_extent unfit s e h = no_ok e 13 h
told_extent (corners cs) s e h = (fit cs s, same_ok h)

pub told_farthest : (m : Meaning) → Sound m → (n : Vector) (i : ℕ) → Ok i ≡ farthest_answer m n → Fit m × (within 800000000 n ≡ true) × (i ≡ farthest n (corners_in m))
told_farthest unfit s n i h = no_ok i 13 h
told_farthest (corners cs) s n i h = elim (cases_Bool (within 800000000 n)) [
  | inl w ↦ (fit cs s, w, same_ok (h ∙ cond-true (within 800000000 n) (Ok (farthest n cs)) (Err 14) w))
  | inr w ↦ no_ok i 14 (h ∙ cond-false (within 800000000 n) (Ok (farthest n cs)) (Err 14) w)
]

-- a fit body refuses only a direction beyond its range
pub farthest_refused : (cs : List Vector) (n : Vector) (e : ℕ) → Err e ≡ farthest_answer (corners cs) n → (ds : List Vector) → Err e ≡ farthest_answer (corners ds) n
farthest_refused cs n e h ds = elim (cases_Bool (within 800000000 n)) [
  | inl w ↦ no_ok (farthest n cs) e (sym (h ∙ cond-true (within 800000000 n) (Ok (farthest n cs)) (Err 14) w))
  | inr w ↦ h ∙ cond-false (within 800000000 n) (Ok (farthest n cs)) (Err 14) w ∙ sym (cond-false (within 800000000 n) (Ok (farthest n ds)) (Err 14) w)
]

-- no corner below the count is refused
pub no_corner_missing : {Z : Type 0} (m : Meaning) (n i e : ℕ) → Ok n ≡ count_answer m → i < n → Err e ≡ corner_answer m i → Z
no_corner_missing unfit n i e h l k = no_ok n 13 h
no_corner_missing (corners cs) n i e h l k = absurd (omega (arith, (told_past cs i e k).0, same_ok h))

-- a body whose extent was refused is unfit
pub told_unfit : (m : Meaning) (e : ℕ) → Err e ≡ extent_answer m → m ≡ unfit
told_unfit unfit e h = refl
told_unfit (corners cs) e h = no_ok (extent_of cs) e (sym h)
