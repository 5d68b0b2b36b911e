-- The test of the signs of two lists, read both ways: it passes exactly where not all numbers are 0, those of one list are none below 0 and those of the other none above.
use Rattle.std.proofs.Common.{◌≡◌, Bool, true, false, not, List, [], ◌∷◌, ◌++◌, ℤ, pos, negsuc, ◌*ℤ◌, neg_ℤ, ◌≤ℤ◌, ◌<ℤ◌, sym, refl, inl, inr, arith}
use lib.Signed.{lt_z}
use Rattle.std.specs.List.{AllByRecursion}
use Rattle.std.proofs.lemmas.Int.{ints}
use Rattle.std.proofs.ByRecursion.{All-weaker}
use Rattle.std.proofs.lemmas.Bool.{and_from, and_parts, or_cases, or_parts, or_from, or_left, or_right, not_from_false, false≢true}
use Rattle.vector.proofs.Ring.{var, num, ◌⊗◌, neg, ring}
use Rattle.vector.proofs.Order.{minus, nought, plus, sign, one_times}
use Rattle.convex.specs.Fives.{disagree, agree, some_of, some_two, has_sign, opposed}
use Rattle.convex.proofs.Members.{all_both}

-- 1, or −1 for the other side
abbrev pub side : Bool → ℤ
side true = pos 1
side false = negsuc 0

pub side_true : (a : ℤ) → side true *ℤ a ≡ a
side_true a = one_times a

pub side_false : (a : ℤ) → side false *ℤ a ≡ neg_ℤ a
side_false a = ring (a ∷ []) (num (negsuc 0) ⊗ var 0) (neg (var 0)) refl

-- a number is not below 0, or not above
abbrev pub Toward : Bool → ℤ → Type 0
Toward b d = pos 0 ≤ℤ (side b *ℤ d)

-- all are so
abbrev pub Leans : Bool → List ℤ → Type 0
Leans b ds = AllByRecursion (Toward b) ds

pub record Opposed (ds es : List ℤ) : Type 0 where
  pub lean : Bool
  pub first : Leans lean ds
  pub second : Leans (not lean) es
  pub some : some_of has_sign (ds ++ es) ≡ true

-- ---- two numbers
same_side : (b : Bool) (d e : ℤ) → Toward b d → Toward b e → disagree d e ≡ false
same_side true d e h k = grind (arith, ints)
same_side false d e h k = grind (arith, ints)

two_sides : (b : Bool) (d e : ℤ) → Toward b d → Toward (not b) e → agree d e ≡ false
two_sides true d e h k = grind (arith, ints)
two_sides false d e h k = grind (arith, ints)

pub sign_of : (s : ℤ) → ¬ (s ≡ pos 0) → has_sign s ≡ true
sign_of s n = elim (sign s) [
  | minus h ↦ or_left (lt_z s (pos 0)) (lt_z (pos 0) s) (grind (arith, ints))
  | nought h ↦ absurd (n h)
  | plus h ↦ or_right (lt_z s (pos 0)) (lt_z (pos 0) s) (grind (arith, ints))
]

-- the side of a number with a sign; what does not disagree with it leans as it does, and what does not agree leans away
pub side_of : (s : ℤ) → has_sign s ≡ true → (b : Bool) × pos 0 <ℤ (side b *ℤ s)
side_of s h = elim (or_cases (lt_z s (pos 0)) (lt_z (pos 0) s) h) [ inl k ↦ (false, grind (arith, ints)) | inr k ↦ (true, grind (arith, ints)) ]

not_disagreeing : (b : Bool) (s d : ℤ) → pos 0 <ℤ (side b *ℤ s) → disagree s d ≡ false → Toward b d
not_disagreeing true s d h k = grind (arith, ints)
not_disagreeing false s d h k = grind (arith, ints)

not_agreeing : (b : Bool) (s d : ℤ) → pos 0 <ℤ (side b *ℤ s) → agree s d ≡ false → Toward (not b) d
not_agreeing true s d h k = grind (arith, ints)
not_agreeing false s d h k = grind (arith, ints)

agree_swapped : (d e : ℤ) → agree d e ≡ false → agree e d ≡ false
agree_swapped d e h = grind (arith, ints)

-- ---- tests of all the numbers of a list
none_of : (t : ℤ → Bool) (ds : List ℤ) → AllByRecursion (λ d. t d ≡ false) ds → some_of t ds ≡ false
none_of t [] a = refl
none_of t (d ∷ ds) a = or_from (t d) (some_of t ds) a.0 (none_of t ds a.1)

each_not : (t : ℤ → Bool) (ds : List ℤ) → some_of t ds ≡ false → AllByRecursion (λ d. t d ≡ false) ds
each_not t [] h = tt
each_not t (d ∷ ds) h = let p = or_parts (t d) (some_of t ds) h in (p.0, each_not t ds p.1)

-- where each number that passes gives Q, some that passes gives it
by_some : {Q : Type 0} (t : ℤ → Bool) (ds : List ℤ) → some_of t ds ≡ true → AllByRecursion (λ d. t d ≡ true → Q) ds → Q
by_some t [] h a = absurd (false≢true h)
by_some t (d ∷ ds) h a = elim (or_cases (t d) (some_of t ds) h) [ inl k ↦ a.0 k | inr k ↦ by_some t ds k a.1 ]

-- a test of two numbers that no two pass
none_two : (t : ℤ → ℤ → Bool) (Q R : ℤ → Type 0) → ((d e : ℤ) → Q d → R e → t d e ≡ false) → (ds es : List ℤ) → AllByRecursion Q ds → AllByRecursion R es → not (some_two t ds es) ≡ true
none_two t Q R f ds es a b = not_from_false (some_two t ds es)
    (none_of (λ d. some_of (t d) es) ds (All-weaker Q (λ d. some_of (t d) es ≡ false) (λ d q. none_of (t d) es (All-weaker R (λ e. t d e ≡ false) (λ e. f d e q) es b)) ds a))

no_two : (t : ℤ → ℤ → Bool) (ds es : List ℤ) → not (some_two t ds es) ≡ true → AllByRecursion (λ d. AllByRecursion (λ e. t d e ≡ false) es) ds
no_two t ds es h = All-weaker (λ d. some_of (t d) es ≡ false) (λ d. AllByRecursion (λ e. t d e ≡ false) es) (λ d. each_not (t d) es) ds
    (each_not (λ d. some_of (t d) es) ds (failed (some_two t ds es) h))
  where
    failed : (b : Bool) → not b ≡ true → b ≡ false
    failed true h = sym h
    failed false h = refl

turned_round : (t : ℤ → ℤ → Type 0) (ds es : List ℤ) → AllByRecursion (λ d. AllByRecursion (t d) es) ds → AllByRecursion (λ e. AllByRecursion (λ d. t d e) ds) es
turned_round t ds [] a = tt
turned_round t ds (e ∷ es) a = (
  All-weaker (λ d. AllByRecursion (t d) (e ∷ es)) (λ d. t d e) (λ d h. h.0) ds a,
  turned_round t ds es (All-weaker (λ d. AllByRecursion (t d) (e ∷ es)) (λ d. AllByRecursion (t d) es) (λ d h. h.1) ds a),
)

-- ---- the whole test
pub opposed_passes : (ds es : List ℤ) → Opposed ds es → opposed ds es ≡ true
opposed_passes ds es o =
    let b = o.lean in
    and_from _ (not (some_two agree ds es))
    (and_from _ (not (some_two disagree es es))
    (and_from (some_of has_sign (ds ++ es)) (not (some_two disagree ds ds)) o.some (none_two disagree (Toward b) (Toward b) (same_side b) ds ds o.first o.first))
    (none_two disagree (Toward (not b)) (Toward (not b)) (same_side (not b)) es es o.second o.second))
    (none_two agree (Toward b) (Toward (not b)) (two_sides b) ds es o.first o.second)

all_two : (Q R S : ℤ → Type 0) → ((d : ℤ) → Q d → R d → S d) → (ds : List ℤ) → AllByRecursion Q ds → AllByRecursion R ds → AllByRecursion S ds
all_two Q R S f [] a b = tt
all_two Q R S f (d ∷ ds) a b = (f d a.0 b.0, all_two Q R S f ds a.1 b.1)

-- a number with a sign tells how its own list and the other lean
led : (ds es : List ℤ) (s : ℤ) → AllByRecursion (λ d. disagree s d ≡ false) ds → AllByRecursion (λ e. agree s e ≡ false) es → has_sign s ≡ true → (b : Bool) × Leans b ds × Leans (not b) es
led ds es s f g h =
    let k = side_of s h in
    let b = k.0 in (
      b,
      All-weaker (λ d. disagree s d ≡ false) (Toward b) (λ d. not_disagreeing b s d k.1) ds f,
      All-weaker (λ e. agree s e ≡ false) (Toward (not b)) (λ e. not_agreeing b s e k.1) es g,
    )

pub opposed_is : (ds es : List ℤ) → opposed ds es ≡ true → Opposed ds es
opposed_is ds es h =
    let p = and_parts _ (not (some_two agree ds es)) h in
    let q = and_parts _ (not (some_two disagree es es)) p.0 in
    let r = and_parts (some_of has_sign (ds ++ es)) (not (some_two disagree ds ds)) q.0 in
    let g = no_two agree ds es p.1 in
    by_some has_sign (ds ++ es) r.0 (all_both (λ s. has_sign s ≡ true → Opposed ds es) ds es
    (all_two (λ s. AllByRecursion (λ d. disagree s d ≡ false) ds) (λ s. AllByRecursion (λ e. agree s e ≡ false) es) (λ s. has_sign s ≡ true → Opposed ds es)
    (λ s f g k. let l = led ds es s f g k in record { lean = l.0; first = l.1; second = l.2; some = r.0 }) ds (no_two disagree ds ds r.1) g)
    (all_two (λ s. AllByRecursion (λ e. disagree s e ≡ false) es) (λ s. AllByRecursion (λ d. agree d s ≡ false) ds) (λ s. has_sign s ≡ true → Opposed ds es)
    (λ s f g k. let l = led es ds s f (All-weaker (λ d. agree d s ≡ false) (λ d. agree s d ≡ false) (λ d. agree_swapped d s) ds g) k in other l.0 l.1 l.2 r.0)
    es (no_two disagree es es q.1) (turned_round (λ d e. agree d e ≡ false) ds es g)))
  where
    other : (b : Bool) → Leans b es → Leans (not b) ds → some_of has_sign (ds ++ es) ≡ true → Opposed ds es
    other true g f s = record { lean = false; first = f; second = g; some = s }
    other false g f s = record { lean = true; first = f; second = g; some = s }
