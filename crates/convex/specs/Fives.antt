-- Five corners of two lists, h of the first and 5 − h of the second: their signed determinants, and when they yield a mixture.
use Rattle.std.specs.Prelude.{◌≡◌, ℕ, suc, ◌+◌, ◌<◌, ◌≤◌, Bool, true, false, not, ◌&&◌, ◌||◌, List, [], ◌∷◌, ◌++◌, map, length, get_or, take, drop, ℤ, pos, ◌+ℤ◌, ◌-ℤ◌, neg_ℤ, int_lt, slice_index_or, unsigned_abs}
use Rattle.std.specs.List.{AllByRecursion}
use Rattle.vector.specs.declared.Vector.{Vector}
use Rattle.vector.specs.Vectors.{◌·◌, ◌⨯◌, 𝟎}
use Rattle.convex.specs.Points.{Entry}

-- the determinant of the rows (x, y, z, 1) of four points
abbrev pub det : Vector → Vector → Vector → Vector → ℤ
det p q r s = p · (q ⨯ r) -ℤ p · (q ⨯ s) +ℤ p · (r ⨯ s) -ℤ q · (r ⨯ s)

-- of five points, number i from 1 to 5 gets (−1)^i times the determinant of the other four
abbrev pub signed : Vector → Vector → Vector → Vector → Vector → List ℤ
signed a b c d e = neg_ℤ (det b c d e) ∷ det a c d e ∷ neg_ℤ (det a b d e) ∷ det a b c e ∷ neg_ℤ (det a b c d) ∷ []

abbrev pub dets : List Vector → List ℤ
dets ps = signed (slice_index_or ps 0 𝟎) (slice_index_or ps 1 𝟎) (slice_index_or ps 2 𝟎) (slice_index_or ps 3 𝟎) (slice_index_or ps 4 𝟎)

-- two numbers that have signs, and not the same; a 0 has no sign
abbrev pub disagree : ℤ → ℤ → Bool
disagree d e = (int_lt d (pos 0) && int_lt (pos 0) e) || (int_lt (pos 0) d && int_lt e (pos 0))

-- two numbers that have the same sign
abbrev pub agree : ℤ → ℤ → Bool
agree d e = (int_lt d (pos 0) && int_lt e (pos 0)) || (int_lt (pos 0) d && int_lt (pos 0) e)

-- some number of a list is so
abbrev pub some_of : (ℤ → Bool) → List ℤ → Bool
some_of t [] = false
some_of t (d ∷ ds) = t d || some_of t ds

-- two numbers, one of each list, are so
abbrev pub some_two : (ℤ → ℤ → Bool) → List ℤ → List ℤ → Bool
some_two t ds es = some_of (λ d. some_of (t d) es) ds

abbrev pub has_sign : ℤ → Bool
has_sign d = int_lt d (pos 0) || int_lt (pos 0) d

-- the numbers of the two sides: not all are 0, no two on one side differ in sign, and no two on opposite sides agree in sign
abbrev pub opposed : List ℤ → List ℤ → Bool
opposed ds es = some_of has_sign (ds ++ es) && not (some_two disagree ds ds) && not (some_two disagree es es) && not (some_two agree ds es)

-- five points, those of the first before those of the second, yield a mixture
abbrev pub yields : List Vector → List Vector → Bool
yields ps qs = opposed (take (length ps) (dets (ps ++ qs))) (drop (length ps) (dets (ps ++ qs)))

-- numbers that rise, from lo on
abbrev pub RisingFrom : ℕ → List ℕ → Type 0
RisingFrom lo [] = Unit {0}
RisingFrom lo (i ∷ is) = (lo ≤ i) × RisingFrom (suc i) is

-- rising corner numbers of a list with k corners
pub record Choice (k : ℕ) (is : List ℕ) : Type 0 where
  pub rising : RisingFrom 0 is
  pub within : AllByRecursion (λ i. i < k) is

-- the corners of those numbers
abbrev pub chosen : List Vector → List ℕ → List Vector
chosen cs is = map (λ i. get_or cs i 𝟎) is

-- h rising corner numbers of the first and 5 − h of the second, for some h from 1 to 4, that yield a mixture
pub record Five (A B : List Vector) : Type 0 where
  pub first : List ℕ
  pub second : List ℕ
  pub of_first : Choice (length A) first
  pub of_second : Choice (length B) second
  pub some_first : 1 ≤ length first
  pub some_second : 1 ≤ length second
  pub many : length first + length second ≡ 5
  pub mixes : yields (chosen A first) (chosen B second) ≡ true

-- corner numbers, each with the absolute value of its determinant as weight
abbrev pub entries : List ℕ → List ℤ → List Entry
entries [] ds = []
entries (i ∷ is) [] = []
entries (i ∷ is) (d ∷ ds) = record { corner = i; weight = unsigned_abs d } ∷ entries is ds

-- the mixture that five corners yield, the entries of the first and those of the second
module _ (A B : List Vector) (f : Five A B) where
  abbrev five_dets : List ℤ
  five_dets = dets (chosen A f.first ++ chosen B f.second)

  abbrev pub first_entries : List Entry
  first_entries = entries f.first (take (length f.first) five_dets)

  abbrev pub second_entries : List Entry
  second_entries = entries f.second (drop (length f.first) five_dets)
