-- Ranges of sums and products, and the vectors whose products fit 64 bits.
use Rattle.std.proofs.Common.{◌≡◌, ℕ, zero, suc, ◌+◌, ◌*◌, ◌^◌, ◌<◌, ◌≤◌, true, ◌&&◌, ℤ, pos, negsuc, ◌+ℤ◌, ◌-ℤ◌, ◌*ℤ◌, neg_ℤ, nat_abs, sym, subst, arith, w64, SFits}
use lib.Signed.{le_z}
use Rattle.std.specs.Int.{int_wrap}
use Rattle.std.proofs.lemmas.Int.{ints, int_wrap_fits, unsigned_abs-mul}
use Rattle.std.proofs.lemmas.Bool.{and_parts, and_from}
use Rattle.std.proofs.lemmas.Nat.{mul-le}
use Rattle.vector.specs.declared.Vector.{Vector}
use Rattle.vector.specs.Vectors.{vector, ◌·◌, ◌⨯◌, ◌+ᵛ◌, ◌-ᵛ◌, negᵛ, inside, within}
use Rattle.vector.specs.Wrapped.{wrappedᵛ}

-- ---- one number
pub abs_from_inside : (m : ℕ) (a : ℤ) → inside m a ≡ true → nat_abs a ≤ m
abs_from_inside m a h = let p = and_parts (le_z (neg_ℤ (pos m)) a) (le_z a (pos m)) h in grind (arith, ints)

pub inside_from_abs : (m : ℕ) (a : ℤ) → nat_abs a ≤ m → inside m a ≡ true
inside_from_abs m a h = and_from (le_z (neg_ℤ (pos m)) a) (le_z a (pos m)) (grind (arith, ints)) (grind (arith, ints))

pub inside_wider : (m n : ℕ) (a : ℤ) → m ≤ n → inside m a ≡ true → inside n a ≡ true
inside_wider m n a l h = let k = abs_from_inside m a h in inside_from_abs n a (omega arith)

pub inside-plus : (m n : ℕ) (a b : ℤ) → inside m a ≡ true → inside n b ≡ true → inside (m + n) (a +ℤ b) ≡ true
inside-plus m n a b h k =
    let p = abs_from_inside m a h in
    let q = abs_from_inside n b k in
    inside_from_abs (m + n) (a +ℤ b) (grind (arith, ints))

pub inside-minus : (m n : ℕ) (a b : ℤ) → inside m a ≡ true → inside n b ≡ true → inside (m + n) (a -ℤ b) ≡ true
inside-minus m n a b h k =
    let p = abs_from_inside m a h in
    let q = abs_from_inside n b k in
    inside_from_abs (m + n) (a -ℤ b) (grind (arith, ints))

pub inside-neg : (m : ℕ) (a : ℤ) → inside m a ≡ true → inside m (neg_ℤ a) ≡ true
inside-neg m a h = let k = abs_from_inside m a h in inside_from_abs m (neg_ℤ a) (same a k)
  where
    same : (a : ℤ) → nat_abs a ≤ m → nat_abs (neg_ℤ a) ≤ m
    same (pos zero) k = k
    same (pos (suc n)) k = k
    same (negsuc n) k = k

pub inside-times : (m n : ℕ) (a b : ℤ) → inside m a ≡ true → inside n b ≡ true → inside (m * n) (a *ℤ b) ≡ true
inside-times m n a b h k =
    inside_from_abs (m * n) (a *ℤ b)
    (subst (λ x. x ≤ m * n) (sym (unsigned_abs-mul a b)) (mul-le (nat_abs a) (nat_abs b) m n (abs_from_inside m a h) (abs_from_inside n b k)))

pub fits_inside : (m : ℕ) (a : ℤ) → m < 2 ^ 63 → inside m a ≡ true → SFits w64 a
fits_inside m a s h = let k = abs_from_inside m a h in grind (arith, ints)

pub wrapped_inside : (m : ℕ) (a : ℤ) → m < 2 ^ 63 → inside m a ≡ true → int_wrap w64 a ≡ a
wrapped_inside m a s h = int_wrap_fits w64 a (fits_inside m a s h)

-- ---- vectors
-- what a range says of each component
pub record Ranges (m : ℕ) (a : Vector) : Type 0 where
  pub at_x : inside m a.x ≡ true
  pub at_y : inside m a.y ≡ true
  pub at_z : inside m a.z ≡ true

pub ranges : (m : ℕ) (a : Vector) → within m a ≡ true → Ranges m a
ranges m a h =
    let p = and_parts (inside m a.x && inside m a.y) (inside m a.z) h in
    let q = and_parts (inside m a.x) (inside m a.y) p.0 in
    record { at_x = q.0; at_y = q.1; at_z = p.1 }

pub within_ranges : (m : ℕ) (a : Vector) → Ranges m a → within m a ≡ true
within_ranges m a r =
    and_from (inside m a.x && inside m a.y) (inside m a.z) (and_from (inside m a.x) (inside m a.y) r.at_x r.at_y) r.at_z

pub within_wider : (m n : ℕ) (a : Vector) → m ≤ n → within m a ≡ true → within n a ≡ true
within_wider m n a l h =
    let r = ranges m a h in
    within_ranges n a record { at_x = inside_wider m n a.x l r.at_x; at_y = inside_wider m n a.y l r.at_y; at_z = inside_wider m n a.z l r.at_z }

pub within-plus : (m n : ℕ) (a b : Vector) → within m a ≡ true → within n b ≡ true → within (m + n) (a +ᵛ b) ≡ true
within-plus m n a b h k =
    let p = ranges m a h in
    let q = ranges n b k in
    within_ranges (m + n) (a +ᵛ b) record {
      at_x = inside-plus m n a.x b.x p.at_x q.at_x;
      at_y = inside-plus m n a.y b.y p.at_y q.at_y;
      at_z = inside-plus m n a.z b.z p.at_z q.at_z;
    }

pub within-minus : (m n : ℕ) (a b : Vector) → within m a ≡ true → within n b ≡ true → within (m + n) (a -ᵛ b) ≡ true
within-minus m n a b h k =
    let p = ranges m a h in
    let q = ranges n b k in
    within_ranges (m + n) (a -ᵛ b) record {
      at_x = inside-minus m n a.x b.x p.at_x q.at_x;
      at_y = inside-minus m n a.y b.y p.at_y q.at_y;
      at_z = inside-minus m n a.z b.z p.at_z q.at_z;
    }

pub within-neg : (m : ℕ) (a : Vector) → within m a ≡ true → within m (negᵛ a) ≡ true
within-neg m a h =
    let r = ranges m a h in
    within_ranges m (negᵛ a) record { at_x = inside-neg m a.x r.at_x; at_y = inside-neg m a.y r.at_y; at_z = inside-neg m a.z r.at_z }

pub within-cross : (m n : ℕ) (a b : Vector) → within m a ≡ true → within n b ≡ true → within (m * n + m * n) (a ⨯ b) ≡ true
within-cross m n a b h k =
    let p = ranges m a h in
    let q = ranges n b k in
    within_ranges (m * n + m * n) (a ⨯ b) record {
      at_x = part a.y b.z a.z b.y p.at_y q.at_z p.at_z q.at_y;
      at_y = part a.z b.x a.x b.z p.at_z q.at_x p.at_x q.at_z;
      at_z = part a.x b.y a.y b.x p.at_x q.at_y p.at_y q.at_x;
    }
  where
    part : (s t u v : ℤ) → inside m s ≡ true → inside n t ≡ true → inside m u ≡ true → inside n v ≡ true → inside (m * n + m * n) (s *ℤ t -ℤ u *ℤ v) ≡ true
    part s t u v hs ht hu hv = inside-minus (m * n) (m * n) (s *ℤ t) (u *ℤ v) (inside-times m n s t hs ht) (inside-times m n u v hu hv)

pub inside-dot : (m n : ℕ) (a b : Vector) → within m a ≡ true → within n b ≡ true → inside (m * n + m * n + m * n) (a · b) ≡ true
inside-dot m n a b h k =
    let p = ranges m a h in
    let q = ranges n b k in
    inside-plus (m * n + m * n) (m * n) (a.x *ℤ b.x +ℤ a.y *ℤ b.y) (a.z *ℤ b.z)
    (inside-plus (m * n) (m * n) (a.x *ℤ b.x) (a.y *ℤ b.y) (inside-times m n a.x b.x p.at_x q.at_x) (inside-times m n a.y b.y p.at_y q.at_y))
    (inside-times m n a.z b.z p.at_z q.at_z)

pub wrappedᵛ-within : (m : ℕ) (a : Vector) → m < 2 ^ 63 → within m a ≡ true → wrappedᵛ a ≡ a
wrappedᵛ-within m a s h =
    let r = ranges m a h in
    λ i. vector (wrapped_inside m a.x s r.at_x i) (wrapped_inside m a.y s r.at_y i) (wrapped_inside m a.z s r.at_z i)
