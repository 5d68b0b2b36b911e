-- Tests of all the members of a list, by computing.
use Rattle.std.proofs.Common.{◌≡◌, Bool, true, false, ◌&&◌, ◌||◌, List, [], ◌∷◌, ℤ, pos, ◌≤ℤ◌, ◌<ℤ◌, refl, ap, ◌∙◌, inl, inr, arith}
use lib.Signed.{lt_z, le_z}
use borrow.Author.Tests.{clash}
use Rattle.std.specs.List.{AllByRecursion}
use Rattle.std.proofs.lemmas.Int.{ints}
use Rattle.std.proofs.lemmas.Bool.{and_parts, or_cases}
use Rattle.vector.specs.declared.Vector.{Vector}
use Rattle.vector.specs.Vectors.{◌·◌, 𝟎, eq_z, is_zero}
use Rattle.vector.proofs.Identities.{same_vector}
use Rattle.convex.specs.Points.{◌∈◌}
use Rattle.convex.specs.Products.{greatest, least, Between, Top}
use Rattle.convex.proofs.Members.{all_from_in}

abbrev pub every : (Vector → Bool) → List Vector → Bool
every t [] = true
every t (v ∷ L) = t v && every t L

abbrev pub some : (Vector → Bool) → List Vector → Bool
some t [] = false
some t (v ∷ L) = t v || some t L

pub every_in : (t : Vector → Bool) (L : List Vector) → every t L ≡ true → (v : Vector) → v ∈ L → t v ≡ true
every_in t [] h v k = absurd k
every_in t (u ∷ L) h v (inl e) = ap t e ∙ (and_parts (t u) (every t L) h).0
every_in t (u ∷ L) h v (inr k) = every_in t L (and_parts (t u) (every t L) h).1 v k

pub some_in : (t : Vector → Bool) (L : List Vector) → some t L ≡ true → (v : Vector) × v ∈ L × (t v ≡ true)
some_in t [] h = absurd (clash h)
some_in t (u ∷ L) h = elim (or_cases (t u) (some t L) h) [
  | inl k ↦ (u, inl refl, k)
  | inr k ↦ let r = some_in t L k in (r.0, inr r.1, r.2)
]

pub zero_from : (v : Vector) → is_zero v ≡ true → v ≡ 𝟎
zero_from v h =
    let a = and_parts (eq_z v.x (pos 0) && eq_z v.y (pos 0)) (eq_z v.z (pos 0)) h in
    let b = and_parts (eq_z v.x (pos 0)) (eq_z v.y (pos 0)) a.0 in
    same_vector (equal v.x b.0) (equal v.y b.1) (equal v.z a.1)
  where
    equal : (a : ℤ) → eq_z a (pos 0) ≡ true → a ≡ pos 0
    equal a h = let p = and_parts (le_z a (pos 0)) (le_z (pos 0) a) h in grind (arith, ints)

pub below_from : (a b : ℤ) → lt_z a b ≡ true → a <ℤ b
below_from a b h = grind (arith, ints)

-- every product is below 0
pub all_below : (n : Vector) (L : List Vector) → every (λ v. lt_z (n · v) (pos 0)) L ≡ true → AllByRecursion (λ v. (n · v) <ℤ pos 0) L
all_below n L h = all_from_in (λ v. (n · v) <ℤ pos 0) L (λ v k. below_from (n · v) (pos 0) (every_in (λ v. lt_z (n · v) (pos 0)) L h v k))

-- no product is above that of c
pub is_top : (n c : Vector) (cs : List Vector) → c ∈ cs → every (λ d. le_z (n · d) (n · c)) cs ≡ true → Top n cs c
is_top n c cs h e = record { member = h; most = all_from_in (λ d. (n · d) ≤ℤ (n · c)) cs (λ d k. at_most_from (n · d) (n · c) (every_in (λ d. le_z (n · d) (n · c)) cs e d k)) }
  where
    at_most_from : (a b : ℤ) → le_z a b ≡ true → a ≤ℤ b
    at_most_from a b h = grind (arith, ints)

-- no direction of a list is accepted
pub none_between : (fs A B : List Vector) → every (λ f. le_z (least f B) (greatest f A)) fs ≡ true → AllByRecursion (λ f. ¬ (Between f A B)) fs
none_between fs A B h = all_from_in (λ f. ¬ (Between f A B)) fs (λ f k b. clashing (greatest f A) (least f B) (every_in (λ f. le_z (least f B) (greatest f A)) fs h f k) b)
  where
    clashing : (g l : ℤ) → le_z l g ≡ true → g <ℤ l → ⊥
    clashing g l h b = grind (arith, ints)
