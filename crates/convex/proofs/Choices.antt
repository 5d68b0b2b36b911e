-- A list with some members left out: of two lists joined it is one of each, and of a list of corners it is the corners of some rising numbers.
use Rattle.std.proofs.Common.{◌≡◌, ℕ, suc, ◌<◌, List, [], ◌∷◌, ◌++◌, map, length, get_or, refl, ap, ◌∙◌, arith}
use Rattle.std.specs.List.{AllByRecursion}
use Rattle.vector.specs.declared.Vector.{Vector}
use Rattle.vector.specs.Vectors.{𝟎}
use Rattle.convex.specs.Fives.{RisingFrom, Choice, chosen}

-- the first list is the second with some members left out
pub data Sub {A : Type 0} : List A → List A → Type 0 where
  none : Sub [] []
  kept : {x : A} {X Y : List A} → Sub Y X → Sub (x ∷ Y) (x ∷ X)
  left : {x : A} {X Y : List A} → Sub Y X → Sub Y (x ∷ X)

pub sub_all : {A : Type 0} (X : List A) → Sub X X
sub_all [] = none
sub_all (x ∷ X) = kept (sub_all X)

-- ---- of two lists joined
pub record Parts {A : Type 0} (X Y Z : List A) : Type 0 where
  pub first : List A
  pub second : List A
  pub of_first : Sub first X
  pub of_second : Sub second Y
  pub are : Z ≡ first ++ second

pub parts : {A : Type 0} (X Y : List A) {Z : List A} → Sub Z (X ++ Y) → Parts X Y Z
parts [] Y {Z} s = record { first = []; second = Z; of_first = none; of_second = s; are = refl }
parts {A} (x ∷ X) Y (kept s) =
    let r = parts X Y s in
    record { first = x ∷ r.first; second = r.second; of_first = kept r.of_first; of_second = r.of_second; are = ap (λ (t : List A). x ∷ t) r.are }
parts (x ∷ X) Y (left s) =
    let r = parts X Y s in
    record { first = r.first; second = r.second; of_first = left r.of_first; of_second = r.of_second; are = r.are }

-- ---- of a list, member by member
pub sub_map : {A B : Type 0} (f : A → B) (X : List A) {Z : List B} → Sub Z (map f X) → (Y : List A) × Sub Y X × (Z ≡ map f Y)
sub_map f [] none = ([], none, refl)
sub_map {B = B} f (x ∷ X) (kept s) = let r = sub_map f X s in (x ∷ r.0, kept r.1, ap (λ (t : List B). f x ∷ t) r.2)
sub_map f (x ∷ X) (left s) = let r = sub_map f X s in (r.0, left r.1, r.2)

-- ---- the numbers of the members
pub record Numbers (Y X : List Vector) : Type 0 where
  pub numbers : List ℕ
  pub choice : Choice (length X) numbers
  pub are : Y ≡ chosen X numbers

next_rising : (lo : ℕ) (is : List ℕ) → RisingFrom lo is → RisingFrom (suc lo) (map suc is)
next_rising lo [] r = tt
next_rising lo (i ∷ is) r = (omega (arith, r.0), next_rising (suc i) is r.1)

from_rising : (lo : ℕ) (is : List ℕ) → RisingFrom lo is → RisingFrom 0 is
from_rising lo [] r = tt
from_rising lo (i ∷ is) r = (omega arith, r.1)

next_within : (k : ℕ) (is : List ℕ) → AllByRecursion (λ i. i < k) is → AllByRecursion (λ i. i < suc k) (map suc is)
next_within k [] a = tt
next_within k (i ∷ is) a = (omega (arith, a.0), next_within k is a.1)

next_chosen : (x : Vector) (X : List Vector) (is : List ℕ) → chosen X is ≡ chosen (x ∷ X) (map suc is)
next_chosen x X [] = refl
next_chosen x X (i ∷ is) = ap (λ (t : List Vector). get_or X i 𝟎 ∷ t) (next_chosen x X is)

pub numbers_of : {Y X : List Vector} → Sub Y X → Numbers Y X
numbers_of none = record { numbers = []; choice = record { rising = tt; within = tt }; are = refl }
numbers_of (kept {x = x} {X = X} s) =
    let r = numbers_of s in
    record {
      numbers = 0 ∷ map suc r.numbers;
      choice = record {
        rising = (omega arith, next_rising 0 r.numbers r.choice.rising);
        within = (omega arith, next_within (length X) r.numbers r.choice.within);
      };
      are = ap (λ (t : List Vector). x ∷ t) (r.are ∙ next_chosen x X r.numbers);
    }
numbers_of (left {x = x} {X = X} s) =
    let r = numbers_of s in
    record {
      numbers = map suc r.numbers;
      choice = record {
        rising = from_rising 1 (map suc r.numbers) (next_rising 0 r.numbers r.choice.rising);
        within = next_within (length X) r.numbers r.choice.within;
      };
      are = r.are ∙ next_chosen x X r.numbers;
    }
