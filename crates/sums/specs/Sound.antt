-- The sum of two bodies is a body: its corners fit, and its flats and ridges are few, within range and lawful.
use Rattle.std.specs.Prelude.{◌≡◌, true, ◌&&◌, List, [], ◌∷◌, ◌++◌, length, nat_le}
use Rattle.std.specs.List.{AllByRecursion}
use Rattle.std.proofs.lemmas.Bool.{and_parts, cond_both, leb-true}
use Rattle.vector.specs.declared.Vector.{Vector}
use Rattle.vector.specs.Vectors.{◌⨯◌, within}
use Rattle.vector.proofs.Bounds.{within-neg}
use Rattle.vector.proofs.Exact.{cross-within}
use Rattle.convex.specs.Sides.{sums, products_with, products, sum_flats}
use Rattle.convex.proofs.Members.{all_both}
use Rattle.convex.proofs.Sums.{sum_keeps_laws}
use Rattle.body.specs.Meaning.{Meaning, unfit, corners, fits, Sound}
use Rattle.body.specs.Sides.{Sides, unlisted, listed, Few, Bounded, Laws}
use Rattle.body.specs.Sound.{body_of_sound}
use Rattle.sums.specs.Sums.{sum_meaning, sum_sides}

pub sum_sound : (m o : Meaning) → Sound (sum_meaning m o)
sum_sound unfit o = tt
sum_sound (corners A) unfit = tt
sum_sound (corners A) (corners B) = body_of_sound (sums A B)

-- a product of ridges is within the range of flats
with_within : (u : Vector) (ts : List Vector) → within 20000 u ≡ true → AllByRecursion (λ v. within 20000 v ≡ true) ts → AllByRecursion (λ f. within 800000000 f ≡ true) (products_with u ts)
with_within u [] h a = tt
with_within u (v ∷ ts) h a = let k = cross-within u v h a.0 in (k, (within-neg 800000000 (u ⨯ v) k, with_within u ts h a.1))

products_within : (rs ts : List Vector) → AllByRecursion (λ u. within 20000 u ≡ true) rs → AllByRecursion (λ v. within 20000 v ≡ true) ts → AllByRecursion (λ f. within 800000000 f ≡ true) (products rs ts)
products_within [] ts a b = tt
products_within (u ∷ rs) ts a b = all_both (λ f. within 800000000 f ≡ true) (products_with u ts) (products rs ts) (with_within u ts a.0 b) (products_within rs ts a.1 b)

pub sum_bounded : (a b : Sides) → Bounded a → Bounded b → Bounded (sum_sides a b)
sum_bounded unlisted b h k = tt
sum_bounded (listed fs rs) unlisted h k = tt
sum_bounded (listed fs rs) (listed gs ts) h k =
    cond_both (nat_le (length (sum_flats fs rs gs ts)) 20000 && nat_le (length (rs ++ ts)) 1000) (listed (sum_flats fs rs gs ts) (rs ++ ts)) unlisted Bounded few (λ e. tt)
  where
    few : (nat_le (length (sum_flats fs rs gs ts)) 20000 && nat_le (length (rs ++ ts)) 1000) ≡ true → Few (sum_flats fs rs gs ts) (rs ++ ts)
    few e =
        let p = and_parts (nat_le (length (sum_flats fs rs gs ts)) 20000) (nat_le (length (rs ++ ts)) 1000) e in
        record {
          flats = leb-true (length (sum_flats fs rs gs ts)) 20000 p.0;
          ridges = leb-true (length (rs ++ ts)) 1000 p.1;
          flats_within = all_both (λ f. within 800000000 f ≡ true) (fs ++ gs) (products rs ts) (all_both (λ f. within 800000000 f ≡ true) fs gs h.flats_within k.flats_within) (products_within rs ts h.ridges_within k.ridges_within);
          ridges_within = all_both (λ u. within 20000 u ≡ true) rs ts h.ridges_within k.ridges_within;
        }

pub sum_lawful : (m o : Meaning) (a b : Sides) → Laws m a → Laws o b → Laws (sum_meaning m o) (sum_sides a b)
sum_lawful unfit o a b h k = tt
sum_lawful (corners A) unfit a b h k = tt
sum_lawful (corners A) (corners B) a b h k =
    cond_both (fits (sums A B)) (corners (sums A B)) unfit (λ m. Laws m (sum_sides a b)) (λ e. kept a b h k) (λ e. tt)
  where
    kept : (a b : Sides) → Laws (corners A) a → Laws (corners B) b → Laws (corners (sums A B)) (sum_sides a b)
    kept unlisted b h k = tt
    kept (listed fs rs) unlisted h k = tt
    kept (listed fs rs) (listed gs ts) h k =
        cond_both (nat_le (length (sum_flats fs rs gs ts)) 20000 && nat_le (length (rs ++ ts)) 1000) (listed (sum_flats fs rs gs ts) (rs ++ ts)) unlisted (Laws (corners (sums A B)))
        (λ e. sum_keeps_laws A fs rs B gs ts h k) (λ e. tt)
