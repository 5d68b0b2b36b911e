-- Five corners that yield a mixture are one: with the absolute determinants as weights, both sides have one total, at least 1, and one sum.
use Rattle.std.proofs.Common.{◌≡◌, ℕ, ◌+◌, ◌<◌, ◌≤◌, Bool, true, false, not, List, [], ◌∷◌, ◌++◌, length, get_or, take, drop, ℤ, pos, ◌+ℤ◌, ◌*ℤ◌, nat_abs, ◌≤ℤ◌, sym, refl, ap, ◌∙◌, subst, inl, inr, arith}
use lib.ListN.{length-map}
use Rattle.std.specs.List.{AllByRecursion}
use Rattle.std.proofs.lemmas.Int.{ints}
use Rattle.std.proofs.ByRecursion.{All-map}
use Rattle.std.proofs.lemmas.List.{take-append-drop, length-take, length-drop, length-append}
use Rattle.std.proofs.lemmas.Bool.{or_cases, false≢true}
use Rattle.vector.specs.declared.Vector.{Vector}
use Rattle.vector.specs.Vectors.{◌+ᵛ◌, ◌∗◌, 𝟎}
use Rattle.vector.proofs.Order.{lin}
use Rattle.vector.proofs.Identities.{same_vector}
use Rattle.convex.specs.Points.{total, weighted, entries_total, entries_sum}
use Rattle.convex.specs.Fives.{some_of, has_sign, dets, yields, chosen, entries}
use Rattle.convex.specs.Theorems.{FiveCornersMix}
use Rattle.convex.proofs.Relations.{sum, combine, NoneBelow, sum-append, combine-append, scale, scale_sum, scale_combine, naturals, naturals_total, naturals_weighted}
use Rattle.convex.proofs.Determinants.{dets-sum, dets-combine}
use Rattle.convex.proofs.Signs.{side, side_true, side_false, Leans, Opposed, opposed_is}

-- ---- absolute weights, where none is below 0 or none above
turned_abs : (b : Bool) (ds : List ℤ) → naturals (scale (side b) ds) ≡ naturals ds
turned_abs b [] = refl
turned_abs b (d ∷ ds) = λ i. same b d i ∷ turned_abs b ds i
  where
    same : (b : Bool) (d : ℤ) → nat_abs (side b *ℤ d) ≡ nat_abs d
    same true d = ap nat_abs (side_true d)
    same false d = omega (arith, lin, side_false d)

leaning : (b : Bool) (ds : List ℤ) → Leans b ds → NoneBelow (scale (side b) ds)
leaning b ds h = All-map (λ d. pos 0 ≤ℤ d) (λ d. side b *ℤ d) ds h

abs_total : (b : Bool) (ds : List ℤ) → Leans b ds → pos (total (naturals ds)) ≡ side b *ℤ sum ds
abs_total b ds h = ap (λ (t : List ℕ). pos (total t)) (sym (turned_abs b ds)) ∙ naturals_total (scale (side b) ds) (leaning b ds h) ∙ scale_sum (side b) ds

abs_weighted : (b : Bool) (ds : List ℤ) (P : List Vector) → Leans b ds → weighted (naturals ds) P ≡ side b ∗ combine ds P
abs_weighted b ds P h = ap (λ (t : List ℕ). weighted t P) (sym (turned_abs b ds)) ∙ naturals_weighted (scale (side b) ds) P (leaning b ds h) ∙ scale_combine (side b) ds P

counts : (d : ℤ) → has_sign d ≡ true → 1 ≤ nat_abs d
counts d h = grind (arith, ints)

some_total : (ds es : List ℤ) → some_of has_sign (ds ++ es) ≡ true → 1 ≤ total (naturals ds) + total (naturals es)
some_total [] [] h = absurd (false≢true h)
some_total [] (e ∷ es) h = elim (or_cases (has_sign e) (some_of has_sign es) h) [ inl k ↦ omega (arith, counts e k) | inr k ↦ omega (arith, some_total [] es k) ]
some_total (d ∷ ds) es h = elim (or_cases (has_sign d) (some_of has_sign (ds ++ es)) h) [ inl k ↦ omega (arith, counts d k) | inr k ↦ omega (arith, some_total ds es k) ]

-- ---- two lists of weights that lean apart
-- one total, at least 1, and one sum
abbrev pub SameMean : List ℕ → List ℕ → List Vector → List Vector → Type 0
SameMean ws vs P Q = (total ws ≡ total vs) × (1 ≤ total ws) × (weighted ws P ≡ weighted vs Q)

mixture : (ds es : List ℤ) (P Q : List Vector) → Opposed ds es → sum ds +ℤ sum es ≡ pos 0 → combine ds P +ᵛ combine es Q ≡ 𝟎
    → SameMean (naturals ds) (naturals es) P Q
mixture ds es P Q o s c = (same_total, omega (arith, same_total, some_total ds es o.some), same_sum)
  where
    apart : (b : Bool) (u v : ℤ) → u +ℤ v ≡ pos 0 → side b *ℤ u ≡ side (not b) *ℤ v
    apart true u v h = omega (arith, lin, side_true u, side_false v)
    apart false u v h = omega (arith, lin, side_false u, side_true v)

    same_total : total (naturals ds) ≡ total (naturals es)
    same_total = ap nat_abs (abs_total o.lean ds o.first ∙ apart o.lean (sum ds) (sum es) s ∙ sym (abs_total (not o.lean) es o.second))

    same_sum : weighted (naturals ds) P ≡ weighted (naturals es) Q
    same_sum = abs_weighted o.lean ds P o.first
        ∙ same_vector
        (apart o.lean (combine ds P).x (combine es Q).x (ap (λ (v : Vector). v.x) c))
        (apart o.lean (combine ds P).y (combine es Q).y (ap (λ (v : Vector). v.y) c))
        (apart o.lean (combine ds P).z (combine es Q).z (ap (λ (v : Vector). v.z) c))
        ∙ sym (abs_weighted (not o.lean) es Q o.second)

-- five points that yield a mixture
pub five_points_mix : (ps qs : List Vector) → length ps + length qs ≡ 5 → yields ps qs ≡ true
    → SameMean (naturals (take (length ps) (dets (ps ++ qs)))) (naturals (drop (length ps) (dets (ps ++ qs)))) ps qs
five_points_mix ps qs h y = mixture ds es ps qs (opposed_is ds es y)
    (sym (sum-append ds es) ∙ ap sum joined ∙ dets-sum (ps ++ qs))
    (sym (combine-append ds es ps qs (length-take (length ps) (dets (ps ++ qs)) ∙ omega arith))
    ∙ ap (λ (t : List ℤ). combine t (ps ++ qs)) joined ∙ dets-combine (ps ++ qs) (length-append ps qs ∙ h))
  where
    ds : List ℤ
    ds = take (length ps) (dets (ps ++ qs))

    es : List ℤ
    es = drop (length ps) (dets (ps ++ qs))

    joined : ds ++ es ≡ dets (ps ++ qs)
    joined = take-append-drop (length ps) (dets (ps ++ qs))

-- ---- the entries of the mixture
entries_of : (cs : List Vector) (is : List ℕ) (ds : List ℤ) → length is ≡ length ds → (entries_total (entries is ds) ≡ total (naturals ds)) × (entries_sum cs (entries is ds) ≡ weighted (naturals ds) (chosen cs is))
entries_of cs [] [] h = (refl, refl)
entries_of cs [] (d ∷ ds) h = absurd (omega arith)
entries_of cs (i ∷ is) [] h = absurd (omega arith)
entries_of cs (i ∷ is) (d ∷ ds) h =
    let r = entries_of cs is ds (omega arith) in
    (ap (λ t. nat_abs d + t) r.0, ap (λ (t : Vector). pos (nat_abs d) ∗ get_or cs i 𝟎 +ᵛ t) r.1)

entries_within : (k : ℕ) (is : List ℕ) (ds : List ℤ) → AllByRecursion (λ i. i < k) is → AllByRecursion (λ e. e.corner < k) (entries is ds)
entries_within k [] ds h = tt
entries_within k (i ∷ is) [] h = tt
entries_within k (i ∷ is) (d ∷ ds) h = (h.0, entries_within k is ds h.1)

pub five_corners_mix : FiveCornersMix
five_corners_mix A B f = record {
  in_first = entries_within (length A) f.first ds f.of_first.within;
  in_second = entries_within (length B) f.second es f.of_second.within;
  same_total = x.0 ∙ m.0 ∙ sym y.0;
  some = subst (λ t. 1 ≤ t) (sym x.0) m.1;
  same_sum = x.1 ∙ m.2 ∙ sym y.1;
}
  where
    all : List ℤ
    all = dets (chosen A f.first ++ chosen B f.second)

    ds : List ℤ
    ds = take (length f.first) all

    es : List ℤ
    es = drop (length f.first) all

    many_first : length (chosen A f.first) ≡ length f.first
    many_first = length-map f.first (λ i. get_or A i 𝟎)

    many_second : length (chosen B f.second) ≡ length f.second
    many_second = length-map f.second (λ i. get_or B i 𝟎)

    m : SameMean (naturals ds) (naturals es) (chosen A f.first) (chosen B f.second)
    m = subst (λ n. SameMean (naturals (take n all)) (naturals (drop n all)) (chosen A f.first) (chosen B f.second))
        many_first (five_points_mix (chosen A f.first) (chosen B f.second) (omega (arith, many_first, many_second, f.many)) f.mixes)

    x : (entries_total (entries f.first ds) ≡ total (naturals ds)) × (entries_sum A (entries f.first ds) ≡ weighted (naturals ds) (chosen A f.first))
    x = entries_of A f.first ds (sym (length-take (length f.first) all ∙ omega (arith, f.many)))

    y : (entries_total (entries f.second es) ≡ total (naturals es)) × (entries_sum B (entries f.second es) ≡ weighted (naturals es) (chosen B f.second))
    y = entries_of B f.second es (sym (length-drop (length f.first) all ∙ omega (arith, f.many)))
