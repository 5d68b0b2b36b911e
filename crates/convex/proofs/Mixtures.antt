-- A mixture is a shared point: the weights of its entries, added up corner by corner, are the weights of a point of both lists; and back.
use Rattle.std.proofs.Common.{◌≡◌, ℕ, zero, suc, ◌+◌, ◌<◌, ◌≤◌, List, [], ◌∷◌, map, length, get_or, pos, nat_abs, ◌<ℤ◌, sym, refl, ap, ◌∙◌, subst, arith}
use Rattle.std.specs.List.{AllByRecursion}
use Rattle.vector.specs.declared.Vector.{Vector}
use Rattle.vector.specs.Vectors.{◌+ᵛ◌, ◌∗◌, 𝟎}
use Rattle.vector.proofs.Ring.{var, ◌⊕◌}
use Rattle.vector.proofs.Order.{lin}
use Rattle.vector.proofs.Identities.{◌+ₑ◌, ◌∗ₑ◌, vec, env, ringᵛ, no_times}
use Rattle.convex.specs.Points.{total, weighted, Entry, entries_total, entries_sum}
use Rattle.convex.specs.Theorems.{MixtureIsProof, PointIsMixture}
use Rattle.convex.proofs.Relations.{sum, Common, naturals, naturals_many, naturals_total, naturals_weighted}
use Rattle.convex.proofs.Sharing.{shared_from_weights, common_from_shared}

-- ---- from entries to weights
-- the weight w more at number i
abbrev more_at : ℕ → ℕ → List ℕ → List ℕ
more_at i w [] = []
more_at zero w (v ∷ vs) = (w + v) ∷ vs
more_at (suc i) w (v ∷ vs) = v ∷ more_at i w vs

more_many : (i w : ℕ) (vs : List ℕ) → length (more_at i w vs) ≡ length vs
more_many i w [] = refl
more_many zero w (v ∷ vs) = refl
more_many (suc i) w (v ∷ vs) = ap suc (more_many i w vs)

more_total : (i w : ℕ) (vs : List ℕ) → i < length vs → total (more_at i w vs) ≡ w + total vs
more_total i w [] h = absurd (omega arith)
more_total zero w (v ∷ vs) h = omega arith
more_total (suc i) w (v ∷ vs) h = omega (arith, more_total i w vs (omega arith))

more_weighted : (i w : ℕ) (vs : List ℕ) (cs : List Vector) → length vs ≡ length cs → i < length cs → weighted (more_at i w vs) cs ≡ pos w ∗ get_or cs i 𝟎 +ᵛ weighted vs cs
more_weighted i w [] [] e h = absurd (omega arith)
more_weighted i w [] (c ∷ cs) e h = absurd (omega arith)
more_weighted i w (v ∷ vs) [] e h = absurd (omega arith)
more_weighted zero w (v ∷ vs) (c ∷ cs) e h =
    ringᵛ (env (c ∷ weighted vs cs ∷ []) (pos w ∷ pos v ∷ [])) ((var 6 ⊕ var 7) ∗ₑ vec 0 +ₑ vec 1) (var 6 ∗ₑ vec 0 +ₑ (var 7 ∗ₑ vec 0 +ₑ vec 1)) refl refl refl
more_weighted (suc i) w (v ∷ vs) (c ∷ cs) e h = ap (λ (t : Vector). pos v ∗ c +ᵛ t) (more_weighted i w vs cs (omega arith) (omega arith))
    ∙ ringᵛ (env (c ∷ get_or cs i 𝟎 ∷ weighted vs cs ∷ []) (pos w ∷ pos v ∷ [])) (var 10 ∗ₑ vec 0 +ₑ (var 9 ∗ₑ vec 1 +ₑ vec 2)) (var 9 ∗ₑ vec 1 +ₑ (var 10 ∗ₑ vec 0 +ₑ vec 2)) refl refl refl

-- weights on a list with the total and the sum of the entries
record Spread (cs : List Vector) (es : List Entry) : Type 0 where
  weights : List ℕ
  one_each : length weights ≡ length cs
  same_total : total weights ≡ entries_total es
  same_sum : weighted weights cs ≡ entries_sum cs es

none_on : (cs : List Vector) → Spread cs []
none_on [] = record { weights = []; one_each = refl; same_total = refl; same_sum = refl }
none_on (c ∷ cs) = let r = none_on cs in record {
  weights = 0 ∷ r.weights;
  one_each = ap suc r.one_each;
  same_total = omega (arith, r.same_total);
  same_sum = no_times c (weighted r.weights cs) ∙ r.same_sum;
}

spread : (cs : List Vector) (es : List Entry) → AllByRecursion (λ e. e.corner < length cs) es → Spread cs es
spread cs [] h = none_on cs
spread cs (e ∷ es) h = let r = spread cs es h.1 in record {
  weights = more_at e.corner e.weight r.weights;
  one_each = more_many e.corner e.weight r.weights ∙ r.one_each;
  same_total = more_total e.corner e.weight r.weights (subst (λ n. e.corner < n) (sym r.one_each) h.0) ∙ ap (λ t. e.weight + t) r.same_total;
  same_sum = more_weighted e.corner e.weight r.weights cs r.one_each h.0 ∙ ap (λ (t : Vector). pos e.weight ∗ get_or cs e.corner 𝟎 +ᵛ t) r.same_sum;
}

pub mixture_is_proof : MixtureIsProof
mixture_is_proof A B es fs m =
    let x = spread A es m.in_first in
    let y = spread B fs m.in_second in
    shared_from_weights A B x.weights y.weights x.one_each y.one_each (subst (λ n. 1 ≤ n) (sym x.same_total) m.some)
    (x.same_total ∙ m.same_total ∙ sym y.same_total) (x.same_sum ∙ m.same_sum ∙ sym y.same_sum)

-- ---- from weights to entries
abbrev next : Entry → Entry
next e = record { corner = suc e.corner; weight = e.weight }

-- an entry for each corner
abbrev numbered : List ℕ → List Entry
numbered [] = []
numbered (w ∷ ws) = record { corner = 0; weight = w } ∷ map next (numbered ws)

next_total : (es : List Entry) → entries_total (map next es) ≡ entries_total es
next_total [] = refl
next_total (e ∷ es) = ap (λ t. e.weight + t) (next_total es)

next_sum : (c : Vector) (cs : List Vector) (es : List Entry) → entries_sum (c ∷ cs) (map next es) ≡ entries_sum cs es
next_sum c cs [] = refl
next_sum c cs (e ∷ es) = ap (λ (t : Vector). pos e.weight ∗ get_or cs e.corner 𝟎 +ᵛ t) (next_sum c cs es)

next_within : (k : ℕ) (es : List Entry) → AllByRecursion (λ e. e.corner < k) es → AllByRecursion (λ e. e.corner < suc k) (map next es)
next_within k [] h = tt
next_within k (e ∷ es) h = (omega (arith, h.0), next_within k es h.1)

numbered_total : (ws : List ℕ) → entries_total (numbered ws) ≡ total ws
numbered_total [] = refl
numbered_total (w ∷ ws) = ap (λ t. w + t) (next_total (numbered ws) ∙ numbered_total ws)

numbered-sum : (ws : List ℕ) (cs : List Vector) → length ws ≡ length cs → entries_sum cs (numbered ws) ≡ weighted ws cs
numbered-sum [] cs h = refl
numbered-sum (w ∷ ws) [] h = absurd (omega arith)
numbered-sum (w ∷ ws) (c ∷ cs) h = ap (λ (t : Vector). pos w ∗ c +ᵛ t) (next_sum c cs (numbered ws) ∙ numbered-sum ws cs (omega arith))

numbered_within : (ws : List ℕ) (k : ℕ) → length ws ≡ k → AllByRecursion (λ e. e.corner < k) (numbered ws)
numbered_within [] k h = tt
numbered_within (w ∷ ws) zero h = absurd (omega arith)
numbered_within (w ∷ ws) (suc k) h = (omega arith, next_within k (numbered ws) (numbered_within ws k (omega arith)))

pub point_is_mixture : PointIsMixture
point_is_mixture A B s = (
  numbered ws,
  numbered vs,
  record {
    in_first = numbered_within ws (length A) many_a;
    in_second = numbered_within vs (length B) many_b;
    same_total = numbered_total ws ∙ ap nat_abs (totals.0 ∙ c.same_total ∙ sym totals.1) ∙ sym (numbered_total vs);
    some = subst (λ t. 1 ≤ t) (sym (numbered_total ws)) (positive (total ws) (subst (λ t. pos 0 <ℤ t) (sym totals.0) c.some));
    same_sum = numbered-sum ws A many_a ∙ naturals_weighted c.on_a A c.nonneg_a ∙ c.same_point ∙ sym (numbered-sum vs B many_b ∙ naturals_weighted c.on_b B c.nonneg_b);
  },
)
  where
    c : Common A B
    c = common_from_shared A B s

    ws : List ℕ
    ws = naturals c.on_a

    vs : List ℕ
    vs = naturals c.on_b

    many_a : length ws ≡ length A
    many_a = naturals_many c.on_a ∙ c.many_a

    many_b : length vs ≡ length B
    many_b = naturals_many c.on_b ∙ c.many_b

    totals : (pos (total ws) ≡ sum c.on_a) × (pos (total vs) ≡ sum c.on_b)
    totals = (naturals_total c.on_a c.nonneg_a, naturals_total c.on_b c.nonneg_b)

    positive : (n : ℕ) → pos 0 <ℤ pos n → 1 ≤ n
    positive n h = omega (arith, lin)
