-- A shifted list keeps the laws: it is the sum with a single point, which has no face and no edge.
use Rattle.std.proofs.Common.{◌≡◌, List, [], ◌∷◌, ◌++◌, sym, refl, ap, ◌∙◌, subst, inl, inr}
use Rattle.std.proofs.lemmas.List.{append-nil}
use Rattle.vector.specs.declared.Vector.{Vector}
use Rattle.vector.specs.Vectors.{◌+ᵛ◌}
use Rattle.convex.specs.Points.{◌∈◌}
use Rattle.convex.specs.Sides.{Sided, shifted, sums, products, sum_flats}
use Rattle.convex.specs.Theorems.{ShiftKeepsLaws}
use Rattle.convex.proofs.Lines.{two_in_line}
use Rattle.convex.proofs.Sums.{sum_keeps_laws}

only : (v c : Vector) → c ∈ (v ∷ []) → c ≡ v
only v c (inl e) = e
only v c (inr h) = absurd h

point_sided : (v : Vector) → Sided (v ∷ []) [] []
point_sided v = record {
  flats = λ n f. absurd (f.spread (two_in_line f.p f.q f.r (only v f.p f.p_top.member ∙ sym (only v f.q f.q_top.member))));
  ridges = λ n e. absurd (e.differ (only v e.p e.p_top.member ∙ sym (only v e.q e.q_top.member)));
}

-- ---- the lists of the sum
shifted-sums : (v : Vector) (cs : List Vector) → sums cs (v ∷ []) ≡ shifted v cs
shifted-sums v [] = refl
shifted-sums v (c ∷ cs) = ap (λ (t : List Vector). (c +ᵛ v) ∷ t) (shifted-sums v cs)

no_products : (rs : List Vector) → products rs [] ≡ []
no_products [] = refl
no_products (u ∷ rs) = no_products rs

no_more_flats : (fs rs : List Vector) → sum_flats fs rs [] [] ≡ fs
no_more_flats fs rs = ap (λ (t : List Vector). fs ++ [] ++ t) (no_products rs) ∙ append-nil (fs ++ []) ∙ append-nil fs

pub shift_keeps_laws : ShiftKeepsLaws
shift_keeps_laws v cs fs rs s =
    subst (λ (x : List Vector). Sided x fs rs) (shifted-sums v cs)
    (subst (λ (x : List Vector). Sided (sums cs (v ∷ [])) x rs) (no_more_flats fs rs)
    (subst (Sided (sums cs (v ∷ [])) (sum_flats fs rs [] [])) (append-nil rs) (sum_keeps_laws cs fs rs (v ∷ []) [] [] s (point_sided v))))
