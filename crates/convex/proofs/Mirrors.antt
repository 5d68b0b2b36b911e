-- A mirrored list keeps the laws: its faces and edges, for n, are those of the list for the opposite of n, mirrored.
use Rattle.std.proofs.Common.{◌≡◌, List, [], ◌∷◌, sym, refl, ap, ◌∙◌, subst}
use Rattle.vector.specs.declared.Vector.{Vector}
use Rattle.vector.specs.Vectors.{◌⨯◌, ◌-ᵛ◌, negᵛ}
use Rattle.vector.proofs.Identities.{◌⨯ₑ◌, ◌-ₑ◌, negₑ, vec, env, ringᵛ, neg-neg}
use Rattle.convex.specs.Faces.{InLine, Face, Edge}
use Rattle.convex.specs.Sides.{FlatLaw, RidgeLaw, mirrored}
use Rattle.convex.specs.Theorems.{MirrorKeepsLaws}
use Rattle.convex.proofs.Members.{in_map}
use Rattle.convex.proofs.Lines.{neg_nonzero, turned_multiple}
use Rattle.convex.proofs.Tops.{mirror_top, top_of_mirror}

turned_line : (p q r : Vector) → (negᵛ q -ᵛ negᵛ p) ⨯ (negᵛ r -ᵛ negᵛ p) ≡ (q -ᵛ p) ⨯ (r -ᵛ p)
turned_line p q r = ringᵛ (env (p ∷ q ∷ r ∷ []) [])
    ((negₑ (vec 1) -ₑ negₑ (vec 0)) ⨯ₑ (negₑ (vec 2) -ₑ negₑ (vec 0))) ((vec 1 -ₑ vec 0) ⨯ₑ (vec 2 -ₑ vec 0)) refl refl refl

module _ (n : Vector) (cs : List Vector) where
  turned_face : Face n (mirrored cs) → Face (negᵛ n) cs
  turned_face f = record {
    nonzero = neg_nonzero n f.nonzero;
    p = negᵛ f.p;
    q = negᵛ f.q;
    r = negᵛ f.r;
    p_top = top_of_mirror n cs f.p f.p_top;
    q_top = top_of_mirror n cs f.q f.q_top;
    r_top = top_of_mirror n cs f.r f.r_top;
    spread = λ h. f.spread (sym (turned_line f.p f.q f.r) ∙ h);
  }

  abbrev turned_edge : Edge n (mirrored cs) → Edge (negᵛ n) cs
  turned_edge e = record {
    nonzero = neg_nonzero n e.nonzero;
    p = negᵛ e.p;
    q = negᵛ e.q;
    p_top = top_of_mirror n cs e.p e.p_top;
    q_top = top_of_mirror n cs e.q e.q_top;
    differ = λ h. e.differ (sym (neg-neg e.p) ∙ ap negᵛ h ∙ neg-neg e.q);
    line = λ r t. subst (InLine (negᵛ e.p) (negᵛ e.q)) (neg-neg r) (turned_line e.p e.q (negᵛ r) ∙ e.line (negᵛ r) (mirror_top n cs r t));
  }

pub mirror_keeps_laws : MirrorKeepsLaws
mirror_keeps_laws cs fs rs s = record { flats = flats; ridges = ridges }
  where
    flats : FlatLaw (mirrored cs) (mirrored fs)
    flats n f =
        let r = s.flats (negᵛ n) (turned_face n cs f) in
        (negᵛ r.0, in_map negᵛ fs r.0 r.1, turned_multiple n r.0 r.2)

    ridges : RidgeLaw (mirrored cs) rs
    ridges n e =
        let r = s.ridges (negᵛ n) (turned_edge n cs e) in
        (r.0, r.1, r.2, turned r.0 e.p e.q ∙ ap negᵛ r.3)
      where
        turned : (u p q : Vector) → u ⨯ (q -ᵛ p) ≡ negᵛ (u ⨯ (negᵛ q -ᵛ negᵛ p))
        turned u p q = ringᵛ (env (u ∷ p ∷ q ∷ []) []) (vec 0 ⨯ₑ (vec 2 -ₑ vec 1)) (negₑ (vec 0 ⨯ₑ (negₑ (vec 2) -ₑ negₑ (vec 1)))) refl refl refl
