-- An edge of a spanning list lies in two faces, which share no corner off the edge, and in no third.
use Rattle.std.proofs.Common.{◌≡◌, ◌⊎◌, List, [], ◌∷◌, pos, neg_ℤ, ◌<ℤ◌, refl, ap, ◌∙◌, subst, inl, inr, arith}
use Rattle.vector.specs.declared.Vector.{Vector}
use Rattle.vector.specs.Vectors.{◌·◌, ◌⨯◌, ◌-ᵛ◌, negᵛ, 𝟎}
use Rattle.vector.proofs.Order.{lin, minus, nought, plus, sign}
use Rattle.vector.proofs.Identities.{◌⨯ₑ◌, ◌-ₑ◌, vec, env, ringᵛ}
use Rattle.vector.proofs.Identities.{neg-dot, cross_second, along_line, independent}
use Rattle.convex.specs.Points.{◌∈◌}
use Rattle.convex.specs.Products.{Top}
use Rattle.convex.specs.Faces.{InLine, Face, Edge}
use Rattle.convex.specs.Sides.{Multiple}
use Rattle.convex.specs.Theorems.{EdgeInTwoFaces}
use Rattle.convex.proofs.Directions.{Weak, weak_at, seen, in_seen, from_seen, weak_seen, top_seen, level_minus, round_seen}
use Rattle.convex.proofs.Lines.{apart, through}
use Rattle.convex.proofs.Tops.{level, top_from}
use Rattle.convex.proofs.Turning.{turn, Turns, turn_own, turn_kept}
use Rattle.convex.proofs.Edges.{Hinge, hinge_turns, turns_differ, turns_share, no_third_turn}

-- ---- points on one line
-- three points on the line of u through p are on one line
line_through : (u p a b c : Vector) → ¬ (u ≡ 𝟎) → u ⨯ (a -ᵛ p) ≡ 𝟎 → u ⨯ (b -ᵛ p) ≡ 𝟎 → u ⨯ (c -ᵛ p) ≡ 𝟎 → InLine a b c
line_through u p a b c u≠ ha hb hc = through u (b -ᵛ a) (c -ᵛ a) u≠ (less u p a b ∙ (λ i. hb i -ᵛ ha i)) (less u p a c ∙ (λ i. hc i -ᵛ ha i))
  where
    less : (u p a b : Vector) → u ⨯ (b -ᵛ a) ≡ u ⨯ (b -ᵛ p) -ᵛ u ⨯ (a -ᵛ p)
    less u p a b = ringᵛ (env (u ∷ p ∷ a ∷ b ∷ []) []) (vec 0 ⨯ₑ (vec 3 -ₑ vec 2)) (vec 0 ⨯ₑ (vec 3 -ₑ vec 1) -ₑ vec 0 ⨯ₑ (vec 2 -ₑ vec 1)) refl refl refl

-- ---- an edge, seen from its first corner
module _ (cs : List Vector) (n : Vector) (e : Edge n cs) where
  abbrev ridge : Vector
  ridge = e.q -ᵛ e.p

  abbrev around : List Vector
  around = seen e.p cs

  ridge_nonzero : ¬ (ridge ≡ 𝟎)
  ridge_nonzero = apart e.p e.q e.differ

  hinge : Hinge n ridge around
  hinge = record {
    n_nonzero = e.nonzero;
    u_nonzero = ridge_nonzero;
    along = level n cs e.p e.q e.p_top e.q_top;
    low = weak_seen n e.p cs e.p_top.most;
    only = λ v h. on_ridge v (from_seen e.p cs v h);
  }
    where
      on_ridge : (v : Vector) → (c : Vector) × c ∈ cs × (v ≡ c -ᵛ e.p) → n · v ≡ pos 0 → ridge ⨯ v ≡ 𝟎
      on_ridge v (c, h, is) z = ap (λ (t : Vector). ridge ⨯ t) is
          ∙ e.line c (top_from n cs e.p c e.p_top h (level_minus n c e.p (subst (λ (t : Vector). n · t ≡ pos 0) is z)))

  -- a direction with no positive product, and 0 along the ridge, has the edge's corners among its own
  holds_edge : (m : Vector) → Weak m around → m · ridge ≡ pos 0 → (c : Vector) → Top n cs c → Top m cs c
  holds_edge m low at c t = top_from m cs e.p c (top_seen m e.p cs e.p_top.member low) t.member
      (level_minus m c e.p (along_line ridge (c -ᵛ e.p) m ridge_nonzero (e.line c t) at))

  -- and where it is 0 at one more vector, at which n is below 0, it is a face
  face_on : (m v : Vector) → ¬ (m ≡ 𝟎) → Weak m around → m · ridge ≡ pos 0 → v ∈ around → (n · v) <ℤ pos 0 → m · v ≡ pos 0 → Face m cs
  face_on m v m≠ low at v_in v_low at_v = go (from_seen e.p cs v v_in)
    where
      go : (c : Vector) × c ∈ cs × (v ≡ c -ᵛ e.p) → Face m cs
      go (c, h, is) = record {
        nonzero = m≠;
        p = e.p;
        q = e.q;
        r = c;
        p_top = holds_edge m low at e.p e.p_top;
        q_top = holds_edge m low at e.q e.q_top;
        r_top = top_from m cs e.p c (holds_edge m low at e.p e.p_top) h (level_minus m c e.p (subst (λ (t : Vector). m · t ≡ pos 0) is at_v));
        spread = λ z. independent n ridge v ridge_nonzero hinge.along (λ k. omega (arith, lin, v_low, k)) (ap (λ (t : Vector). ridge ⨯ t) is ∙ z);
      }

  abbrev Off : Vector → Type 0
  Off c = (n · (c -ᵛ e.p)) <ℤ pos 0

  -- a face has a corner off the edge
  off_edge : (m : Vector) → Face m cs → (c : Vector) × Top m cs c × Off c
  off_edge m f = go (side f.p f.p_top) (side f.q f.q_top) (side f.r f.r_top)
    where
      side : (c : Vector) → Top m cs c → Off c ⊎ (ridge ⨯ (c -ᵛ e.p) ≡ 𝟎)
      side c t = let h = in_seen e.p cs c t.member in elim (sign (n · (c -ᵛ e.p))) [
        | minus k ↦ inl k
        | nought k ↦ inr (hinge.only (c -ᵛ e.p) h k)
        | plus k ↦ absurd (omega (arith, lin, k, weak_at n around hinge.low (c -ᵛ e.p) h))
      ]

      go : Off f.p ⊎ (ridge ⨯ (f.p -ᵛ e.p) ≡ 𝟎) → Off f.q ⊎ (ridge ⨯ (f.q -ᵛ e.p) ≡ 𝟎) → Off f.r ⊎ (ridge ⨯ (f.r -ᵛ e.p) ≡ 𝟎) → (c : Vector) × Top m cs c × Off c
      go (inl h) b c = (f.p, f.p_top, h)
      go (inr a) (inl h) c = (f.q, f.q_top, h)
      go (inr a) (inr b) (inl h) = (f.r, f.r_top, h)
      go (inr a) (inr b) (inr c) = absurd (f.spread (line_through ridge e.p f.p f.q f.r ridge_nonzero a b c))

pub edge_in_two_faces : EdgeInTwoFaces
edge_in_two_faces cs span n e = record {
  m₁ = m₁;
  m₂ = m₂;
  face₁ = face_on cs n e m₁ t.up.v t.up_nonzero t.up.all at₁ t.up.v_in t.up.v_low (turn_own n across t.up.v);
  face₂ = face_on cs n e m₂ t.down.v t.down_nonzero t.down.all at₂ t.down.v_in t.down.v_low (turn_own n (negᵛ across) t.down.v);
  on₁ = on₁;
  on₂ = on₂;
  two = turns_differ n across L t;
  no_third = no_third;
  shared = shared;
}
  where
    u : Vector
    u = ridge cs n e

    L : List Vector
    L = around cs n e

    g : Hinge n u L
    g = hinge cs n e

    across : Vector
    across = n ⨯ u

    t : Turns n across L
    t = hinge_turns n u L g (round_seen e.p cs span)

    m₁ : Vector
    m₁ = turn n across t.up.v

    m₂ : Vector
    m₂ = turn n (negᵛ across) t.down.v

    at₁ : m₁ · u ≡ pos 0
    at₁ = turn_kept n across t.up.v u g.along (cross_second n u)

    at₂ : m₂ · u ≡ pos 0
    at₂ = turn_kept n (negᵛ across) t.down.v u g.along (neg-dot across u ∙ ap neg_ℤ (cross_second n u))

    on₁ : (c : Vector) → Top n cs c → Top m₁ cs c
    on₁ = holds_edge cs n e m₁ t.up.all at₁

    on₂ : (c : Vector) → Top n cs c → Top m₂ cs c
    on₂ = holds_edge cs n e m₂ t.down.all at₂

    -- as high as the first corner of the edge
    as_edge : (m c : Vector) → Top m cs c → Top m cs e.p → m · (c -ᵛ e.p) ≡ pos 0
    as_edge m c s k = level m cs e.p c k s

    no_third : (m : Vector) → Face m cs → Top m cs e.p → Top m cs e.q → Multiple m m₁ ⊎ Multiple m m₂
    no_third m f p_top q_top = go (off_edge cs n e m f)
      where
        go : (c : Vector) × Top m cs c × Off cs n e c → Multiple m m₁ ⊎ Multiple m m₂
        go (c, c_top, off) = no_third_turn n m (c -ᵛ e.p) L e.nonzero (weak_seen m e.p cs p_top.most) (in_seen e.p cs c c_top.member) off
            (as_edge m c c_top p_top) u g.u_nonzero g.along f.nonzero (as_edge m e.q q_top p_top) t

    shared : (c : Vector) → Top m₁ cs c → Top m₂ cs c → Top n cs c
    shared c c₁ c₂ = top_from n cs e.p c e.p_top c₁.member (level_minus n c e.p
        (turns_share n across L t (c -ᵛ e.p) (as_edge m₁ c c₁ (on₁ e.p e.p_top)) (as_edge m₂ c c₂ (on₂ e.p e.p_top))))
