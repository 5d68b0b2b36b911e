-- A direction with no positive product tilts, at most twice, to a face with none; where every product was negative, every product stays so.
use Rattle.std.proofs.Common.{◌≡◌, ◌⊎◌, List, [], ◌∷◌, ℤ, pos, ◌-ℤ◌, ◌*ℤ◌, neg_ℤ, ◌≤ℤ◌, ◌<ℤ◌, sym, ap, ◌∙◌, inl, inr, arith}
use lib.IntN.{ℤ_discrete}
use Rattle.std.specs.List.{AllByRecursion}
use Rattle.std.proofs.ByRecursion.{All-weaker}
use Rattle.vector.specs.declared.Vector.{Vector}
use Rattle.vector.specs.Vectors.{◌·◌, ◌⨯◌, ◌-ᵛ◌, negᵛ, 𝟎}
use Rattle.vector.proofs.Order.{lin, Sign, minus, nought, plus, sign, le_or_lt, mul_nonneg, mul_neg, cancel_le, cancel_lt, times_nought, nought_times, neg-times}
use Rattle.vector.proofs.Identities.{vector_discrete, neg-dot, dot_nothing, at_right_angles, cross_first, cross_second, cross_nonzero, triple, independent}
use Rattle.convex.specs.Points.{◌∈◌}
use Rattle.convex.specs.Products.{Top}
use Rattle.convex.specs.Faces.{Face}
use Rattle.convex.specs.Theorems.{DirectionTiltsToFace}
use Rattle.convex.proofs.Members.{all_in, find}
use Rattle.convex.proofs.Directions.{Weak, Strict, Round, seen, from_seen, weak_seen, top_seen, level_minus, round_seen}
use Rattle.convex.proofs.Tops.{top_from}
use Rattle.convex.proofs.Turning.{turn, turn_own, turn_kept, Ready, Turns, turns, opposite_turns}
use Rattle.convex.proofs.Products.{highest}

-- ---- one tilt
-- m rests on v, which n did not touch, and on all that both n and e touch; at z it is no higher than n lets it be
record Tilted (n e z : Vector) (L : List Vector) : Type 0 where
  m : Vector
  nonzero : ¬ (m ≡ 𝟎)
  kept : (u : Vector) → n · u ≡ pos 0 → e · u ≡ pos 0 → m · u ≡ pos 0
  low : Weak m L
  z_low : (m · z) ≤ℤ pos 0
  z_strict : (n · z) <ℤ pos 0 → (m · z) <ℤ pos 0
  v : Vector
  v_in : v ∈ L
  v_low : (n · v) <ℤ pos 0
  v_tight : m · v ≡ pos 0

module _ (n e z : Vector) (L : List Vector) (t : Turns n e L) where
  upward : (turn n e t.up.v · z) ≤ℤ pos 0 → ((n · z) <ℤ pos 0 → (turn n e t.up.v · z) <ℤ pos 0) → Tilted n e z L
  upward h k = record {
    m = turn n e t.up.v;
    nonzero = t.up_nonzero;
    kept = λ u p q. turn_kept n e t.up.v u p q;
    low = t.up.all;
    z_low = h;
    z_strict = k;
    v = t.up.v;
    v_in = t.up.v_in;
    v_low = t.up.v_low;
    v_tight = turn_own n e t.up.v;
  }

  downward : (turn n (negᵛ e) t.down.v · z) ≤ℤ pos 0 → ((n · z) <ℤ pos 0 → (turn n (negᵛ e) t.down.v · z) <ℤ pos 0) → Tilted n e z L
  downward h k = record {
    m = turn n (negᵛ e) t.down.v;
    nonzero = t.down_nonzero;
    kept = λ u p q. turn_kept n (negᵛ e) t.down.v u p (omega (arith, lin, neg-dot e u, q));
    low = t.down.all;
    z_low = h;
    z_strict = k;
    v = t.down.v;
    v_in = t.down.v_in;
    v_low = t.down.v_low;
    v_tight = turn_own n (negᵛ e) t.down.v;
  }

  -- where turning up does not lower z, turning down does: A, M, N are the products of n at the two rests and at z, and b, c, t those of the turns
  falls : (A M N b c t : ℤ) → neg_ℤ A *ℤ t ≡ M *ℤ b -ℤ N *ℤ c → A <ℤ pos 0 → M <ℤ pos 0 → pos 0 ≤ℤ b → N <ℤ pos 0 → c <ℤ pos 0 → t <ℤ pos 0
  falls A M N b c t e h_a h_m hb h_n hc =
      cancel_lt (neg_ℤ A) t (pos 0) (omega (arith, lin))
      (omega (arith, lin, times_nought (neg_ℤ A), mul_nonneg (neg_ℤ M) b (omega (arith, lin)) hb, mul_neg (neg_ℤ N) c (omega (arith, lin)) hc, neg-times M b, neg-times N c))

  rests : (A M N b c t : ℤ) → neg_ℤ A *ℤ t ≡ M *ℤ b -ℤ N *ℤ c → A <ℤ pos 0 → M <ℤ pos 0 → pos 0 ≤ℤ b → N ≡ pos 0 → t ≤ℤ pos 0
  rests A M N b c t e h_a h_m hb h_n =
      cancel_le (neg_ℤ A) t (pos 0) (omega (arith, lin))
      (omega (arith, lin, times_nought (neg_ℤ A), mul_nonneg (neg_ℤ M) b (omega (arith, lin)) hb, neg-times M b, ap (λ x. x *ℤ c) h_n ∙ nought_times c))

  tilt : (n · z) ≤ℤ pos 0 → Tilted n e z L
  tilt zl = go (sign (n · z)) (le_or_lt (pos 0) (turn n e a · z))
    where
      a : Vector
      a = t.up.v

      b : Vector
      b = t.down.v

      go : Sign (n · z) → (pos 0 ≤ℤ (turn n e a · z)) ⊎ ((turn n e a · z) <ℤ pos 0) → Tilted n e z L
      go s (inr h) = upward (omega (arith, lin)) (λ _. h)
      go (minus h) (inl k) =
          let r = falls (n · a) (n · b) (n · z) (turn n e a · z) (turn n e a · b) (turn n (negᵛ e) b · z) (opposite_turns n e a b z) t.up.v_low t.down.v_low k h t.apart in
          downward (omega (arith, lin)) (λ _. r)
      go (nought h) (inl k) =
          downward (rests (n · a) (n · b) (n · z) (turn n e a · z) (turn n e a · b) (turn n (negᵛ e) b · z) (opposite_turns n e a b z) t.up.v_low t.down.v_low k h) (λ l. absurd (omega (arith, lin)))
      go (plus h) (inl k) = absurd (omega (arith, lin))

-- ---- at most two tilts
-- m rests on two vectors that are not on one line
record Resting (n z : Vector) (L : List Vector) : Type 0 where
  m : Vector
  nonzero : ¬ (m ≡ 𝟎)
  low : Weak m L
  z_low : (m · z) ≤ℤ pos 0
  z_strict : (n · z) <ℤ pos 0 → (m · z) <ℤ pos 0
  u : Vector
  v : Vector
  u_in : u ∈ L
  v_in : v ∈ L
  u_tight : m · u ≡ pos 0
  v_tight : m · v ≡ pos 0
  spread : ¬ (u ⨯ v ≡ 𝟎)

-- n is 0 at v, and v has a further property
touches : (n : Vector) (Q : Vector → Type 0) → ((v : Vector) → Dec (Q v)) → (v : Vector) → Dec ((n · v ≡ pos 0) × (¬ (Q v)))
touches n Q d v = both (ℤ_discrete (n · v) (pos 0)) (d v)
  where
    both : Dec (n · v ≡ pos 0) → Dec (Q v) → Dec ((n · v ≡ pos 0) × (¬ (Q v)))
    both (yes p) (yes q) = no (λ r. r.1 q)
    both (yes p) (no q) = yes (p, q)
    both (no p) q = no (λ r. p r.0)

-- where n is 0 only at vectors with Q, and e is 0 at those
all_ready : (n e : Vector) (Q : Vector → Type 0) → ((v : Vector) → Dec (Q v)) → ((v : Vector) → Q v → e · v ≡ pos 0)
    → (K : List Vector) → Weak n K → AllByRecursion (λ v. ¬ ((n · v ≡ pos 0) × (¬ (Q v)))) K → AllByRecursion (Ready n e) K
all_ready n e Q d f [] w a = tt
all_ready n e Q d f (v ∷ K) w a = (record { low = w.0; tight = λ p. elim (d v) [ yes q ↦ f v q | no q ↦ absurd (a.0 (p, q)) ] }, all_ready n e Q d f K w.1 a.1)

not_zero : (a : ℤ) → a <ℤ pos 0 → ¬ (a ≡ pos 0)
not_zero a h e = absurd (omega (arith, lin))

-- where n touches u, not 0: at most one tilt
one_tilt : (n z : Vector) (L : List Vector) → ¬ (n ≡ 𝟎) → Weak n L → Round L → (n · z) ≤ℤ pos 0
    → (u : Vector) → u ∈ L → ¬ (u ≡ 𝟎) → n · u ≡ pos 0 → Resting n z L
one_tilt n z L n≠ low round zl u u_in u≠ u_tight = go (find (λ v. (n · v ≡ pos 0) × (¬ (u ⨯ v ≡ 𝟎))) (touches n (λ v. u ⨯ v ≡ 𝟎) on_line) L)
  where
    on_line : (v : Vector) → Dec (u ⨯ v ≡ 𝟎)
    on_line v = vector_discrete (u ⨯ v) 𝟎

    e : Vector
    e = n ⨯ u

    go : ((v : Vector) × v ∈ L × ((n · v ≡ pos 0) × (¬ (u ⨯ v ≡ 𝟎)))) ⊎ AllByRecursion (λ v. ¬ ((n · v ≡ pos 0) × (¬ (u ⨯ v ≡ 𝟎)))) L → Resting n z L
    go (inl r) = record {
      m = n;
      nonzero = n≠;
      low = low;
      z_low = zl;
      z_strict = λ h. h;
      u = u;
      v = r.0;
      u_in = u_in;
      v_in = r.1;
      u_tight = u_tight;
      v_tight = r.2.0;
      spread = r.2.1;
    }
    go (inr a) =
        let ready = all_ready n e (λ v. u ⨯ v ≡ 𝟎) on_line (λ v q. triple n u v ∙ dot_nothing n (u ⨯ v) q) L low a in
        let t = tilt n e z L (turns n e L n≠ (cross_nonzero n u n≠ u≠ u_tight) (cross_first n u) ready round) zl in
        record {
          m = t.m;
          nonzero = t.nonzero;
          low = t.low;
          z_low = t.z_low;
          z_strict = t.z_strict;
          u = u;
          v = t.v;
          u_in = u_in;
          v_in = t.v_in;
          u_tight = t.kept u u_tight (cross_second n u);
          v_tight = t.v_tight;
          spread = independent n u t.v u≠ u_tight (not_zero (n · t.v) t.v_low);
        }

rest : (n z : Vector) (L : List Vector) → ¬ (n ≡ 𝟎) → Weak n L → Round L → (n · z) ≤ℤ pos 0 → Resting n z L
rest n z L n≠ low round zl = go (find (λ v. (n · v ≡ pos 0) × (¬ (v ≡ 𝟎))) (touches n (λ v. v ≡ 𝟎) (λ v. vector_discrete v 𝟎)) L)
  where
    e : (e : Vector) × (¬ (e ≡ 𝟎)) × (e · n ≡ pos 0)
    e = at_right_angles n n≠

    go : ((v : Vector) × v ∈ L × ((n · v ≡ pos 0) × (¬ (v ≡ 𝟎)))) ⊎ AllByRecursion (λ v. ¬ ((n · v ≡ pos 0) × (¬ (v ≡ 𝟎)))) L → Resting n z L
    go (inl r) = one_tilt n z L n≠ low round zl r.0 r.1 r.2.1 r.2.0
    go (inr a) =
        let ready = all_ready n e.0 (λ v. v ≡ 𝟎) (λ v. vector_discrete v 𝟎) (λ v q. dot_nothing e.0 v q) L low a in
        let t = tilt n e.0 z L (turns n e.0 L n≠ e.1 e.2 ready round) zl in
        let s = one_tilt t.m z L t.nonzero t.low round t.z_low t.v t.v_in (λ q. not_zero (n · t.v) t.v_low (dot_nothing n t.v q)) t.v_tight in
        record {
          m = s.m;
          nonzero = s.nonzero;
          low = s.low;
          z_low = s.z_low;
          z_strict = λ h. s.z_strict (t.z_strict h);
          u = s.u;
          v = s.v;
          u_in = s.u_in;
          v_in = s.v_in;
          u_tight = s.u_tight;
          v_tight = s.v_tight;
          spread = s.spread;
        }

-- ---- the theorem, seen from a corner with the greatest product
pub tilts_to_face : DirectionTiltsToFace
tilts_to_face [] n span n≠ low = absurd (span n n≠ (pos 0) tt)
tilts_to_face (d ∷ ds) n span n≠ low = (s.m, face, weak, strict)
  where
    h : (q : Vector) × Top n (d ∷ ds) q
    h = highest n d ds

    q : Vector
    q = h.0

    s : Resting n q (seen q (d ∷ ds))
    s = rest n q (seen q (d ∷ ds)) n≠ (weak_seen n q (d ∷ ds) h.1.most) (round_seen q (d ∷ ds) span) (all_in (λ r. (n · r) ≤ℤ pos 0) (d ∷ ds) low q h.1.member)

    top : Top s.m (d ∷ ds) q
    top = top_seen s.m q (d ∷ ds) h.1.member s.low

    b : (p : Vector) × p ∈ (d ∷ ds) × (s.u ≡ p -ᵛ q)
    b = from_seen q (d ∷ ds) s.u s.u_in

    c : (p : Vector) × p ∈ (d ∷ ds) × (s.v ≡ p -ᵛ q)
    c = from_seen q (d ∷ ds) s.v s.v_in

    also : (p v : Vector) → p ∈ (d ∷ ds) → v ≡ p -ᵛ q → s.m · v ≡ pos 0 → Top s.m (d ∷ ds) p
    also p v i e k = top_from s.m (d ∷ ds) q p top i (level_minus s.m p q (ap (λ (t : Vector). s.m · t) (sym e) ∙ k))

    face : Face s.m (d ∷ ds)
    face = record {
      nonzero = s.nonzero;
      p = q;
      q = b.0;
      r = c.0;
      p_top = top;
      q_top = also b.0 s.u b.1 b.2 s.u_tight;
      r_top = also c.0 s.v c.1 c.2 s.v_tight;
      spread = λ e. s.spread ((λ i. b.2 i ⨯ c.2 i) ∙ e);
    }

    weak : Weak s.m (d ∷ ds)
    weak = All-weaker (λ p. (s.m · p) ≤ℤ (s.m · q)) (λ p. (s.m · p) ≤ℤ pos 0) (λ p k. under (s.m · p) (s.m · q) k s.z_low) (d ∷ ds) top.most
      where
        under : (a b : ℤ) → a ≤ℤ b → b ≤ℤ pos 0 → a ≤ℤ pos 0
        under a b h k = omega (arith, lin)

    strict : Strict n (d ∷ ds) → Strict s.m (d ∷ ds)
    strict t = All-weaker (λ p. (s.m · p) ≤ℤ (s.m · q)) (λ p. (s.m · p) <ℤ pos 0) (λ p k. under (s.m · p) (s.m · q) k below) (d ∷ ds) top.most
      where
        under : (a b : ℤ) → a ≤ℤ b → b <ℤ pos 0 → a <ℤ pos 0
        under a b h k = omega (arith, lin)

        below : (s.m · q) <ℤ pos 0
        below = s.z_strict (all_in (λ r. (n · r) <ℤ pos 0) (d ∷ ds) t q h.1.member)
