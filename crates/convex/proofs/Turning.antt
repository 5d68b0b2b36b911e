-- A direction n is turned towards e, or away from it, until its plane rests on one more vector of a list.
use Rattle.std.proofs.Common.{◌≡◌, ◌⊎◌, List, [], ◌∷◌, ℤ, pos, ◌-ℤ◌, ◌*ℤ◌, neg_ℤ, ◌≤ℤ◌, ◌<ℤ◌, sym, refl, ap, ◌∙◌, subst, inl, inr, arith}
use Rattle.std.specs.List.{AllByRecursion}
use Rattle.vector.specs.declared.Vector.{Vector}
use Rattle.vector.specs.Vectors.{◌·◌, ◌-ᵛ◌, ◌∗◌, negᵛ, 𝟎}
use Rattle.vector.proofs.Ring.{var, num, ◌⊗◌, ◌⊝◌, neg, ring}
use Rattle.vector.proofs.Order.{lin, Sign, minus, nought, plus, sign, mul_nonneg, mul_neg, mul_nonpos, cancel_le, times_nought, neg-times}
use Rattle.vector.proofs.Identities.{VectorExp, ◌·ₑ◌, ◌-ₑ◌, ◌∗ₑ◌, negₑ, vec, env, norm_pos, neg-dot, 𝟎-dot}
use Rattle.convex.specs.Points.{◌∈◌}
use Rattle.convex.proofs.Lines.{neg_nonzero}
use Rattle.convex.proofs.Directions.{Weak, weak_at, Round}

-- the direction in the plane of n and e that is 0 at v, on the side of e where n · v < 0
abbrev pub turn : Vector → Vector → Vector → Vector
turn n e v = (e · v) ∗ n -ᵛ (n · v) ∗ e

abbrev turnₑ : VectorExp → VectorExp → VectorExp → VectorExp
turnₑ n e v = (e ·ₑ v) ∗ₑ n -ₑ (n ·ₑ v) ∗ₑ e

pub turn_at : (n e v u : Vector) → turn n e v · u ≡ (e · v) *ℤ (n · u) -ℤ (n · v) *ℤ (e · u)
turn_at n e v u = ring (env (n ∷ e ∷ v ∷ u ∷ []) []) (turnₑ (vec 0) (vec 1) (vec 2) ·ₑ vec 3)
    ((vec 1 ·ₑ vec 2) ⊗ (vec 0 ·ₑ vec 3) ⊝ (vec 0 ·ₑ vec 2) ⊗ (vec 1 ·ₑ vec 3)) refl

pub turn_own : (n e v : Vector) → turn n e v · v ≡ pos 0
turn_own n e v = ring (env (n ∷ e ∷ v ∷ []) []) (turnₑ (vec 0) (vec 1) (vec 2) ·ₑ vec 2) (num (pos 0)) refl

-- where both n and e are 0
pub turn_kept : (n e v u : Vector) → n · u ≡ pos 0 → e · u ≡ pos 0 → turn n e v · u ≡ pos 0
turn_kept n e v u p q = turn_at n e v u ∙ (λ i. (e · v) *ℤ p i -ℤ (n · v) *ℤ q i)
    ∙ ring ((e · v) ∷ (n · v) ∷ []) (var 0 ⊗ num (pos 0) ⊝ var 1 ⊗ num (pos 0)) (num (pos 0)) refl

pub turn_nonzero : (n e v : Vector) → e · n ≡ pos 0 → ¬ (e ≡ 𝟎) → (n · v) <ℤ pos 0 → ¬ (turn n e v ≡ 𝟎)
turn_nonzero n e v o ne h q =
    scalars (e · v) (e · n) (n · v) (e · e) (turn n e v · e) (at_e n e v) o (norm_pos e ne) h (ap (λ (t : Vector). t · e) q ∙ 𝟎-dot e)
  where
    at_e : (n e v : Vector) → turn n e v · e ≡ (e · v) *ℤ (e · n) -ℤ (e · e) *ℤ (n · v)
    at_e n e v = ring (env (n ∷ e ∷ v ∷ []) []) (turnₑ (vec 0) (vec 1) (vec 2) ·ₑ vec 1) ((vec 1 ·ₑ vec 2) ⊗ (vec 1 ·ₑ vec 0) ⊝ (vec 1 ·ₑ vec 1) ⊗ (vec 0 ·ₑ vec 2)) refl

    scalars : (a b c d t : ℤ) → t ≡ a *ℤ b -ℤ d *ℤ c → b ≡ pos 0 → pos 0 <ℤ d → c <ℤ pos 0 → t ≡ pos 0 → ⊥
    scalars a b c d t p q r s z = omega (arith, lin, p, z, ap (λ x. a *ℤ x) q ∙ times_nought a, mul_neg d c r s)

-- ---- the greatest slope e · v ÷ (−n · v), by cross-multiplying
-- what n and e satisfy at each vector
pub record Ready (n e v : Vector) : Type 0 where
  pub low : (n · v) ≤ℤ pos 0
  pub tight : n · v ≡ pos 0 → e · v ≡ pos 0

-- the vector of greatest slope: turned until it rests on v, n has no positive product
pub record Steepest (n e : Vector) (L : List Vector) : Type 0 where
  pub v : Vector
  pub v_in : v ∈ L
  pub v_low : (n · v) <ℤ pos 0
  pub all : Weak (turn n e v) L

-- N = n · u and E = e · u, and so M, F at v and M₁, F₁ at v₁: where v is steeper than v₁, and v₁ than u, v is steeper than u
steeper : (N M M₁ E F F₁ : ℤ) → N ≤ℤ pos 0 → M <ℤ pos 0 → M₁ <ℤ pos 0
    → pos 0 <ℤ (F₁ *ℤ M -ℤ M₁ *ℤ F) → (F₁ *ℤ N -ℤ M₁ *ℤ E) ≤ℤ pos 0 → (F *ℤ N -ℤ M *ℤ E) ≤ℤ pos 0
steeper N M M₁ E F F₁ h_n h_m h_m₁ hc hg =
    let c = F₁ *ℤ M -ℤ M₁ *ℤ F in
    let g = F₁ *ℤ N -ℤ M₁ *ℤ E in
    let r : neg_ℤ M₁ *ℤ (F *ℤ N -ℤ M *ℤ E) ≡ neg_ℤ M *ℤ g -ℤ neg_ℤ N *ℤ c =
    ring (N ∷ M ∷ M₁ ∷ E ∷ F ∷ F₁ ∷ [])
    (neg (var 2) ⊗ (var 4 ⊗ var 0 ⊝ var 1 ⊗ var 3))
    (neg (var 1) ⊗ (var 5 ⊗ var 0 ⊝ var 2 ⊗ var 3) ⊝ neg (var 0) ⊗ (var 5 ⊗ var 1 ⊝ var 2 ⊗ var 4)) refl in
    cancel_le (neg_ℤ M₁) (F *ℤ N -ℤ M *ℤ E) (pos 0) (omega (arith, lin))
    (omega (arith, lin, r, mul_nonpos (neg_ℤ M) g (omega (arith, lin)) hg, mul_nonneg (neg_ℤ N) c (omega (arith, lin)) (omega (arith, lin)), times_nought (neg_ℤ M₁)))

steepest : (n e : Vector) (L : List Vector) → AllByRecursion (Ready n e) L → AllByRecursion (λ u. n · u ≡ pos 0) L ⊎ Steepest n e L
steepest n e [] r = inl tt
steepest n e (u ∷ L) r = go (sign (n · u)) (steepest n e L r.1)
  where
    flat : (w : Vector) (K : List Vector) → AllByRecursion (Ready n e) K → AllByRecursion (λ u. n · u ≡ pos 0) K → Weak (turn n e w) K
    flat w [] q z = tt
    flat w (t ∷ K) q z = (omega (arith, lin, turn_kept n e w t z.0 (q.0.tight z.0)), flat w K q.1 z.1)

    better : (w : Vector) → (n · w) <ℤ pos 0 → (n · u) <ℤ pos 0 → pos 0 <ℤ (turn n e w · u) → (K : List Vector) → AllByRecursion (Ready n e) K → Weak (turn n e w) K → Weak (turn n e u) K
    better w hw hu c [] q a = tt
    better w hw hu c (t ∷ K) q a = (
      subst (λ k. k ≤ℤ pos 0) (sym (turn_at n e u t))
          (steeper (n · t) (n · u) (n · w) (e · t) (e · u) (e · w) q.0.low hu hw (subst (λ k. pos 0 <ℤ k) (turn_at n e w u) c) (subst (λ k. k ≤ℤ pos 0) (turn_at n e w t) a.0)),
      better w hw hu c K q.1 a.1,
    )

    still : (s : Steepest n e L) → (turn n e s.v · u) ≤ℤ pos 0 → Steepest n e (u ∷ L)
    still s k = record { v = s.v; v_in = inr s.v_in; v_low = s.v_low; all = (k, s.all) }

    new : (n · u) <ℤ pos 0 → Weak (turn n e u) L → Steepest n e (u ∷ L)
    new h w = record { v = u; v_in = inl refl; v_low = h; all = (omega (arith, lin, turn_own n e u), w) }

    choose : (n · u) <ℤ pos 0 → (s : Steepest n e L) → Sign (turn n e s.v · u) → Steepest n e (u ∷ L)
    choose h s (minus k) = still s (omega (arith, lin))
    choose h s (nought k) = still s (omega (arith, lin))
    choose h s (plus k) = new h (better s.v s.v_low h k L r.1 s.all)

    go : Sign (n · u) → AllByRecursion (λ u. n · u ≡ pos 0) L ⊎ Steepest n e L → AllByRecursion (λ u. n · u ≡ pos 0) (u ∷ L) ⊎ Steepest n e (u ∷ L)
    go (minus h) (inl z) = inr (new h (flat u L r.1 z))
    go (minus h) (inr s) = inr (choose h s (sign (turn n e s.v · u)))
    go (nought h) (inl z) = inl (h, z)
    go (nought h) (inr s) = inr (still s (omega (arith, lin, turn_kept n e s.v u h (r.0.tight h))))
    go (plus h) s = absurd (omega (arith, lin, r.0.low))

-- ---- both ways
-- with a the vector of greatest slope and b that of the least, at any u
pub opposite_turns : (n e a b u : Vector) → neg_ℤ (n · a) *ℤ (turn n (negᵛ e) b · u) ≡ (n · b) *ℤ (turn n e a · u) -ℤ (n · u) *ℤ (turn n e a · b)
opposite_turns n e a b u = ring (env (n ∷ e ∷ a ∷ b ∷ u ∷ []) [])
    (neg (vec 0 ·ₑ vec 2) ⊗ (turnₑ (vec 0) (negₑ (vec 1)) (vec 3) ·ₑ vec 4))
    ((vec 0 ·ₑ vec 3) ⊗ (turnₑ (vec 0) (vec 1) (vec 2) ·ₑ vec 4) ⊝ (vec 0 ·ₑ vec 4) ⊗ (turnₑ (vec 0) (vec 1) (vec 2) ·ₑ vec 3)) refl

-- n turned towards e rests on a, turned away from it on b, and the two are not one turn
pub record Turns (n e : Vector) (L : List Vector) : Type 0 where
  pub up : Steepest n e L
  pub down : Steepest n (negᵛ e) L
  pub up_nonzero : ¬ (turn n e up.v ≡ 𝟎)
  pub down_nonzero : ¬ (turn n (negᵛ e) down.v ≡ 𝟎)
  pub apart : (turn n e up.v · down.v) <ℤ pos 0

pub turns : (n e : Vector) (L : List Vector) → ¬ (n ≡ 𝟎) → ¬ (e ≡ 𝟎) → e · n ≡ pos 0 → AllByRecursion (Ready n e) L → Round L → Turns n e L
turns n e L n≠ e≠ square ready round = record {
  up = up;
  down = down;
  up_nonzero = up≠;
  down_nonzero = turn_nonzero n (negᵛ e) b (omega (arith, lin, neg-dot e n, square)) (neg_nonzero e e≠) down.v_low;
  apart = go (sign (turn n e a · b));
}
  where
    ready_back : (K : List Vector) → AllByRecursion (Ready n e) K → AllByRecursion (Ready n (negᵛ e)) K
    ready_back [] r = tt
    ready_back (u ∷ K) r = (record { low = r.0.low; tight = λ h. omega (arith, lin, neg-dot e u, r.0.tight h) }, ready_back K r.1)

    up : Steepest n e L
    up = elim (steepest n e L ready) [ inl f ↦ absurd (round n n≠ f) | inr s ↦ s ]

    down : Steepest n (negᵛ e) L
    down = elim (steepest n (negᵛ e) L (ready_back L ready)) [ inl f ↦ absurd (round n n≠ f) | inr s ↦ s ]

    a : Vector
    a = up.v

    b : Vector
    b = down.v

    up≠ : ¬ (turn n e a ≡ 𝟎)
    up≠ = turn_nonzero n e a square e≠ up.v_low

    -- were the two one turn, its plane would hold all
    even : (A M N b c t : ℤ) → neg_ℤ A *ℤ t ≡ M *ℤ b -ℤ N *ℤ c → A <ℤ pos 0 → M <ℤ pos 0 → b ≤ℤ pos 0 → t ≤ℤ pos 0 → c ≡ pos 0 → b ≡ pos 0
    even A M N b c t e h_a h_m hb ht hc = by (sign b)
      where
        by : Sign b → b ≡ pos 0
        by (minus h) = absurd (omega (arith, lin, ap (λ x. N *ℤ x) hc ∙ times_nought N, neg-times M b, mul_nonpos (neg_ℤ A) t (omega (arith, lin)) ht, mul_neg (neg_ℤ M) b (omega (arith, lin)) h))
        by (nought h) = h
        by (plus h) = absurd (omega (arith, lin))

    level : turn n e a · b ≡ pos 0 → (K : List Vector) → Weak (turn n e a) K → Weak (turn n (negᵛ e) b) K → AllByRecursion (λ v. turn n e a · v ≡ pos 0) K
    level c [] p q = tt
    level c (u ∷ K) p q = (
      even (n · a) (n · b) (n · u) (turn n e a · u) (turn n e a · b) (turn n (negᵛ e) b · u) (opposite_turns n e a b u) up.v_low down.v_low p.0 q.0 c,
      level c K p.1 q.1,
    )

    go : Sign (turn n e a · b) → (turn n e a · b) <ℤ pos 0
    go (minus h) = h
    go (nought h) = absurd (round (turn n e a) up≠ (level h L up.all down.all))
    go (plus h) = absurd (omega (arith, lin, h, weak_at (turn n e a) L up.all b down.v_in))
