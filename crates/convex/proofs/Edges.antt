-- A hinge: a line in the plane of n that holds whatever of a list the plane holds, with nothing of the list above the plane. About it n turns
-- both ways until its plane rests on one more vector of the list, and every direction that rests on the line and on one more is one of the two.
use Rattle.std.proofs.Common.{◌≡◌, ◌⊎◌, List, [], ◌∷◌, ℤ, pos, ◌+ℤ◌, ◌-ℤ◌, ◌*ℤ◌, neg_ℤ, ◌≤ℤ◌, ◌<ℤ◌, sym, refl, ap, ◌∙◌, inl, inr, arith}
use Rattle.vector.specs.declared.Vector.{Vector}
use Rattle.vector.specs.Vectors.{◌·◌, ◌⨯◌, ◌+ᵛ◌, ◌∗◌, negᵛ, 𝟎}
use Rattle.vector.proofs.Ring.{var, num, ◌⊕◌, ◌⊗◌, neg, ring}
use Rattle.vector.proofs.Order.{lin, Sign, minus, nought, plus, sign, mul_nonneg, mul_pos, mul_neg, cancel_le, cancel, times_nought, nought_times}
use Rattle.vector.proofs.Identities.{◌·ₑ◌, ◌⨯ₑ◌, ◌+ₑ◌, ◌-ₑ◌, ◌∗ₑ◌, negₑ, vec, env, ringᵛ}
use Rattle.vector.proofs.Identities.{times-dot, times_swap, times-times, dot-neg, dot_nothing, no_times, cross_first, triple, norm_pos, cross_nonzero}
use Rattle.convex.specs.Points.{◌∈◌}
use Rattle.convex.specs.Sides.{Multiple}
use Rattle.convex.proofs.Members.{all_from_in}
use Rattle.convex.proofs.Lines.{neg_nonzero, multiple, multiple_dot}
use Rattle.convex.proofs.Directions.{Weak, weak_at, Round}
use Rattle.convex.proofs.Turning.{turn, Ready, Steepest, Turns, turns, opposite_turns, turn_own}

pub record Hinge (n u : Vector) (L : List Vector) : Type 0 where
  pub n_nonzero : ¬ (n ≡ 𝟎)
  pub u_nonzero : ¬ (u ≡ 𝟎)
  pub along : n · u ≡ pos 0
  pub low : Weak n L
  pub only : (v : Vector) → v ∈ L → n · v ≡ pos 0 → u ⨯ v ≡ 𝟎

pub hinge_turns : (n u : Vector) (L : List Vector) → Hinge n u L → Round L → Turns n (n ⨯ u) L
hinge_turns n u L g round = turns n (n ⨯ u) L g.n_nonzero (cross_nonzero n u g.n_nonzero g.u_nonzero g.along) (cross_first n u)
    (all_from_in (Ready n (n ⨯ u)) L (λ v h. record { low = weak_at n L g.low v h; tight = λ z. triple n u v ∙ dot_nothing n (u ⨯ v) (g.only v h z) })) round

-- ---- the two turns
-- they are no multiples: the first is below 0 where the second is 0
pub turns_differ : (n e : Vector) (L : List Vector) (t : Turns n e L) → ¬ (Multiple (turn n e t.up.v) (turn n (negᵛ e) t.down.v))
turns_differ n e L t s = clash (pos s.under) (pos s.over) (m₁ · b) (m₂ · b) (omega (arith, lin, s.under_positive)) t.apart (turn_own n (negᵛ e) b)
    (multiple_dot m₁ m₂ s b)
  where
    b : Vector
    b = t.down.v

    m₁ : Vector
    m₁ = turn n e t.up.v

    m₂ : Vector
    m₂ = turn n (negᵛ e) b

    clash : (j k c d : ℤ) → pos 0 <ℤ j → c <ℤ pos 0 → d ≡ pos 0 → j *ℤ c ≡ k *ℤ d → ⊥
    clash j k c d hj hc hd h = omega (arith, lin, mul_neg j c hj hc, ap (λ x. k *ℤ x) hd ∙ times_nought k)

-- where both are 0, so is n
pub turns_share : (n e : Vector) (L : List Vector) (t : Turns n e L) (v : Vector)
    → turn n e t.up.v · v ≡ pos 0 → turn n (negᵛ e) t.down.v · v ≡ pos 0 → n · v ≡ pos 0
turns_share n e L t v p q =
    let a = t.up.v in
    let b = t.down.v in
    scalar (neg_ℤ (n · a)) (n · b) (turn n e a · v) (turn n (negᵛ e) b · v) (n · v) (turn n e a · b) (opposite_turns n e a b v) p q t.apart
  where
    scalar : (i j c d k f : ℤ) → i *ℤ d ≡ j *ℤ c -ℤ k *ℤ f → c ≡ pos 0 → d ≡ pos 0 → f <ℤ pos 0 → k ≡ pos 0
    scalar i j c d k f h hc hd hf =
        let jc = ap (λ x. j *ℤ x) hc ∙ times_nought j in
        let id = ap (λ x. i *ℤ x) hd ∙ times_nought i in
        let swap = ring (f ∷ k ∷ []) (var 0 ⊗ var 1) (var 1 ⊗ var 0) refl in
        cancel f k (λ z. absurd (omega (arith, lin))) (omega (arith, lin))

-- ---- there is no third
-- m by its products with three vectors (Cramer's rule)
cramer : (p q r m : Vector) → (p · (q ⨯ r)) ∗ m ≡ (m · q) ∗ (r ⨯ p) +ᵛ ((m · r) ∗ (p ⨯ q) +ᵛ (m · p) ∗ (q ⨯ r))
cramer p q r m = ringᵛ (env (p ∷ q ∷ r ∷ m ∷ []) []) ((vec 0 ·ₑ (vec 1 ⨯ₑ vec 2)) ∗ₑ vec 3)
    ((vec 3 ·ₑ vec 1) ∗ₑ (vec 2 ⨯ₑ vec 0) +ₑ ((vec 3 ·ₑ vec 2) ∗ₑ (vec 0 ⨯ₑ vec 1) +ₑ (vec 3 ·ₑ vec 0) ∗ₑ (vec 1 ⨯ₑ vec 2))) refl refl refl

-- turned about a line u in its plane until it rests on v, n is a multiple of u ⨯ v
turn_about : (n u v : Vector) → n · u ≡ pos 0 → turn n (n ⨯ u) v ≡ (n · n) ∗ (u ⨯ v)
turn_about n u v o = expanded n u v ∙ (λ i. o i ∗ (v ⨯ n) +ᵛ (n · n) ∗ (u ⨯ v)) ∙ no_times (v ⨯ n) ((n · n) ∗ (u ⨯ v))
  where
    expanded : (n u v : Vector) → turn n (n ⨯ u) v ≡ (n · u) ∗ (v ⨯ n) +ᵛ (n · n) ∗ (u ⨯ v)
    expanded n u v = ringᵛ (env (n ∷ u ∷ v ∷ []) []) (((vec 0 ⨯ₑ vec 1) ·ₑ vec 2) ∗ₑ vec 0 -ₑ (vec 0 ·ₑ vec 2) ∗ₑ (vec 0 ⨯ₑ vec 1))
        ((vec 0 ·ₑ vec 1) ∗ₑ (vec 2 ⨯ₑ vec 0) +ₑ (vec 0 ·ₑ vec 0) ∗ₑ (vec 1 ⨯ₑ vec 2)) refl refl refl

-- a direction at right angles to u and v is a multiple of u ⨯ v
pinned : (n u m v : Vector) → n · u ≡ pos 0 → m · u ≡ pos 0 → m · v ≡ pos 0 → (neg_ℤ (n · v) *ℤ (u · u)) ∗ m ≡ (m · (n ⨯ u)) ∗ (u ⨯ v)
pinned n u m v o p q =
    let e = n ⨯ u in
    ap (λ k. k ∗ m) (sym (factor (n · u) (u · v) (neg_ℤ (n · v) *ℤ (u · u)) (expanded n u v) o)) ∙ cramer e u v m
    ∙ (λ i. p i ∗ (v ⨯ e) +ᵛ (q i ∗ (e ⨯ u) +ᵛ (m · e) ∗ (u ⨯ v))) ∙ no_times (v ⨯ e) (pos 0 ∗ (e ⨯ u) +ᵛ (m · e) ∗ (u ⨯ v)) ∙ no_times (e ⨯ u) ((m · e) ∗ (u ⨯ v))
  where
    expanded : (n u v : Vector) → (n ⨯ u) · (u ⨯ v) ≡ (n · u) *ℤ (u · v) +ℤ neg_ℤ (n · v) *ℤ (u · u)
    expanded n u v = ring (env (n ∷ u ∷ v ∷ []) []) ((vec 0 ⨯ₑ vec 1) ·ₑ (vec 1 ⨯ₑ vec 2)) ((vec 0 ·ₑ vec 1) ⊗ (vec 1 ·ₑ vec 2) ⊕ neg (vec 0 ·ₑ vec 2) ⊗ (vec 1 ·ₑ vec 1)) refl

    factor : {x : ℤ} (a b c : ℤ) → x ≡ a *ℤ b +ℤ c → a ≡ pos 0 → x ≡ c
    factor a b c h z = h ∙ ap (λ k. k *ℤ b +ℤ c) z ∙ ring (b ∷ c ∷ []) (num (pos 0) ⊗ var 0 ⊕ var 1) (var 1) refl

-- m has no positive product, and is 0 at w, where n is below 0
module _ (n m w : Vector) (L : List Vector) (n≠ : ¬ (n ≡ 𝟎)) (low : Weak m L) (w_in : w ∈ L) (w_low : (n · w) <ℤ pos 0) (at_w : m · w ≡ pos 0) where
  -- where m is 0 along u too and on the side of e = n ⨯ u, it is 0 at the vector of greatest slope, and so is the turn onto it
  is_turn : (u e : Vector) → e ≡ n ⨯ u → ¬ (u ≡ 𝟎) → n · u ≡ pos 0 → m · u ≡ pos 0 → (s : Steepest n e L) → pos 0 <ℤ (m · e) → Multiple m (turn n e s.v)
  is_turn u e is u≠ along at_u s side = multiple ((n · n) *ℤ factor a) (m · e) m (turn n e a) (mul_pos (n · n) (factor a) (norm_pos n n≠) (factor_pos a s.v_low)) side
      (times-times (n · n) (factor a) m ∙ ap (λ (x : Vector). (n · n) ∗ x) (at a at_a) ∙ times_swap (n · n) (m · e) (u ⨯ a) ∙ ap (λ (x : Vector). (m · e) ∗ x) (sym turned))
    where
      a : Vector
      a = s.v

      factor : Vector → ℤ
      factor v = neg_ℤ (n · v) *ℤ (u · u)

      factor_pos : (v : Vector) → (n · v) <ℤ pos 0 → pos 0 <ℤ factor v
      factor_pos v h = mul_pos (neg_ℤ (n · v)) (u · u) (omega (arith, lin, h)) (norm_pos u u≠)

      turned : turn n e a ≡ (n · n) ∗ (u ⨯ a)
      turned = ap (λ (x : Vector). turn n x a) is ∙ turn_about n u a along

      at : (v : Vector) → m · v ≡ pos 0 → factor v ∗ m ≡ (m · e) ∗ (u ⨯ v)
      at v h = pinned n u m v along at_u h ∙ ap (λ (x : Vector). (m · x) ∗ (u ⨯ v)) (sym is)

      -- m is a multiple of u ⨯ w, whose product with a is opposite to that of u ⨯ a with w: were the one below 0, the other would be above
      level : (k s N c d f t : ℤ) → pos 0 <ℤ k → pos 0 <ℤ s → pos 0 <ℤ N → k *ℤ c ≡ s *ℤ d → d ≡ neg_ℤ f → t ≡ N *ℤ f → t ≤ℤ pos 0 → c ≤ℤ pos 0 → c ≡ pos 0
      level k s N c d f t hk hs h_n h hd ht t≤ c≤ =
          let f≤ : f ≤ℤ pos 0 = cancel_le N f (pos 0) h_n (omega (arith, lin, times_nought N)) in
          let d≥ = mul_nonneg s d (omega (arith, lin)) (omega (arith, lin)) in
          let c≥ : pos 0 ≤ℤ c = cancel_le k (pos 0) c hk (omega (arith, lin, times_nought k)) in
          omega (arith, lin)

      opposite : (u w a : Vector) → (u ⨯ w) · a ≡ neg_ℤ ((u ⨯ a) · w)
      opposite u w a = ring (env (u ∷ w ∷ a ∷ []) []) ((vec 0 ⨯ₑ vec 1) ·ₑ vec 2) (neg ((vec 0 ⨯ₑ vec 2) ·ₑ vec 1)) refl

      at_a : m · a ≡ pos 0
      at_a = level (factor w) (m · e) (n · n) (m · a) ((u ⨯ w) · a) ((u ⨯ a) · w) (turn n e a · w) (factor_pos w w_low) side (norm_pos n n≠)
          (sym (times-dot (factor w) m a) ∙ ap (λ (x : Vector). x · a) (at w at_w) ∙ times-dot (m · e) (u ⨯ w) a) (opposite u w a)
          (ap (λ (x : Vector). x · w) turned ∙ times-dot (n · n) (u ⨯ a) w) (weak_at (turn n e a) L s.all w w_in) (weak_at m L low a s.v_in)

  pub no_third_turn : (u : Vector) → ¬ (u ≡ 𝟎) → n · u ≡ pos 0 → ¬ (m ≡ 𝟎) → m · u ≡ pos 0
      → (t : Turns n (n ⨯ u) L) → Multiple m (turn n (n ⨯ u) t.up.v) ⊎ Multiple m (turn n (negᵛ (n ⨯ u)) t.down.v)
  no_third_turn u u≠ along m≠ at_u t = go (sign (m · (n ⨯ u)))
    where
      mirror : (n u : Vector) → negᵛ (n ⨯ u) ≡ n ⨯ negᵛ u
      mirror n u = ringᵛ (env (n ∷ u ∷ []) []) (negₑ (vec 0 ⨯ₑ vec 1)) (vec 0 ⨯ₑ negₑ (vec 1)) refl refl refl

      still : (k : Vector) → k · u ≡ pos 0 → k · negᵛ u ≡ pos 0
      still k h = dot-neg k u ∙ ap neg_ℤ h

      -- at right angles to n ⨯ u as well, m would be 0
      none : (k s c d : ℤ) → k *ℤ c ≡ s *ℤ d → s ≡ pos 0 → pos 0 <ℤ k → pos 0 <ℤ c → ⊥
      none k s c d h z hk hc = omega (arith, lin, mul_pos k c hk hc, ap (λ x. x *ℤ d) z ∙ nought_times d)

      go : Sign (m · (n ⨯ u)) → Multiple m (turn n (n ⨯ u) t.up.v) ⊎ Multiple m (turn n (negᵛ (n ⨯ u)) t.down.v)
      go (plus s) = inl (is_turn u (n ⨯ u) refl u≠ along at_u t.up s)
      go (nought s) = let k = neg_ℤ (n · w) *ℤ (u · u) in absurd (none k (m · (n ⨯ u)) (m · m) ((u ⨯ w) · m)
          (sym (times-dot k m m) ∙ ap (λ (x : Vector). x · m) (pinned n u m w along at_u at_w) ∙ times-dot (m · (n ⨯ u)) (u ⨯ w) m)
          s (mul_pos (neg_ℤ (n · w)) (u · u) (omega (arith, lin, w_low)) (norm_pos u u≠)) (norm_pos m m≠))
      go (minus s) = inr (is_turn (negᵛ u) (negᵛ (n ⨯ u)) (mirror n u) (neg_nonzero u u≠) (still n along) (still m at_u) t.down (omega (arith, lin, s, dot-neg m (n ⨯ u))))
