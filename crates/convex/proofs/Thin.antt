-- Weights, none below 0, that balance every row of a table: where there are two columns more than rows or still more, one can be dropped,
-- and so on, until there is one more. Columns that were full stay so.
use Rattle.std.proofs.Common.{◌≡◌, ℕ, zero, suc, ◌+◌, ◌-◌, ◌<◌, ◌⊎◌, List, [], ◌∷◌, length, ℤ, pos, ◌+ℤ◌, ◌*ℤ◌, neg_ℤ, ◌≤ℤ◌, ◌<ℤ◌, sym, refl, ap, ◌∙◌, inl, inr, arith}
use native.Mathlib.Decide.{dec_lt}
use Rattle.vector.proofs.Ring.{var, num, ◌⊕◌, ◌⊗◌, neg, ring}
use Rattle.vector.proofs.Order.{lin, le_or_lt, mul_nonneg, mul_pos, cancel_le, times_nought, square_pos}
use Rattle.convex.proofs.Kernel.{Weights, Pick, here, there, put, at, without, mix, Balanced, Some, Kernel, kernel, Full, full_few, full_drop}
use Rattle.convex.proofs.Kernel.{length_pick, at_put, at_mix, mix_balanced, put_balanced, without_balanced, some_put, some_without}
use Rattle.convex.proofs.Choices.{Sub, kept, left, sub_all}

abbrev pub NonNeg : {A : Type 0} (X : List A) → Weights X → Type 0
NonNeg [] w = Unit {0}
NonNeg (x ∷ X) w = (pos 0 ≤ℤ w.0) × NonNeg X w.1

pub nonneg_at : {A : Type 0} {x : A} {X Y : List A} (q : Pick x X Y) (w : Weights X) → NonNeg X w → pos 0 ≤ℤ at q w
nonneg_at here w n = n.0
nonneg_at (there q) w n = nonneg_at q w.1 n.1

nonneg_without : {A : Type 0} {x : A} {X Y : List A} (q : Pick x X Y) (w : Weights X) → NonNeg X w → NonNeg Y (without q w)
nonneg_without here w n = n.1
nonneg_without (there q) w n = (n.0, nonneg_without q w.1 n.1)

-- weights not below 0 and not all 0 that balance every row
pub record RelationOf {A F : Type 0} (T : F → A → ℤ) (Fs : List F) (X : List A) : Type 0 where
  pub weights : Weights X
  pub nonneg : NonNeg X weights
  pub some : Some X weights
  pub balanced : Balanced T Fs X weights

-- ---- the least ratio: going along ν from w, the weight at q is the first to reach 0
record Least {A : Type 0} (X : List A) (w ν : Weights X) : Type 0 where
  y : A
  Y : List A
  q : Pick y X Y
  falls : at q ν <ℤ pos 0
  stays : NonNeg X (mix X (neg_ℤ (at q ν)) w (at q w) ν)

all_rise : {A : Type 0} (X : List A) (w ν : Weights X) (k a : ℤ) → pos 0 ≤ℤ k → pos 0 ≤ℤ a → NonNeg X w → NonNeg X ν → NonNeg X (mix X k w a ν)
all_rise [] w ν k a hk ha hw hν = tt
all_rise (x ∷ X) w ν k a hk ha hw hν =
    (omega (arith, lin, mul_nonneg k w.0 hk hw.0, mul_nonneg a ν.0 ha hν.0), all_rise X w.1 ν.1 k a hk ha hw.1 hν.1)

-- a and b are the weight and the fall at a new member, a' and b' at the old one, v and n at another
module _ (a b a' b' : ℤ) (b'<0 : b' <ℤ pos 0) (0≤a : pos 0 ≤ℤ a) (sooner : (neg_ℤ b' *ℤ a +ℤ a' *ℤ b) <ℤ pos 0) where
  falling : pos 0 ≤ℤ a' → b <ℤ pos 0
  falling 0≤a' = elim (le_or_lt (pos 0) b)
      [ inl k ↦ absurd (omega (arith, lin, mul_nonneg (neg_ℤ b') a (omega (arith, lin)) 0≤a, mul_nonneg a' b 0≤a' k)) | inr k ↦ k ]

  nearer : b <ℤ pos 0 → (v n : ℤ) → pos 0 ≤ℤ v → pos 0 ≤ℤ (neg_ℤ b' *ℤ v +ℤ a' *ℤ n) → pos 0 ≤ℤ (neg_ℤ b *ℤ v +ℤ a *ℤ n)
  nearer b<0 v n 0≤v old = elim (le_or_lt (pos 0) n) [
    | inl h ↦ omega (arith, lin, mul_nonneg (neg_ℤ b) v (omega (arith, lin)) 0≤v, mul_nonneg a n 0≤a h)
    | inr h ↦ cancel_le (neg_ℤ b') (pos 0) (neg_ℤ b *ℤ v +ℤ a *ℤ n) (omega (arith, lin))
        (omega (
          arith,
          lin,
          r,
          times_nought (neg_ℤ b'),
          mul_nonneg (neg_ℤ b) (neg_ℤ b' *ℤ v +ℤ a' *ℤ n) (omega (arith, lin)) old,
          mul_nonneg (neg_ℤ n) (neg_ℤ (neg_ℤ b' *ℤ a +ℤ a' *ℤ b)) (omega (arith, lin)) (omega (arith, lin)),
        ))
  ]
    where
      r : neg_ℤ b' *ℤ (neg_ℤ b *ℤ v +ℤ a *ℤ n) ≡ neg_ℤ b *ℤ (neg_ℤ b' *ℤ v +ℤ a' *ℤ n) +ℤ neg_ℤ n *ℤ neg_ℤ (neg_ℤ b' *ℤ a +ℤ a' *ℤ b)
      r = ring (a ∷ b ∷ a' ∷ b' ∷ v ∷ n ∷ [])
          (neg (var 3) ⊗ (neg (var 1) ⊗ var 4 ⊕ var 0 ⊗ var 5))
          (neg (var 1) ⊗ (neg (var 3) ⊗ var 4 ⊕ var 2 ⊗ var 5) ⊕ neg (var 5) ⊗ neg (neg (var 3) ⊗ var 0 ⊕ var 2 ⊗ var 1)) refl

  all_nearer : {A : Type 0} (X : List A) (w ν : Weights X) → b <ℤ pos 0 → NonNeg X w → NonNeg X (mix X (neg_ℤ b') w a' ν) → NonNeg X (mix X (neg_ℤ b) w a ν)
  all_nearer [] w ν b<0 hw old = tt
  all_nearer (x ∷ X) w ν b<0 hw old = (nearer b<0 w.0 ν.0 hw.0 old.0, all_nearer X w.1 ν.1 b<0 hw.1 old.1)

-- the weight that falls by b reaches 0
levelled : (a b : ℤ) → neg_ℤ b *ℤ a +ℤ a *ℤ b ≡ pos 0
levelled a b = ring (a ∷ b ∷ []) (neg (var 1) ⊗ var 0 ⊕ var 0 ⊗ var 1) (num (pos 0)) refl

least : {A : Type 0} (X : List A) (w ν : Weights X) → NonNeg X w → NonNeg X ν ⊎ Least X w ν
least [] w ν n = inl tt
least {A} (x ∷ X) w ν n = go (least X w.1 ν.1 n.1)
  where
    first : ν.0 <ℤ pos 0 → NonNeg X (mix X (neg_ℤ ν.0) w.1 w.0 ν.1) → Least (x ∷ X) w ν
    first h s = record { y = x; Y = X; q = here; falls = h; stays = (omega (arith, lin, levelled w.0 ν.0), s) }

    go : NonNeg X ν.1 ⊎ Least X w.1 ν.1 → NonNeg (x ∷ X) ν ⊎ Least (x ∷ X) w ν
    go (inl r) = elim (le_or_lt (pos 0) ν.0) [
      | inl h ↦ inl (h, r)
      | inr h ↦ inr (first h (all_rise X w.1 ν.1 (neg_ℤ ν.0) w.0 (omega (arith, lin)) n.0 n.1 r))
    ]
    go (inr l) =
        let a' = at l.q w.1 in
        let b' = at l.q ν.1 in
        elim (le_or_lt (pos 0) (neg_ℤ b' *ℤ w.0 +ℤ a' *ℤ ν.0)) [
          | inl h ↦ inr (record { y = l.y; Y = x ∷ l.Y; q = there l.q; falls = l.falls; stays = (h, l.stays) })
          | inr h ↦
              let f = falling w.0 ν.0 a' b' l.falls n.0 h (nonneg_at l.q w.1 n.1) in
              inr (first f (all_nearer w.0 ν.0 a' b' l.falls n.0 h X w.1 ν.1 f n.1 l.stays))
        ]

-- a sublist of X without one is a sublist of X
sub_pick : {A : Type 0} {y : A} {X Y Z : List A} → Pick y X Y → Sub Z Y → Sub Z X
sub_pick here s = left s
sub_pick (there q) (kept s) = kept (sub_pick q s)
sub_pick (there q) (left s) = left (sub_pick q s)

module _ {A F : Type 0} (T : F → A → ℤ) (Fs : List F) where
  -- ---- dropping one
  record Thinned (X : List A) : Type 0 where
    y : A
    Y : List A
    pick : Pick y X Y
    relation : RelationOf T Fs Y
    full : Full T Fs X → Full T Fs Y

  -- by ν, which falls somewhere and is 0 at a member of weight not 0
  drop_by : {X : List A} (r : RelationOf T Fs X) (ν : Weights X) → Balanced T Fs X ν → at r.some.pick ν ≡ pos 0 → Least X r.weights ν → Thinned X
  drop_by {X} r ν b z l = record {
    y = l.y;
    Y = l.Y;
    pick = l.q;
    relation = record {
      weights = without l.q m;
      nonneg = nonneg_without l.q m l.stays;
      some = some_without l.q m r.some.pick at_q (λ e. at_p (sym (at_mix r.some.pick (neg_ℤ (at l.q ν)) r.weights (at l.q r.weights) ν) ∙ e));
      balanced = without_balanced T Fs l.q m at_q (mix_balanced T Fs X (neg_ℤ (at l.q ν)) r.weights (at l.q r.weights) ν r.balanced b);
    };
    full = full_drop T Fs l.q ν (λ e. absurd (omega (arith, lin, e, l.falls))) b;
  }
    where
      m : Weights X
      m = mix X (neg_ℤ (at l.q ν)) r.weights (at l.q r.weights) ν

      at_q : at l.q m ≡ pos 0
      at_q = at_mix l.q (neg_ℤ (at l.q ν)) r.weights (at l.q r.weights) ν
          ∙ levelled (at l.q r.weights) (at l.q ν)

      scalar : (k w a v : ℤ) → v ≡ pos 0 → pos 0 ≤ℤ w → ¬ (w ≡ pos 0) → k <ℤ pos 0 → ¬ (neg_ℤ k *ℤ w +ℤ a *ℤ v ≡ pos 0)
      scalar k w a v z h n f e = absurd (omega (arith, lin, e, mul_pos (neg_ℤ k) w (omega (arith, lin)) (omega (arith, lin, h, n)), ap (λ t. a *ℤ t) z ∙ times_nought a))

      at_p : ¬ (neg_ℤ (at l.q ν) *ℤ at r.some.pick r.weights +ℤ at l.q r.weights *ℤ at r.some.pick ν ≡ pos 0)
      at_p = scalar (at l.q ν) _ (at l.q r.weights) _ z (nonneg_at r.some.pick r.weights r.nonneg) r.some.nonzero l.falls

  thin : (X : List A) → suc (length Fs) < length X → RelationOf T Fs X → Thinned X
  thin X h r = elim (least X r.weights ν r.nonneg) [
    | inl n ↦ absurd (falls (nonneg_at s.pick ν n))
    | inr l ↦ drop_by r ν balanced still l
  ]
    where
      p : Pick r.some.x X r.some.rest
      p = r.some.pick

      k : Kernel T Fs r.some.rest
      k = kernel T Fs r.some.rest (omega (arith, length_pick p))

      μ : Weights X
      μ = put p (pos 0) k.weights

      s : Some X μ
      s = some_put p (pos 0) k.weights k.some.pick k.some.nonzero

      b : ℤ
      b = at s.pick μ

      -- turned so that it falls there
      ν : Weights X
      ν = mix X (neg_ℤ b) μ (pos 0) μ

      balanced : Balanced T Fs X ν
      balanced = let c = put_balanced T Fs p k.weights k.balanced in mix_balanced T Fs X (neg_ℤ b) μ (pos 0) μ c c

      still : at p ν ≡ pos 0
      still = at_mix p (neg_ℤ b) μ (pos 0) μ ∙ ap (λ t. neg_ℤ b *ℤ t +ℤ pos 0 *ℤ t) (at_put p (pos 0) k.weights)
          ∙ ring (b ∷ []) (neg (var 0) ⊗ num (pos 0) ⊕ num (pos 0) ⊗ num (pos 0)) (num (pos 0)) refl

      falls : pos 0 ≤ℤ at s.pick ν → ⊥
      falls h = scalar b (at s.pick ν) (at_mix s.pick (neg_ℤ b) μ (pos 0) μ) s.nonzero h
        where
          scalar : (b c : ℤ) → c ≡ neg_ℤ b *ℤ b +ℤ pos 0 *ℤ b → ¬ (b ≡ pos 0) → ¬ (pos 0 ≤ℤ c)
          scalar b c e n h = absurd (omega (arith, lin, e, square_pos b n, ring (b ∷ []) (neg (var 0) ⊗ var 0 ⊕ num (pos 0) ⊗ var 0) (neg (var 0 ⊗ var 0)) refl))

  -- ---- dropping as many as can be
  pub record Few (X : List A) : Type 0 where
    pub Y : List A
    pub sub : Sub Y X
    pub many : length Y ≡ suc (length Fs)
    pub full : Full T Fs Y
    pub relation : RelationOf T Fs Y

  drops : (n : ℕ) (X : List A) → length X ≡ n + suc (length Fs) → Full T Fs X → RelationOf T Fs X → Few X
  drops zero X e f r = record { Y = X; sub = sub_all X; many = omega arith; full = f; relation = r }
  drops (suc n) X e f r =
      let t = thin X (omega arith) r in
      let s = drops n t.Y (omega (arith, length_pick t.pick)) (t.full f) t.relation in
      record { Y = s.Y; sub = sub_pick {Z = s.Y} t.pick s.sub; many = s.many; full = s.full; relation = s.relation }

  -- full columns with a relation are more than the rows
  more : (X : List A) → Full T Fs X → RelationOf T Fs X → length Fs < length X
  more X f r = elim (dec_lt (length r.some.rest) (length Fs)) [
    | yes h ↦ absurd (full_few T Fs r.some.rest h (full_drop T Fs r.some.pick r.weights r.some.nonzero r.balanced f))
    | no h ↦ omega (arith, length_pick r.some.pick)
  ]

  pub few : (X : List A) → Full T Fs X → RelationOf T Fs X → Few X
  few X f r = drops (length X - suc (length Fs)) X (omega (arith, more X f r)) f r
