-- Weights on the members of a list, and elimination: where a table has more columns than rows, some weights on its columns, not all 0, balance every row.
-- A table T : F → A → ℤ has rows in F and columns in A; weights on columns balance a row whose entries, each times the weight of its column, add up to 0.
use Rattle.std.proofs.Common.{◌≡◌, suc, ◌<◌, ◌⊎◌, List, [], ◌∷◌, length, ℤ, pos, ◌+ℤ◌, ◌*ℤ◌, neg_ℤ, sym, refl, ap, ◌∙◌, inl, inr, arith}
use lib.IntN.{ℤ_discrete}
use Rattle.std.specs.List.{AllByRecursion}
use Rattle.std.proofs.ByRecursion.{All-weaker}
use Rattle.vector.proofs.Ring.{var, num, ◌⊕◌, ◌⊗◌, neg, ring}
use Rattle.vector.proofs.Order.{lin, cancel, one_times, nought_times, neg-times}

-- a number for each member
abbrev pub Weights : {A : Type 0} → List A → Type 0
Weights X = AllByRecursion (λ _. ℤ) X

-- the sum of f over the members, each times its weight
abbrev pub weigh : {A : Type 0} (X : List A) → (A → ℤ) → Weights X → ℤ
weigh [] f w = pos 0
weigh (x ∷ X) f w = w.0 *ℤ f x +ℤ weigh X f w.1

-- ---- one member, and the rest
pub data Pick {A : Type 0} : A → List A → List A → Type 0 where
  here : {x : A} {Y : List A} → Pick x (x ∷ Y) Y
  there : {x y : A} {X Y : List A} → Pick x X Y → Pick x (y ∷ X) (y ∷ Y)

abbrev pub put : {A : Type 0} {x : A} {X Y : List A} → Pick x X Y → ℤ → Weights Y → Weights X
put here a w = (a, w)
put (there q) a w = (w.0, put q a w.1)

abbrev pub at : {A : Type 0} {x : A} {X Y : List A} → Pick x X Y → Weights X → ℤ
at here w = w.0
at (there q) w = at q w.1

abbrev pub without : {A : Type 0} {x : A} {X Y : List A} → Pick x X Y → Weights X → Weights Y
without here w = w.1
without (there q) w = (w.0, without q w.1)

pub length_pick : {A : Type 0} {x : A} {X Y : List A} → Pick x X Y → length X ≡ suc (length Y)
length_pick here = refl
length_pick (there q) = ap suc (length_pick q)

pub at_put : {A : Type 0} {x : A} {X Y : List A} (q : Pick x X Y) (a : ℤ) (w : Weights Y) → at q (put q a w) ≡ a
at_put here a w = refl
at_put (there q) a w = at_put q a w.1

without-put : {A : Type 0} {x : A} {X Y : List A} (q : Pick x X Y) (a : ℤ) (w : Weights Y) → without q (put q a w) ≡ w
without-put here a w = refl
without-put (there q) a w = λ i. (w.0, without-put q a w.1 i)

pub weigh-without : {A : Type 0} {x : A} {X Y : List A} (q : Pick x X Y) (f : A → ℤ) (w : Weights X) → weigh X f w ≡ at q w *ℤ f x +ℤ weigh Y f (without q w)
weigh-without here f w = refl
weigh-without {x = x} (there {y = y} {Y = Y} q) f w = scalar (w.0 *ℤ f y) (at q w.1 *ℤ f x) (weigh Y f (without q w.1)) _ (weigh-without q f w.1)
  where
    scalar : (b c d s : ℤ) → s ≡ c +ℤ d → b +ℤ s ≡ c +ℤ (b +ℤ d)
    scalar b c d s e = omega (arith, lin)

weigh-put : {A : Type 0} {x : A} {X Y : List A} (q : Pick x X Y) (f : A → ℤ) (a : ℤ) (w : Weights Y) → weigh X f (put q a w) ≡ a *ℤ f x +ℤ weigh Y f w
weigh-put {x = x} {Y = Y} q f a w = weigh-without q f (put q a w) ∙ (λ i. at_put q a w i *ℤ f x +ℤ weigh Y f (without-put q a w i))

-- ---- k times w and l times v, added
abbrev pub mix : {A : Type 0} (X : List A) → ℤ → Weights X → ℤ → Weights X → Weights X
mix [] k w l v = tt
mix (x ∷ X) k w l v = (k *ℤ w.0 +ℤ l *ℤ v.0, mix X k w.1 l v.1)

pub at_mix : {A : Type 0} {x : A} {X Y : List A} (q : Pick x X Y) (k : ℤ) (w : Weights X) (l : ℤ) (v : Weights X) → at q (mix X k w l v) ≡ k *ℤ at q w +ℤ l *ℤ at q v
at_mix here k w l v = refl
at_mix (there q) k w l v = at_mix q k w.1 l v.1

weigh_mix : {A : Type 0} (X : List A) (f : A → ℤ) (k : ℤ) (w : Weights X) (l : ℤ) (v : Weights X) → weigh X f (mix X k w l v) ≡ k *ℤ weigh X f w +ℤ l *ℤ weigh X f v
weigh_mix [] f k w l v = ring (k ∷ l ∷ []) (num (pos 0)) (var 0 ⊗ num (pos 0) ⊕ var 1 ⊗ num (pos 0)) refl
weigh_mix (x ∷ X) f k w l v =
    ap (λ s. (k *ℤ w.0 +ℤ l *ℤ v.0) *ℤ f x +ℤ s) (weigh_mix X f k w.1 l v.1)
    ∙ ring (k ∷ l ∷ w.0 ∷ v.0 ∷ f x ∷ weigh X f w.1 ∷ weigh X f v.1 ∷ [])
    ((var 0 ⊗ var 2 ⊕ var 1 ⊗ var 3) ⊗ var 4 ⊕ (var 0 ⊗ var 5 ⊕ var 1 ⊗ var 6))
    (var 0 ⊗ (var 2 ⊗ var 4 ⊕ var 5) ⊕ var 1 ⊗ (var 3 ⊗ var 4 ⊕ var 6)) refl

-- c times f and d times g, added
weigh_two : {A : Type 0} (X : List A) (f g : A → ℤ) (c d : ℤ) (w : Weights X) → weigh X (λ x. c *ℤ f x +ℤ d *ℤ g x) w ≡ c *ℤ weigh X f w +ℤ d *ℤ weigh X g w
weigh_two [] f g c d w = ring (c ∷ d ∷ []) (num (pos 0)) (var 0 ⊗ num (pos 0) ⊕ var 1 ⊗ num (pos 0)) refl
weigh_two (x ∷ X) f g c d w =
    ap (λ s. w.0 *ℤ (c *ℤ f x +ℤ d *ℤ g x) +ℤ s) (weigh_two X f g c d w.1)
    ∙ ring (c ∷ d ∷ w.0 ∷ f x ∷ g x ∷ weigh X f w.1 ∷ weigh X g w.1 ∷ [])
    (var 2 ⊗ (var 0 ⊗ var 3 ⊕ var 1 ⊗ var 4) ⊕ (var 0 ⊗ var 5 ⊕ var 1 ⊗ var 6))
    (var 0 ⊗ (var 2 ⊗ var 3 ⊕ var 5) ⊕ var 1 ⊗ (var 2 ⊗ var 4 ⊕ var 6)) refl

-- the sum of a function that is 0 at every member
pub weigh_none : {A : Type 0} (f : A → ℤ) (X : List A) (w : Weights X) → AllByRecursion (λ x. f x ≡ pos 0) X → weigh X f w ≡ pos 0
weigh_none f [] w a = refl
weigh_none f (x ∷ X) w a = (λ i. w.0 *ℤ a.0 i +ℤ weigh_none f X w.1 a.1 i) ∙ ring (w.0 ∷ []) (var 0 ⊗ num (pos 0) ⊕ num (pos 0)) (num (pos 0)) refl

-- ---- weights that balance every row
abbrev pub Balanced : {A F : Type 0} → (F → A → ℤ) → List F → (X : List A) → Weights X → Type 0
Balanced T Fs X w = AllByRecursion (λ f. weigh X (T f) w ≡ pos 0) Fs

pub mix_balanced : {A F : Type 0} (T : F → A → ℤ) (Fs : List F) (X : List A) (k : ℤ) (w : Weights X) (l : ℤ) (v : Weights X)
    → Balanced T Fs X w → Balanced T Fs X v → Balanced T Fs X (mix X k w l v)
mix_balanced T [] X k w l v b c = tt
mix_balanced T (f ∷ Fs) X k w l v b c = (
  weigh_mix X (T f) k w l v ∙ (λ i. k *ℤ b.0 i +ℤ l *ℤ c.0 i) ∙ ring (k ∷ l ∷ []) (var 0 ⊗ num (pos 0) ⊕ var 1 ⊗ num (pos 0)) (num (pos 0)) refl,
  mix_balanced T Fs X k w l v b.1 c.1,
)

pub put_balanced : {A F : Type 0} (T : F → A → ℤ) (Fs : List F) {x : A} {X Y : List A} (q : Pick x X Y) (w : Weights Y) → Balanced T Fs Y w → Balanced T Fs X (put q (pos 0) w)
put_balanced T Fs {x} {X} {Y} q w = All-weaker (λ f. weigh Y (T f) w ≡ pos 0) (λ f. weigh X (T f) (put q (pos 0) w) ≡ pos 0) one Fs
  where
    one : (f : _) → weigh Y (T f) w ≡ pos 0 → weigh X (T f) (put q (pos 0) w) ≡ pos 0
    one f e = weigh-put q (T f) (pos 0) w ∙ ap (λ s. pos 0 *ℤ T f x +ℤ s) e ∙ ring (T f x ∷ []) (num (pos 0) ⊗ var 0 ⊕ num (pos 0)) (num (pos 0)) refl

pub without_balanced : {A F : Type 0} (T : F → A → ℤ) (Fs : List F) {x : A} {X Y : List A} (q : Pick x X Y) (w : Weights X)
    → at q w ≡ pos 0 → Balanced T Fs X w → Balanced T Fs Y (without q w)
without_balanced T Fs {x} {X} {Y} q w z = All-weaker (λ f. weigh X (T f) w ≡ pos 0) (λ f. weigh Y (T f) (without q w) ≡ pos 0) one Fs
  where
    scalar : (s c t d : ℤ) → s ≡ c *ℤ t +ℤ d → c ≡ pos 0 → s ≡ pos 0 → d ≡ pos 0
    scalar s c t d e h z = omega (arith, lin, ap (λ k. k *ℤ t) h ∙ nought_times t)

    one : (f : _) → weigh X (T f) w ≡ pos 0 → weigh Y (T f) (without q w) ≡ pos 0
    one f e = scalar (weigh X (T f) w) (at q w) (T f x) (weigh Y (T f) (without q w)) (weigh-without q (T f) w) z e

-- ---- a member of weight not 0
pub record Some {A : Type 0} (X : List A) (w : Weights X) : Type 0 where
  pub x : A
  pub rest : List A
  pub pick : Pick x X rest
  pub nonzero : ¬ (at pick w ≡ pos 0)

pub some_put : {A : Type 0} {x y : A} {X Y Z : List A} (q : Pick x X Y) (a : ℤ) (w : Weights Y) (p : Pick y Y Z) → ¬ (at p w ≡ pos 0) → Some X (put q a w)
some_put here a w p n = record { x = _; rest = _; pick = there p; nonzero = n }
some_put (there q) a w here n = record { x = _; rest = _; pick = here; nonzero = n }
some_put (there q) a w (there p) n = let r = some_put q a w.1 p n in record { x = r.x; rest = _; pick = there r.pick; nonzero = r.nonzero }

pub some_without : {A : Type 0} {x y : A} {X Y Z : List A} (q : Pick x X Y) (w : Weights X) (p : Pick y X Z) → at q w ≡ pos 0 → ¬ (at p w ≡ pos 0) → Some Y (without q w)
some_without here w here e n = absurd (n e)
some_without here w (there p) e n = record { x = _; rest = _; pick = p; nonzero = n }
some_without (there q) w here e n = record { x = _; rest = _; pick = here; nonzero = n }
some_without (there q) w (there p) e n = let r = some_without q w.1 p e n in record { x = r.x; rest = _; pick = there r.pick; nonzero = r.nonzero }

-- ---- elimination
pub record Kernel {A F : Type 0} (T : F → A → ℤ) (Fs : List F) (X : List A) : Type 0 where
  pub weights : Weights X
  pub some : Some X weights
  pub balanced : Balanced T Fs X weights

-- a column at which the row is not 0, or none
pivot : {A : Type 0} (f : A → ℤ) (X : List A) → ((x : A) × (Y : List A) × Pick x X Y × ¬ (f x ≡ pos 0)) ⊎ AllByRecursion (λ x. f x ≡ pos 0) X
pivot f [] = inr tt
pivot {A} f (x ∷ X) = go (ℤ_discrete (f x) (pos 0)) (pivot f X)
  where
    go : Dec (f x ≡ pos 0) → ((y : A) × (Y : List A) × Pick y X Y × ¬ (f y ≡ pos 0)) ⊎ AllByRecursion (λ x. f x ≡ pos 0) X
        → ((y : A) × (Y : List A) × Pick y (x ∷ X) Y × ¬ (f y ≡ pos 0)) ⊎ AllByRecursion (λ x. f x ≡ pos 0) (x ∷ X)
    go (no h) r = inl (x, X, here, h)
    go (yes h) (inl r) = inl (r.0, x ∷ r.1, there r.2, r.3)
    go (yes h) (inr r) = inr (h, r)

-- the row g, made 0 at the column x by the row f
abbrev reduced : {A F : Type 0} → (F → A → ℤ) → F → A → F → A → ℤ
reduced T f x g y = T f x *ℤ T g y +ℤ neg_ℤ (T g x) *ℤ T f y

by_pivot : {A F : Type 0} (T : F → A → ℤ) (f : F) (Fs : List F) {x : A} {X Y : List A} → Pick x X Y → ¬ (T f x ≡ pos 0) → Kernel (reduced T f x) Fs Y → Kernel T (f ∷ Fs) X
by_pivot {A} {F} T f Fs {x} {X} {Y} q h k = record {
  weights = put q a v;
  some = some_put q a v k.some.pick nonzero;
  balanced = (row f ∙ ring (c ∷ weigh Y (T f) k.weights ∷ []) (var 0 ⊗ var 1 ⊕ neg (var 0) ⊗ var 1) (num (pos 0)) refl, All-weaker _ _ others Fs k.balanced);
}
  where
    c : ℤ
    c = T f x

    a : ℤ
    a = neg_ℤ (weigh Y (T f) k.weights)

    v : Weights Y
    v = mix Y c k.weights (pos 0) k.weights

    row : (g : F) → weigh X (T g) (put q a v) ≡ c *ℤ weigh Y (T g) k.weights +ℤ neg_ℤ (T g x) *ℤ weigh Y (T f) k.weights
    row g = weigh-put q (T g) a v ∙ ap (λ s. a *ℤ T g x +ℤ s) (weigh_mix Y (T g) c k.weights (pos 0) k.weights)
        ∙ ring (c ∷ weigh Y (T f) k.weights ∷ weigh Y (T g) k.weights ∷ T g x ∷ [])
        (neg (var 1) ⊗ var 3 ⊕ (var 0 ⊗ var 2 ⊕ num (pos 0) ⊗ var 2)) (var 0 ⊗ var 2 ⊕ neg (var 3) ⊗ var 1) refl

    others : (g : F) → weigh Y (reduced T f x g) k.weights ≡ pos 0 → weigh X (T g) (put q a v) ≡ pos 0
    others g e = row g ∙ sym (weigh_two Y (T g) (T f) c (neg_ℤ (T g x)) k.weights) ∙ e

    nonzero : ¬ (at k.some.pick v ≡ pos 0)
    nonzero e = let b = at k.some.pick k.weights in k.some.nonzero
        (cancel c b h (ring (c ∷ b ∷ []) (var 0 ⊗ var 1) (var 0 ⊗ var 1 ⊕ num (pos 0) ⊗ var 1) refl ∙ sym (at_mix k.some.pick c k.weights (pos 0) k.weights) ∙ e))

nothing : {A : Type 0} (X : List A) → Weights X
nothing [] = tt
nothing (x ∷ X) = (pos 0, nothing X)

pub kernel : {A F : Type 0} (T : F → A → ℤ) (Fs : List F) (X : List A) → length Fs < length X → Kernel T Fs X
kernel T [] [] h = absurd (omega arith)
kernel T [] (x ∷ X) h = record { weights = (pos 1, nothing X); some = record { x = x; rest = X; pick = here; nonzero = λ e. absurd (omega (arith, lin)) }; balanced = tt }
kernel {A} {F} T (f ∷ Fs) X h = go (pivot (T f) X) (kernel T Fs X (omega arith)) (λ x Y l. kernel (reduced T f x) Fs Y l)
  where
    go : ((x : A) × (Y : List A) × Pick x X Y × ¬ (T f x ≡ pos 0)) ⊎ AllByRecursion (λ x. T f x ≡ pos 0) X → Kernel T Fs X
        → ((x : A) (Y : List A) → length Fs < length Y → Kernel (reduced T f x) Fs Y) → Kernel T (f ∷ Fs) X
    go (inr a) k r = record { weights = k.weights; some = k.some; balanced = (weigh_none (T f) X k.weights a, k.balanced) }
    go (inl p) k r = by_pivot T f Fs p.2 p.3 (r p.0 p.1 (omega (arith, length_pick p.2)))

-- ---- columns that no weights on the rows balance, but 0
abbrev pub Full : {A F : Type 0} → (F → A → ℤ) → List F → List A → Type 0
Full T Fs X = (u : Weights Fs) → Some Fs u → ¬ (Balanced (λ x f. T f x) X Fs u)

-- they are at least as many as the rows
pub full_few : {A F : Type 0} (T : F → A → ℤ) (Fs : List F) (X : List A) → length X < length Fs → ¬ (Full T Fs X)
full_few T Fs X h full = let k = kernel (λ x f. T f x) X Fs h in full k.weights k.some k.balanced

-- weighing by rows and by columns
exchange : {A F : Type 0} (T : F → A → ℤ) (Fs : List F) (X : List A) (u : Weights Fs) (w : Weights X)
    → weigh X (λ x. weigh Fs (λ f. T f x) u) w ≡ weigh Fs (λ f. weigh X (T f) w) u
exchange T Fs [] u w = sym (weigh_none (λ f. pos 0) Fs u (All-weaker (λ f. ℤ) (λ f. pos 0 ≡ pos 0) (λ f a. refl) Fs u))
exchange T Fs (x ∷ X) u w =
    ap (λ s. w.0 *ℤ weigh Fs (λ f. T f x) u +ℤ s) (exchange T Fs X u w.1 ∙ sym (one_times (weigh Fs (λ f. weigh X (T f) w.1) u)))
    ∙ sym (weigh_two Fs (λ f. T f x) (λ f. weigh X (T f) w.1) w.0 (pos 1) u)
    ∙ (λ i. weigh Fs (λ f. w.0 *ℤ T f x +ℤ one_times (weigh X (T f) w.1) i) u)

all_put : {A : Type 0} (Q : A → Type 0) {y : A} {X Y : List A} → Pick y X Y → Q y → AllByRecursion Q Y → AllByRecursion Q X
all_put Q here h a = (h, a)
all_put Q (there q) h a = (a.0, all_put Q q h a.1)

-- a column whose weight in some balance is not 0 may be dropped
pub full_drop : {A F : Type 0} (T : F → A → ℤ) (Fs : List F) {y : A} {X Y : List A} (q : Pick y X Y) (w : Weights X) → ¬ (at q w ≡ pos 0)
    → Balanced T Fs X w → Full T Fs X → Full T Fs Y
full_drop T Fs {y} {X} {Y} q w n b full u s c = full u s (all_put (λ x. weigh Fs (λ f. T f x) u ≡ pos 0) q dropped c)
  where
    scalar : (a b s : ℤ) → s ≡ a +ℤ b → s ≡ pos 0 → b ≡ pos 0 → a ≡ pos 0
    scalar a b s e h k = omega (arith, lin)

    dropped : weigh Fs (λ f. T f y) u ≡ pos 0
    dropped = cancel (at q w) (weigh Fs (λ f. T f y) u) n
        (scalar _ (weigh Y (λ x. weigh Fs (λ f. T f x) u) (without q w)) (weigh X (λ x. weigh Fs (λ f. T f x) u) w) (weigh-without q (λ x. weigh Fs (λ f. T f x) u) w)
        (exchange T Fs X u w ∙ weigh_none (λ f. weigh X (T f) w) Fs u b) (weigh_none (λ x. weigh Fs (λ f. T f x) u) Y (without q w) c))

-- two balances on one column more than there are rows are proportional
pub proportional : {A F : Type 0} (T : F → A → ℤ) (Fs : List F) (X : List A) → length X ≡ suc (length Fs) → Full T Fs X
    → (w v : Weights X) → Balanced T Fs X w → Balanced T Fs X v
    → {x y : A} {Y Z : List A} (k : Pick x X Y) → ¬ (at k w ≡ pos 0) → (j : Pick y X Z) → at k w *ℤ at j v ≡ at k v *ℤ at j w
proportional T Fs X e full w v b c {Y = Y} k n j = scalar (at k w) (at j v) (at k v) (at j w) _ (at_mix j (at k w) v (neg_ℤ (at k v)) w) (go (ℤ_discrete (at j μ) (pos 0)))
  where
    μ : Weights X
    μ = mix X (at k w) v (neg_ℤ (at k v)) w

    at_k : at k μ ≡ pos 0
    at_k = at_mix k (at k w) v (neg_ℤ (at k v)) w ∙ ring (at k w ∷ at k v ∷ []) (var 0 ⊗ var 1 ⊕ neg (var 1) ⊗ var 0) (num (pos 0)) refl

    go : Dec (at j μ ≡ pos 0) → at j μ ≡ pos 0
    go (yes z) = z
    go (no m) =
        let s = some_without k μ j at_k m in
        absurd (full_few T Fs s.rest (omega (arith, length_pick k, length_pick s.pick))
        (full_drop T Fs s.pick (without k μ) s.nonzero (without_balanced T Fs k μ at_k (mix_balanced T Fs X (at k w) v (neg_ℤ (at k v)) w c b))
        (full_drop T Fs k w n b full)))

    scalar : (a b c d s : ℤ) → s ≡ a *ℤ b +ℤ neg_ℤ c *ℤ d → s ≡ pos 0 → a *ℤ b ≡ c *ℤ d
    scalar a b c d s e h = omega (arith, lin, e, h, neg-times c d)
