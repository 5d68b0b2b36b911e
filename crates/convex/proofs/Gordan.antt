-- For every list of vectors there is a direction whose every product is negative, or a relation (Gordan's alternative).
use Rattle.std.proofs.Common.{◌≡◌, ℕ, zero, suc, ◌⊎◌, List, [], ◌∷◌, map, length, ℤ, pos, ◌+ℤ◌, ◌-ℤ◌, ◌*ℤ◌, neg_ℤ, nat_abs, ◌≤ℤ◌, ◌<ℤ◌, sym, refl, ap, ◌∙◌, inl, inr, arith}
use lib.ListN.{length-map}
use Rattle.vector.specs.declared.Vector.{Vector}
use Rattle.vector.specs.Vectors.{◌·◌, ◌+ᵛ◌, ◌-ᵛ◌, ◌∗◌, 𝟎}
use Rattle.vector.proofs.Ring.{var, num, ◌⊗◌, ◌⊝◌, neg, ring}
use Rattle.vector.proofs.Order.{lin, Sign, minus, nought, plus, sign, mul_pos, mul_nonpos, mul_below, times_nought}
use Rattle.vector.proofs.Identities.{◌·ₑ◌, ◌+ₑ◌, ◌-ₑ◌, ◌∗ₑ◌, vec, env, ringᵛ, 𝟎ₑ, vector_discrete, norm_pos, dot-𝟎, dot-weighted, no_times}
use Rattle.convex.proofs.Relations.{sum, combine, NoneBelow, Relation, scale, scale_many, scale_nonneg, scale_sum, scale_combine, zeros, zeros_are}
use Rattle.convex.proofs.Directions.{Strict}

-- ---- a strict direction bent towards another
dot_bent : (K : ℤ) (m n p : Vector) → (K ∗ m -ᵛ n) · p ≡ K *ℤ (m · p) -ℤ (n · p)
dot_bent K m n p = ring (env (m ∷ n ∷ p ∷ []) (K ∷ [])) ((var 9 ∗ₑ vec 0 -ₑ vec 1) ·ₑ vec 2) (var 9 ⊗ (vec 0 ·ₑ vec 2) ⊝ (vec 1 ·ₑ vec 2)) refl

-- from some K on, K ∗ m − n is negative wherever m is
record Enough (m n : Vector) (P : List Vector) : Type 0 where
  from : ℤ
  positive : pos 0 <ℤ from
  enough : (K : ℤ) → from ≤ℤ K → Strict (K ∗ m -ᵛ n) P

find_enough : (m n : Vector) (P : List Vector) → Strict m P → Enough m n P
find_enough m n [] s = record { from = pos 1; positive = omega (arith, lin); enough = λ K h. tt }
find_enough m n (p ∷ P) s =
    let r = find_enough m n P s.1 in
    let a : ℤ = pos (nat_abs (n · p)) in
    let h = r.positive in
    record {
      from = r.from +ℤ a;
      positive = omega (arith, lin);
      enough = λ K k. (here K (omega (arith, lin)) (omega (arith, lin)), r.enough K (omega (arith, lin)));
    }
  where
    here : (K : ℤ) → pos 0 <ℤ K → neg_ℤ (n · p) <ℤ K → ((K ∗ m -ᵛ n) · p) <ℤ pos 0
    here K h k = omega (arith, lin, dot_bent K m n p, mul_below K (m · p) (omega (arith, lin)) s.0)

bend : (m n p : Vector) (P : List Vector) → m · p ≡ pos 0 → pos 0 <ℤ (n · p) → Strict m P → (d : Vector) × Strict d (p ∷ P)
bend m n p P e h s =
    let r = find_enough m n P s in
    let K = r.from in
    (K ∗ m -ᵛ n, (omega (arith, lin, dot_bent K m n p, ap (λ t. K *ℤ t) e ∙ times_nought K), r.enough K (omega (arith, lin))))

-- ---- q moved along p until n is 0 there
abbrev moved : Vector → Vector → Vector → Vector
moved n p q = (n · p) ∗ q -ᵛ (n · q) ∗ p

dot_moved : (n p y q : Vector) → y · moved n p q ≡ ((n · p) ∗ y -ᵛ (y · p) ∗ n) · q
dot_moved n p y q =
    let N = vec 0 in let P = vec 1 in let Y = vec 2 in let Q = vec 3 in
    ring (env (n ∷ p ∷ y ∷ q ∷ []) []) (Y ·ₑ ((N ·ₑ P) ∗ₑ Q -ₑ (N ·ₑ Q) ∗ₑ P)) (((N ·ₑ P) ∗ₑ Y -ₑ (Y ·ₑ P) ∗ₑ N) ·ₑ Q) refl

none_moved : (n p : Vector) → 𝟎 ≡ moved n p 𝟎
none_moved n p = ringᵛ (env (n ∷ p ∷ []) []) 𝟎ₑ ((vec 0 ·ₑ vec 1) ∗ₑ 𝟎ₑ -ₑ (vec 0 ·ₑ 𝟎ₑ) ∗ₑ vec 1) refl refl refl

-- a sum of moved vectors is the sum, moved
moved_sum : (n p : Vector) (ws : List ℤ) (P : List Vector) → combine ws (map (moved n p) P) ≡ moved n p (combine ws P)
moved_sum n p [] P = none_moved n p
moved_sum n p (w ∷ ws) [] = none_moved n p
moved_sum n p (w ∷ ws) (q ∷ P) = ap (λ (t : Vector). w ∗ moved n p q +ᵛ t) (moved_sum n p ws P) ∙ more n p q (combine ws P) w
  where
    more : (n p q C : Vector) (w : ℤ) → w ∗ moved n p q +ᵛ moved n p C ≡ moved n p (w ∗ q +ᵛ C)
    more n p q C w =
        let N = vec 0 in let P = vec 1 in let Q = vec 2 in let C' = vec 3 in let w' = var 12 in
        ringᵛ (env (n ∷ p ∷ q ∷ C ∷ []) (w ∷ []))
        (w' ∗ₑ ((N ·ₑ P) ∗ₑ Q -ₑ (N ·ₑ Q) ∗ₑ P) +ₑ ((N ·ₑ P) ∗ₑ C' -ₑ (N ·ₑ C') ∗ₑ P))
        ((N ·ₑ P) ∗ₑ (w' ∗ₑ Q +ₑ C') -ₑ (N ·ₑ (w' ∗ₑ Q +ₑ C')) ∗ₑ P) refl refl refl

-- ---- one vector more: a relation of the rest, the vector 0, or a relation of the moved rest
later : (p : Vector) (P : List Vector) → Relation P → Relation (p ∷ P)
later p P r = record {
  weights = pos 0 ∷ r.weights;
  many = ap suc r.many;
  nonneg = (omega (arith, lin), r.nonneg);
  some = omega (arith, lin, r.some);
  balanced = no_times p (combine r.weights P) ∙ r.balanced;
}

at_0 : (p : Vector) (P : List Vector) → p ≡ 𝟎 → Relation (p ∷ P)
at_0 p P e = let z = zeros_are P in record {
  weights = pos 1 ∷ zeros P;
  many = ap suc z.many;
  nonneg = (omega (arith, lin), z.nonneg);
  some = omega (arith, lin, z.none);
  balanced = (λ i. pos 1 ∗ e i +ᵛ z.point i);
}

weighted_below : (n : Vector) (ws : List ℤ) (P : List Vector) → NoneBelow ws → Strict n P → (n · combine ws P) ≤ℤ pos 0
weighted_below n [] P h s = omega (arith, lin, dot-𝟎 n)
weighted_below n (w ∷ ws) [] h s = omega (arith, lin, dot-𝟎 n)
weighted_below n (w ∷ ws) (p ∷ P) h s =
    omega (arith, lin, dot-weighted n w p (combine ws P), mul_nonpos w (n · p) h.0 (omega (arith, lin, s.0)), weighted_below n ws P h.1 s.1)

unmoved : (n p : Vector) (P : List Vector) → pos 0 <ℤ (n · p) → Strict n P → Relation (map (moved n p) P) → Relation (p ∷ P)
unmoved n p P h s r = record {
  weights = neg_ℤ (n · C) ∷ scale (n · p) ws;
  many = ap suc (scale_many (n · p) ws ∙ r.many ∙ length-map P (moved n p));
  nonneg = (omega (arith, lin, low), scale_nonneg (n · p) ws (omega (arith, lin)) r.nonneg);
  some = omega (arith, lin, low, scale_sum (n · p) ws, mul_pos (n · p) (sum ws) h r.some);
  balanced = ap (λ (v : Vector). neg_ℤ (n · C) ∗ p +ᵛ v) (scale_combine (n · p) ws P) ∙ turned (n · p) (n · C) p C ∙ sym (moved_sum n p ws P) ∙ r.balanced;
}
  where
    ws : List ℤ
    ws = r.weights

    C : Vector
    C = combine ws P

    low : (n · C) ≤ℤ pos 0
    low = weighted_below n ws P r.nonneg s

    turned : (k c : ℤ) (p C : Vector) → neg_ℤ c ∗ p +ᵛ k ∗ C ≡ k ∗ C -ᵛ c ∗ p
    turned k c p C = ringᵛ (env (p ∷ C ∷ []) (k ∷ c ∷ [])) (neg (var 7) ∗ₑ vec 0 +ₑ var 6 ∗ₑ vec 1) (var 6 ∗ₑ vec 1 -ₑ var 7 ∗ₑ vec 0) refl refl refl

-- or a strict direction of the moved rest
strict_moved : (n p : Vector) (P : List Vector) → pos 0 <ℤ (n · p) → Strict n P → (y : Vector) → Strict y (map (moved n p) P) → (d : Vector) × Strict d (p ∷ P)
strict_moved n p P h s y t = bend m n p P (flat n p y) h (below P t)
  where
    m : Vector
    m = (n · p) ∗ y -ᵛ (y · p) ∗ n

    below : (Q : List Vector) → Strict y (map (moved n p) Q) → Strict m Q
    below [] t = tt
    below (q ∷ Q) t = (omega (arith, lin, dot_moved n p y q, t.0), below Q t.1)

    flat : (n p y : Vector) → ((n · p) ∗ y -ᵛ (y · p) ∗ n) · p ≡ pos 0
    flat n p y = ring (env (n ∷ p ∷ y ∷ []) []) (((vec 0 ·ₑ vec 1) ∗ₑ vec 2 -ₑ (vec 2 ·ₑ vec 1) ∗ₑ vec 0) ·ₑ vec 1) (num (pos 0)) refl

abbrev Alternative : List Vector → Type 0
Alternative P = ((n : Vector) × Strict n P) ⊎ Relation P

step : (p : Vector) (P : List Vector) → Alternative P → ((n : Vector) → Alternative (map (moved n p) P)) → Alternative (p ∷ P)
step p P (inr r) f = inr (later p P r)
step p P (inl u) f = go (sign (u.0 · p))
  where
    level : u.0 · p ≡ pos 0 → Dec (p ≡ 𝟎) → Alternative (p ∷ P)
    level e (yes q) = inr (at_0 p P q)
    level e (no q) = inl (bend u.0 p p P e (norm_pos p q) u.1)

    go : Sign (u.0 · p) → Alternative (p ∷ P)
    go (minus h) = inl (u.0, (h, u.1))
    go (nought e) = level e (vector_discrete p 𝟎)
    go (plus h) = elim (f u.0) [ inl y ↦ inl (strict_moved u.0 p P h u.1 y.0 y.1) | inr r ↦ inr (unmoved u.0 p P h u.1 r) ]

-- by the length, since the moved rest is another list
by_length : (k : ℕ) (P : List Vector) → length P ≡ k → Alternative P
by_length zero [] e = inl (𝟎, tt)
by_length zero (p ∷ P) e = absurd (omega arith)
by_length (suc k) [] e = absurd (omega arith)
by_length (suc k) (p ∷ P) e =
    let l : length P ≡ k = omega arith in
    step p P (by_length k P l) (λ n. by_length k (map (moved n p) P) (length-map P (moved n p) ∙ l))

pub gordan : (P : List Vector) → ((n : Vector) × Strict n P) ⊎ Relation P
gordan P = by_length (length P) P refl
