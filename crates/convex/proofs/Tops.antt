-- The tops of a list, its corners with the greatest product with n: a search among them, their three shapes, and the tops of mirrored lists and of sums.
use Rattle.std.proofs.Common.{◌≡◌, ◌⊎◌, List, [], ◌∷◌, pos, ◌+ℤ◌, ◌≤ℤ◌, sym, refl, ap, ◌∙◌, subst, inl, inr, arith}
use lib.IntN.{ℤ_discrete}
use Rattle.std.specs.List.{AllByRecursion}
use Rattle.vector.specs.declared.Vector.{Vector}
use Rattle.vector.specs.Vectors.{◌·◌, ◌⨯◌, ◌+ᵛ◌, ◌-ᵛ◌, negᵛ, 𝟎}
use Rattle.vector.proofs.Order.{lin}
use Rattle.vector.proofs.Identities.{◌+ₑ◌, ◌-ₑ◌, vec, env, ringᵛ, vector_discrete, shift_minus, neg-neg, dot-minus, dot-plus, dot-neg, neg-dot}
use Rattle.convex.specs.Points.{◌∈◌}
use Rattle.convex.specs.Products.{Top}
use Rattle.convex.specs.Faces.{InLine, Face}
use Rattle.convex.specs.Sides.{mirrored, sums}
use Rattle.convex.proofs.Members.{all_in, all_from_in, find, in_map, from_map, in_sums, from_sums}
use Rattle.convex.proofs.Lines.{line_plus}

-- no corner has more than a top
pub at_most : (n : Vector) (cs : List Vector) (p c : Vector) → Top n cs p → c ∈ cs → (n · c) ≤ℤ (n · p)
at_most n cs p c t h = all_in (λ d. (n · d) ≤ℤ (n · p)) cs t.most c h

-- two tops have one product
pub same_product : (n : Vector) (cs : List Vector) (p q : Vector) → Top n cs p → Top n cs q → n · q ≡ n · p
same_product n cs p q s t = omega (arith, lin, at_most n cs p q s t.member, at_most n cs q p t s.member)

pub level : (n : Vector) (cs : List Vector) (p q : Vector) → Top n cs p → Top n cs q → n · (q -ᵛ p) ≡ pos 0
level n cs p q s t = omega (arith, lin, dot-minus n q p, same_product n cs p q s t)

-- a corner with the product of a top is a top
pub top_from : (n : Vector) (cs : List Vector) (p q : Vector) → Top n cs p → q ∈ cs → n · q ≡ n · p → Top n cs q
top_from n cs p q t h e = record { member = h; most = subst (λ k. AllByRecursion (λ d. (n · d) ≤ℤ k) cs) (sym e) t.most }

-- ---- a search: a top with Q, or none
pub find_top : (n : Vector) (cs : List Vector) (p : Vector) → Top n cs p → (Q : Vector → Type 0) → ((v : Vector) → Dec (Q v))
    → ((v : Vector) × Top n cs v × Q v) ⊎ ((v : Vector) → Top n cs v → ¬ (Q v))
find_top n cs p t Q d = elim (find (λ v. (n · v ≡ n · p) × Q v) (λ v. both v (ℤ_discrete (n · v) (n · p)) (d v)) cs) [
  | inl r ↦ inl (r.0, top_from n cs p r.0 t r.1 r.2.0, r.2.1)
  | inr none ↦ inr (λ v s q. all_in (λ v. ¬ ((n · v ≡ n · p) × Q v)) cs none v s.member (same_product n cs p v t s, q))
]
  where
    both : (v : Vector) → Dec (n · v ≡ n · p) → Dec (Q v) → Dec ((n · v ≡ n · p) × Q v)
    both v (yes a) (yes b) = yes (a, b)
    both v (yes a) (no b) = no (λ r. b r.1)
    both v (no a) b = no (λ r. a r.0)

-- a top at which f is not u, or f is u at all: with f v = v, a top other than u; with f r = (q − p) ⨯ (r − p) and u = 𝟎, a top off the line of p and q
pub differs : (n : Vector) (cs : List Vector) (p : Vector) → Top n cs p → (f : Vector → Vector) (u : Vector)
    → ((v : Vector) × Top n cs v × (¬ (f v ≡ u))) ⊎ ((v : Vector) → Top n cs v → f v ≡ u)
differs n cs p t f u = elim (find_top n cs p t (λ v. ¬ (f v ≡ u)) (λ v. other v (vector_discrete (f v) u))) [
  | inl r ↦ inl r
  | inr none ↦ inr (λ v s. same v (none v s) (vector_discrete (f v) u))
]
  where
    other : (v : Vector) → Dec (f v ≡ u) → Dec (¬ (f v ≡ u))
    other v (yes e) = no (λ h. h e)
    other v (no h) = yes h

    same : (v : Vector) → ¬ (¬ (f v ≡ u)) → Dec (f v ≡ u) → f v ≡ u
    same v h (yes e) = e
    same v h (no k) = absurd (h k)

-- ---- the three shapes: one corner, corners on one line, or a face
pub data Shape (n : Vector) (cs : List Vector) (p : Vector) : Type 0 where
  corner : ((q : Vector) → Top n cs q → q ≡ p) → Shape n cs p
  edge : (q : Vector) → Top n cs q → ¬ (p ≡ q) → ((r : Vector) → Top n cs r → InLine p q r) → Shape n cs p
  face : Face n cs → Shape n cs p

pub shape : (n : Vector) (cs : List Vector) (p : Vector) → ¬ (n ≡ 𝟎) → Top n cs p → Shape n cs p
shape n cs p h t = elim (differs n cs p t (λ v. v) p) [
  | inr all ↦ corner all
  | inl (q, s, k) ↦ elim (differs n cs p t (λ r. (q -ᵛ p) ⨯ (r -ᵛ p)) 𝟎) [
    | inr all ↦ edge q s (λ e. k (sym e)) all
    | inl (r, w, off) ↦ face (record { nonzero = h; p = p; q = q; r = r; p_top = t; q_top = s; r_top = w; spread = off })
  ]
]

-- ---- tops of a mirrored list
pub mirror_top : (n : Vector) (cs : List Vector) (c : Vector) → Top (negᵛ n) cs c → Top n (mirrored cs) (negᵛ c)
mirror_top n cs c t = record {
  member = in_map negᵛ cs c t.member;
  most = all_from_in (λ d. (n · d) ≤ℤ (n · negᵛ c)) (mirrored cs) (λ d h.
      let r = from_map negᵛ cs d h in
      subst (λ (x : Vector). (n · x) ≤ℤ (n · negᵛ c)) (sym r.2)
      (omega (arith, lin, at_most (negᵛ n) cs c r.0 t r.1, neg-dot n c, neg-dot n r.0, dot-neg n c, dot-neg n r.0)));
}

pub top_of_mirror : (n : Vector) (cs : List Vector) (c : Vector) → Top n (mirrored cs) c → Top (negᵛ n) cs (negᵛ c)
top_of_mirror n cs c t = record {
  member = let r = from_map negᵛ cs c t.member in subst (λ (x : Vector). x ∈ cs) (sym (ap negᵛ r.2 ∙ neg-neg r.0)) r.1;
  most = all_from_in (λ d. (negᵛ n · d) ≤ℤ (negᵛ n · negᵛ c)) cs (λ d h.
      omega (arith, lin, at_most n (mirrored cs) c (negᵛ d) t (in_map negᵛ cs d h), neg-dot n d, dot-neg n d, neg-dot n (negᵛ c), dot-neg n c));
}

-- ---- tops of a sum: a top of the first and a top of the second, added
module _ (n : Vector) (A B : List Vector) where
  pub sum_top : (a b : Vector) → Top n A a → Top n B b → Top n (sums A B) (a +ᵛ b)
  sum_top a b s t = record {
    member = in_sums A B a b s.member t.member;
    most = all_from_in (λ d. (n · d) ≤ℤ (n · (a +ᵛ b))) (sums A B) (λ d h.
        let r = from_sums A B d h in
        subst (λ (x : Vector). (n · x) ≤ℤ (n · (a +ᵛ b))) (sym r.4)
        (omega (arith, lin, at_most n A a r.0 s r.2, at_most n B b r.1 t r.3, dot-plus n r.0 r.1, dot-plus n a b)));
  }

  pub top_of_sum : (v : Vector) → Top n (sums A B) v → (a : Vector) × (b : Vector) × Top n A a × Top n B b × (v ≡ a +ᵛ b)
  top_of_sum v t = let r = from_sums A B v t.member in go r.0 r.1 r.2 r.3 r.4
    where
      go : (a b : Vector) → a ∈ A → b ∈ B → v ≡ a +ᵛ b → (a : Vector) × (b : Vector) × Top n A a × Top n B b × (v ≡ a +ᵛ b)
      go a b h k e = (
        a,
        b,
        record { member = h; most = all_from_in (λ d. (n · d) ≤ℤ (n · a)) A (λ d i. omega (arith, lin, most d b i k, dot-plus n d b)) },
        record { member = k; most = all_from_in (λ d. (n · d) ≤ℤ (n · b)) B (λ d i. omega (arith, lin, most a d h i, dot-plus n a d)) },
        e,
      )
        where
          most : (c d : Vector) → c ∈ A → d ∈ B → (n · (c +ᵛ d)) ≤ℤ (n · a +ℤ n · b)
          most c d i j = subst (λ k. (n · (c +ᵛ d)) ≤ℤ k) (ap (λ (x : Vector). n · x) e ∙ dot-plus n a b) (at_most n (sums A B) v (c +ᵛ d) t (in_sums A B c d i j))

-- ---- tops on the line through p with direction w
abbrev pub Along : Vector → List Vector → Vector → Vector → Type 0
Along n cs p w = (q : Vector) → Top n cs q → w ⨯ (q -ᵛ p) ≡ 𝟎

module _ (n : Vector) (A B : List Vector) (p a b w : Vector) (e : p ≡ a +ᵛ b) where
  pub along_sum : Along n A a w → Along n B b w → Along n (sums A B) p w
  along_sum f g q t =
      let r = top_of_sum n A B q t in
      (λ i. w ⨯ (r.4 i -ᵛ e i)) ∙ ap (λ (x : Vector). w ⨯ x) (apiece r.0 r.1 a b) ∙ line_plus w (r.0 -ᵛ a) (r.1 -ᵛ b) (f r.0 r.2) (g r.1 r.3)
    where
      apiece : (c d a b : Vector) → (c +ᵛ d) -ᵛ (a +ᵛ b) ≡ (c -ᵛ a) +ᵛ (d -ᵛ b)
      apiece c d a b = ringᵛ (env (c ∷ d ∷ a ∷ b ∷ []) []) ((vec 0 +ₑ vec 1) -ₑ (vec 2 +ₑ vec 3)) ((vec 0 -ₑ vec 2) +ₑ (vec 1 -ₑ vec 3)) refl refl refl

  pub along_first : Top n B b → Along n (sums A B) p w → Along n A a w
  along_first t f q s = ap (λ (x : Vector). w ⨯ x) (sym (shift_minus q a b)) ∙ ap (λ (x : Vector). w ⨯ ((q +ᵛ b) -ᵛ x)) (sym e) ∙ f (q +ᵛ b) (sum_top n A B q b s t)

  pub along_second : Top n A a → Along n (sums A B) p w → Along n B b w
  along_second t f q s = ap (λ (x : Vector). w ⨯ x) (less q a b) ∙ ap (λ (x : Vector). w ⨯ ((a +ᵛ q) -ᵛ x)) (sym e) ∙ f (a +ᵛ q) (sum_top n A B a q t s)
    where
      less : (q a b : Vector) → q -ᵛ b ≡ (a +ᵛ q) -ᵛ (a +ᵛ b)
      less q a b = ringᵛ (env (q ∷ a ∷ b ∷ []) []) (vec 0 -ₑ vec 2) ((vec 1 +ₑ vec 0) -ₑ (vec 1 +ₑ vec 2)) refl refl refl
