-- A sum keeps the laws. Its tops are sums of a top of the first list and a top of the second.
-- Where the tops of either list are a face, the direction is a multiple of a listed flat. Otherwise those of each are one corner, or on one line along
-- a listed ridge. For a face of the sum there are two such ridges, on different lines, and its direction is a multiple of their product or of the opposite.
-- For an edge of the sum the tops of both lists are on its line, and two of the first or two of the second differ, so a listed ridge is along that line.
use Rattle.std.proofs.Common.{◌≡◌, List, [], ◌∷◌, ◌++◌, pos, sym, refl, ap, ◌∙◌, subst, inl, inr}
use Rattle.vector.specs.declared.Vector.{Vector}
use Rattle.vector.specs.Vectors.{◌·◌, ◌⨯◌, ◌+ᵛ◌, ◌-ᵛ◌, negᵛ, 𝟎}
use Rattle.vector.proofs.Identities.{◌⨯ₑ◌, ◌-ₑ◌, 𝟎ₑ, vec, env, ringᵛ, vector_discrete, along_line}
use Rattle.convex.specs.Points.{◌∈◌}
use Rattle.convex.specs.Products.{Top}
use Rattle.convex.specs.Sides.{Multiple, FlatLaw, RidgeLaw, Sided, sums, products_with, products, sum_flats}
use Rattle.convex.specs.Theorems.{SumKeepsLaws}
use Rattle.convex.proofs.Members.{in_left, in_right}
use Rattle.convex.proofs.Lines.{apart, flip, through, normal_line, either_way}
use Rattle.convex.proofs.Tops.{level, corner, edge, face, shape, top_of_sum, Along, along_sum, along_first, along_second}

-- ---- the listed products of two ridges
module _ (u v : Vector) where
  in_products_with : (ts : List Vector) → v ∈ ts → ((u ⨯ v) ∈ products_with u ts) × (negᵛ (u ⨯ v) ∈ products_with u ts)
  in_products_with [] k = absurd k
  in_products_with (t ∷ ts) (inl e) = (inl (ap (λ (x : Vector). u ⨯ x) e), inr (inl (ap (λ (x : Vector). negᵛ (u ⨯ x)) e)))
  in_products_with (t ∷ ts) (inr k) = let r = in_products_with ts k in (inr (inr r.0), inr (inr r.1))

  in_products : (rs ts : List Vector) → u ∈ rs → v ∈ ts → ((u ⨯ v) ∈ products rs ts) × (negᵛ (u ⨯ v) ∈ products rs ts)
  in_products [] ts h k = absurd h
  in_products (r ∷ rs) ts (inl e) k =
      let c = in_products_with ts k in
      let at = λ (x : Vector) (i : x ∈ products_with u ts). in_left (products_with r ts) (products rs ts) x (subst (λ (y : Vector). x ∈ products_with y ts) e i) in
      (at (u ⨯ v) c.0, at (negᵛ (u ⨯ v)) c.1)
  in_products (r ∷ rs) ts (inr h) k =
      let c = in_products rs ts h k in
      (in_right (products_with r ts) (products rs ts) (u ⨯ v) c.0, in_right (products_with r ts) (products rs ts) (negᵛ (u ⨯ v)) c.1)

-- ---- what the laws say of the tops of a list, of which p is one
data Listed (n : Vector) (cs fs rs : List Vector) (p : Vector) : Type 0 where
  flat : (f : Vector) → f ∈ fs → Multiple n f → Listed n cs fs rs p
  ridge : (u : Vector) → u ∈ rs → ¬ (u ≡ 𝟎) → n · u ≡ pos 0 → Along n cs p u → Listed n cs fs rs p
  single : ((w : Vector) → Along n cs p w) → Listed n cs fs rs p

listed : (cs fs rs : List Vector) → Sided cs fs rs → (n p : Vector) → ¬ (n ≡ 𝟎) → Top n cs p → Listed n cs fs rs p
listed cs fs rs s n p h t = elim (shape n cs p h t) [
  | corner all ↦ single (λ w q k. ap (λ (x : Vector). w ⨯ (x -ᵛ p)) (all q k) ∙ nothing w p)
  | edge q k d line ↦
      let w = q -ᵛ p in
      let hw = apart p q d in
      let r = s.ridges n (record { nonzero = h; p = p; q = q; p_top = t; q_top = k; differ = d; line = line }) in
      let u = r.0 in
      let e = flip u w r.3 in
      ridge u r.1 r.2 (along_line w u n hw e (level n cs p q t k)) (λ v i. through w u (v -ᵛ p) hw e (line v i))
  | face f ↦ let r = s.flats n f in flat r.0 r.1 r.2
]
  where
    nothing : (w p : Vector) → w ⨯ (p -ᵛ p) ≡ 𝟎
    nothing w p = ringᵛ (env (w ∷ p ∷ []) []) (vec 0 ⨯ₑ (vec 1 -ₑ vec 1)) 𝟎ₑ refl refl refl

-- tops on a line, of which two differ, are along a listed ridge
ridge_along : (cs rs : List Vector) → RidgeLaw cs rs → (n p q w : Vector) → ¬ (n ≡ 𝟎) → Top n cs p → Top n cs q → ¬ (p ≡ q) → ¬ (w ≡ 𝟎) → Along n cs p w
    → (u : Vector) × u ∈ rs × (¬ (u ≡ 𝟎)) × (u ⨯ w ≡ 𝟎)
ridge_along cs rs law n p q w h s t d hw f =
    let r = law n (record { nonzero = h; p = p; q = q; p_top = s; q_top = t; differ = d; line = λ v k. through w (q -ᵛ p) (v -ᵛ p) hw (f q t) (f v k) }) in
    (r.0, r.1, r.2, through (q -ᵛ p) r.0 w (apart p q d) (flip r.0 (q -ᵛ p) r.3) (flip w (q -ᵛ p) (f q t)))

-- ---- the two laws
module _ (A fs rs B gs ts : List Vector) (s_a : Sided A fs rs) (s_b : Sided B gs ts) where
  in_first : (f : Vector) → f ∈ fs → f ∈ sum_flats fs rs gs ts
  in_first f h = in_left (fs ++ gs) (products rs ts) f (in_left fs gs f h)

  in_second : (f : Vector) → f ∈ gs → f ∈ sum_flats fs rs gs ts
  in_second f h = in_left (fs ++ gs) (products rs ts) f (in_right fs gs f h)

  in_third : (f : Vector) → f ∈ products rs ts → f ∈ sum_flats fs rs gs ts
  in_third f h = in_right (fs ++ gs) (products rs ts) f h

  sum_flat_law : FlatLaw (sums A B) (sum_flats fs rs gs ts)
  sum_flat_law n f = go (top_of_sum n A B f.p f.p_top)
    where
      Found : Type 0
      Found = (g : Vector) × g ∈ sum_flats fs rs gs ts × Multiple n g

      go : (a : Vector) × (b : Vector) × Top n A a × Top n B b × (f.p ≡ a +ᵛ b) → Found
      go (a, b, s, t, e) = found (listed A fs rs s_a n a f.nonzero s) (listed B gs ts s_b n b f.nonzero t)
        where
          -- the three tops of the face are not on one line
          no_line : (w : Vector) → ¬ (w ≡ 𝟎) → Along n A a w → Along n B b w → ⊥
          no_line w h c d =
              let on = along_sum n A B f.p a b w e c d in
              f.spread (through w (f.q -ᵛ f.p) (f.r -ᵛ f.p) h (on f.q f.q_top) (on f.r f.r_top))

          crossed : (u v : Vector) → u ∈ rs → v ∈ ts → n · u ≡ pos 0 → n · v ≡ pos 0 → ¬ (u ⨯ v ≡ 𝟎) → Found
          crossed u v h k i j d =
              let both = in_products u v rs ts h k in
              elim (either_way n (u ⨯ v) f.nonzero d (normal_line n u v i j)) [
                | inl m ↦ (u ⨯ v, in_third (u ⨯ v) both.0, m)
                | inr m ↦ (negᵛ (u ⨯ v), in_third (negᵛ (u ⨯ v)) both.1, m)
              ]

          found : Listed n A fs rs a → Listed n B gs ts b → Found
          found (flat g i m) y = (g, in_first g i, m)
          found (ridge u i h k c) (flat g j m) = (g, in_second g j, m)
          found (single c) (flat g j m) = (g, in_second g j, m)
          found (single c) (single d) = absurd (no_line n f.nonzero (c n) (d n))
          found (single c) (ridge v j h k d) = absurd (no_line v h (c v) d)
          found (ridge u i h k c) (single d) = absurd (no_line u h c (d u))
          found (ridge u i h k c) (ridge v j h' k' d) = cross_or_not (vector_discrete (u ⨯ v) 𝟎)
            where
              cross_or_not : Dec (u ⨯ v ≡ 𝟎) → Found
              cross_or_not (yes z) = absurd (no_line u h c (λ q r. through v u (q -ᵛ b) h' (flip u v z) (d q r)))
              cross_or_not (no z) = crossed u v i j k k' z

  sum_ridge_law : RidgeLaw (sums A B) (rs ++ ts)
  sum_ridge_law n e = go (top_of_sum n A B e.p e.p_top) (top_of_sum n A B e.q e.q_top)
    where
      w : Vector
      w = e.q -ᵛ e.p

      hw : ¬ (w ≡ 𝟎)
      hw = apart e.p e.q e.differ

      Parts : Vector → Type 0
      Parts v = (a : Vector) × (b : Vector) × Top n A a × Top n B b × (v ≡ a +ᵛ b)

      Found : Type 0
      Found = (u : Vector) × u ∈ (rs ++ ts) × (¬ (u ≡ 𝟎)) × (u ⨯ w ≡ 𝟎)

      go : Parts e.p → Parts e.q → Found
      go (a, b, s, t, i) (c, d, s', t', j) = by (vector_discrete a c) (vector_discrete b d)
        where
          by : Dec (a ≡ c) → Dec (b ≡ d) → Found
          by (no h) k =
              let r = ridge_along A rs s_a.ridges n a c w e.nonzero s s' h hw (along_first n A B e.p a b w i t e.line) in
              (r.0, in_left rs ts r.0 r.1, r.2, r.3)
          by (yes h) (no k) =
              let r = ridge_along B ts s_b.ridges n b d w e.nonzero t t' k hw (along_second n A B e.p a b w i s e.line) in
              (r.0, in_right rs ts r.0 r.1, r.2, r.3)
          by (yes h) (yes k) = absurd (e.differ (i ∙ (λ x. h x +ᵛ k x) ∙ sym j))

pub sum_keeps_laws : SumKeepsLaws
sum_keeps_laws A fs rs B gs ts s_a s_b = record { flats = sum_flat_law A fs rs B gs ts s_a s_b; ridges = sum_ridge_law A fs rs B gs ts s_a s_b }
