-- The two example lists keep both laws, and both are spanning.
-- A list keeps the laws where every three and every two of its corners pass a test, and the tests compute: T passes them, and so do three segments
-- along the axes. The cube is the sum of these.
use Rattle.std.proofs.Common.{◌≡◌, Bool, true, not, ◌&&◌, ◌||◌, List, [], ◌∷◌, ℤ, pos, ◌<ℤ◌, sym, refl, ap, subst, inl, inr, arith}
use lib.Signed.{lt_z}
use borrow.Author.Tests.{clash}
use Rattle.std.proofs.lemmas.Int.{ints}
use Rattle.std.proofs.lemmas.Bool.{and_parts, or_cases}
use Rattle.vector.specs.declared.Vector.{Vector}
use Rattle.vector.specs.Vectors.{vector, ◌·◌, ◌⨯◌, ◌-ᵛ◌, 𝟎, is_zero}
use Rattle.vector.proofs.Order.{lin, mul_strict, cancel_lt}
use Rattle.vector.proofs.Identities.{same_vector, dot_comm, dot-𝟎, dot_nothing, swapped}
use Rattle.convex.specs.Points.{◌∈◌}
use Rattle.convex.specs.Products.{Top}
use Rattle.convex.specs.Faces.{InLine}
use Rattle.convex.specs.Sides.{Multiple, FlatLaw, RidgeLaw, Sided, sums, sum_flats}
use Rattle.convex.specs.Examples.{T, t_flats, t_ridges, Lists}
use Rattle.convex.proofs.Tests.{every, some, every_in, some_in, zero_from, below_from}
use Rattle.convex.proofs.Lines.{apart, flip, through, normal_line, same_way, either_way, multiple_dot}
use Rattle.convex.proofs.Tops.{at_most, level}
use Rattle.convex.proofs.Mirrors.{mirror_keeps_laws}
use Rattle.convex.proofs.Sums.{sum_keeps_laws}

-- ---- the law of flats
-- the direction of the plane of three points
abbrev normal : Vector → Vector → Vector → Vector
normal p q r = (q -ᵛ p) ⨯ (r -ᵛ p)

-- three corners are on one line, or some corner is above their plane, or some listed flat is its direction
abbrev three : List Vector → List Vector → Vector → Vector → Vector → Bool
three cs fs p q r =
    let m = normal p q r in
    is_zero m || (some (λ c. lt_z (m · p) (m · c)) cs || some (λ g. is_zero (g ⨯ m) && lt_z (pos 0) (m · g)) fs)

abbrev threes : List Vector → List Vector → Bool
threes cs fs = every (λ p. every (λ q. every (three cs fs p q) cs) cs) cs

-- where m has a greater product with c than with p, so has a multiple of m
higher : (n m p c : Vector) → Multiple n m → (m · p) <ℤ (m · c) → (n · p) <ℤ (n · c)
higher n m p c k h =
    let a = k.over_positive in
    let b = k.under_positive in
    cancel_lt (pos k.under) (n · p) (n · c) (omega (arith, lin))
    (omega (arith, lin, multiple_dot n m k p, multiple_dot n m k c, mul_strict (pos k.over) (m · p) (m · c) (omega (arith, lin)) h))

-- A face's direction is a multiple of the normal of its three tops, taken in one order or the other. No corner is above their plane, so a flat is listed.
flat_law : (cs fs : List Vector) → threes cs fs ≡ true → FlatLaw cs fs
flat_law cs fs h n f = elim (either_way n (normal p f.q f.r) f.nonzero f.spread (on f.q f.r f.q_top f.r_top)) [
  | inl k ↦ found f.q f.r f.q_top f.r_top f.spread k
  | inr k ↦ found f.r f.q f.r_top f.q_top (λ e. f.spread (flip (f.r -ᵛ p) (f.q -ᵛ p) e)) (subst (Multiple n) (sym (swapped (f.r -ᵛ p) (f.q -ᵛ p))) k)
]
  where
    p : Vector
    p = f.p

    on : (q r : Vector) → Top n cs q → Top n cs r → normal p q r ⨯ n ≡ 𝟎
    on q r s t = normal_line n (q -ᵛ p) (r -ᵛ p) (level n cs p q f.p_top s) (level n cs p r f.p_top t)

    passed : (q r : Vector) → q ∈ cs → r ∈ cs → three cs fs p q r ≡ true
    passed q r i j =
        let at_p = every_in (λ p. every (λ q. every (three cs fs p q) cs) cs) cs h p f.p_top.member in
        every_in (three cs fs p q) cs (every_in (λ q. every (three cs fs p q) cs) cs at_p q i) r j

    found : (q r : Vector) → Top n cs q → Top n cs r → ¬ (InLine p q r) → Multiple n (normal p q r) → (g : Vector) × g ∈ fs × Multiple n g
    found q r s t off k =
        let m = normal p q r in
        let above = λ (c : Vector). lt_z (m · p) (m · c) in
        let listed = λ (g : Vector). is_zero (g ⨯ m) && lt_z (pos 0) (m · g) in
        elim (or_cases (is_zero m) (some above cs || some listed fs) (passed q r s.member t.member)) [
          | inl z ↦ absurd (off (zero_from m z))
          | inr e ↦ elim (or_cases (some above cs) (some listed fs) e) [
            | inl a ↦
                let (c, i, b) = some_in above cs a in
                absurd (omega (arith, lin, higher n m p c k (below_from (m · p) (m · c) b), at_most n cs p c f.p_top i))
            | inr l ↦
                let (g, i, b) = some_in listed fs l in
                let (z, w) = and_parts (is_zero (g ⨯ m)) (lt_z (pos 0) (m · g)) b in
                let u = below_from (pos 0) (m · g) w in
                let v = higher n m 𝟎 g k (omega (arith, lin, u, dot-𝟎 m)) in
                let nonzero : ¬ (g ≡ 𝟎) = λ y. absurd (omega (arith, lin, u, dot_nothing m g y)) in
                (g, i, same_way n g nonzero (through m g n off (flip g m (zero_from (g ⨯ m) z)) (on q r s t)) (omega (arith, lin, v, dot-𝟎 n, dot_comm g n)))
          ]
        ]

-- ---- the law of ridges
-- two corners are one, or some listed ridge is along them
abbrev two : List Vector → Vector → Vector → Bool
two rs p q = is_zero (q -ᵛ p) || some (λ u. not (is_zero u) && is_zero (u ⨯ (q -ᵛ p))) rs

abbrev twos : List Vector → List Vector → Bool
twos cs rs = every (λ p. every (two rs p) cs) cs

ridge_law : (cs rs : List Vector) → twos cs rs ≡ true → RidgeLaw cs rs
ridge_law cs rs h n e =
    let w = e.q -ᵛ e.p in
    let along = λ (u : Vector). not (is_zero u) && is_zero (u ⨯ w) in
    let tested = every_in (two rs e.p) cs (every_in (λ p. every (two rs p) cs) cs h e.p e.p_top.member) e.q e.q_top.member in
    elim (or_cases (is_zero w) (some along rs) tested) [
      | inl z ↦ absurd (apart e.p e.q e.differ (zero_from w z))
      | inr x ↦
          let (u, i, t) = some_in along rs x in
          let (a, b) = and_parts (not (is_zero u)) (is_zero (u ⨯ w)) t in
          (u, i, λ z. clash (subst (λ (v : Vector). not (is_zero v) ≡ true) z a), zero_from (u ⨯ w) b)
    ]

-- ---- the two lists
sided : (cs fs rs : List Vector) → threes cs fs ≡ true → twos cs rs ≡ true → Sided cs fs rs
sided cs fs rs h k = record { flats = flat_law cs fs h; ridges = ridge_law cs rs k }

abbrev X : Vector
X = vector (pos 4) (pos 0) (pos 0)

abbrev Y : Vector
Y = vector (pos 0) (pos 4) (pos 0)

abbrev Z : Vector
Z = vector (pos 0) (pos 0) (pos 4)

abbrev segment : Vector → List Vector
segment v = 𝟎 ∷ v ∷ []

-- a plane that holds 0 and a corner on each axis has no direction
no_plane : (w : Vector) (k : ℤ) → w · 𝟎 ≡ k → w · X ≡ k → w · Y ≡ k → w · Z ≡ k → w ≡ 𝟎
no_plane w k o a b c = same_vector (omega (arith, ints)) (omega (arith, ints)) (omega (arith, ints))

t_sided : Sided T t_flats t_ridges
t_sided = sided T t_flats t_ridges refl refl

pub lists : Lists
lists = record {
  t_sided = t_sided;
  mirror_sided = mirror_keeps_laws T t_flats t_ridges t_sided;
  t_spanning = λ w w≠ k (o, (z, (y, (x, _)))). w≠ (no_plane w k o x y z);
  cube_sided = sum_keeps_laws (sums (segment X) (segment Y)) (sum_flats [] (X ∷ []) [] (Y ∷ [])) (X ∷ Y ∷ []) (segment Z) [] (Z ∷ [])
      (sum_keeps_laws (segment X) [] (X ∷ []) (segment Y) [] (Y ∷ []) (sided (segment X) [] (X ∷ []) refl refl) (sided (segment Y) [] (Y ∷ []) refl refl))
      (sided (segment Z) [] (Z ∷ []) refl refl);
  cube_spanning = λ w w≠ k (o, (z, (y, (yz, (x, _))))). w≠ (no_plane w k o x y z);
  square_held = record { direction = vector (pos 1) (pos 0) (pos 0); nonzero = λ e. absurd (omega (arith, ints, ap (λ (v : Vector). v.x) e)); height = pos 0; all = (refl, (refl, (refl, (refl, tt)))) };
}
