-- The corners of two lists as the columns of one table: the rows are x, y, z and 1, and the entries of the second list's corners are turned.
-- Its columns are full exactly where no plane holds the corners, and weights in it are weights on the corners with total 0 and sum 0.
use Rattle.std.proofs.Common.{◌≡◌, ◌+◌, Bool, true, false, List, [], ◌∷◌, ◌++◌, map, length, ℤ, pos, negsuc, ◌+ℤ◌, ◌*ℤ◌, neg_ℤ, sym, refl, ap, ◌∙◌, arith}
use lib.IntN.{ℤ_discrete}
use Rattle.std.specs.List.{AllByRecursion}
use Rattle.std.proofs.lemmas.List.{length-append, length-map}
use Rattle.vector.specs.declared.Vector.{Vector}
use Rattle.vector.specs.Vectors.{vector, ◌·◌, 𝟎}
use Rattle.vector.proofs.Ring.{var, num, ◌⊕◌, ◌⊗◌, neg, ring}
use Rattle.vector.proofs.Order.{lin, times_nought, one_times}
use Rattle.vector.proofs.Identities.{◌·ₑ◌, vec, env, vector_discrete, same_vector, 𝟎-dot}
use Rattle.convex.specs.Faces.{Spanning}
use Rattle.convex.proofs.Relations.{sum, combine}
use Rattle.convex.proofs.Signs.{side}
use Rattle.convex.proofs.Kernel.{Weights, weigh, Pick, here, there, at, Balanced, Some, Full}

pub record Corner : Type 0 where
  pub near : Bool
  pub point : Vector

abbrev pub corner : Bool → Vector → Corner
corner b p = record { near = b; point = p }

abbrev pub corners : Bool → List Vector → List Corner
corners b P = map (corner b) P

-- the corners of two lists
abbrev pub joined : List Vector → List Vector → List Corner
joined A B = corners true A ++ corners false B

abbrev pub points : List Corner → List Vector
points S = map (λ (c : Corner). c.point) S

pub length-joined : (A B : List Vector) → length (joined A B) ≡ length A + length B
length-joined A B = length-append (corners true A) (corners false B) ∙ (λ i. length-map A (corner true) i + length-map B (corner false) i)

pub points-joined : (A B : List Vector) → points (joined A B) ≡ A ++ B
points-joined [] [] = refl
points-joined [] (b ∷ B) = ap (λ (t : List Vector). b ∷ t) (points-joined [] B)
points-joined (a ∷ A) B = ap (λ (t : List Vector). a ∷ t) (points-joined A B)

-- ---- the table
abbrev pub rows : List (Vector → ℤ)
rows = (λ p. p.x) ∷ (λ p. p.y) ∷ (λ p. p.z) ∷ (λ p. pos 1) ∷ []

abbrev pub along : (Vector → ℤ) → Corner → ℤ
along f c = side c.near *ℤ f c.point

pub side_twice : (b : Bool) (a : ℤ) → side b *ℤ (side b *ℤ a) ≡ a
side_twice true a = one_times (pos 1 *ℤ a) ∙ one_times a
side_twice false a = ring (a ∷ []) (num (negsuc 0) ⊗ (num (negsuc 0) ⊗ var 0)) (var 0) refl

pub side_cancel : (b : Bool) (a : ℤ) → side b *ℤ a ≡ pos 0 → a ≡ pos 0
side_cancel b a e = sym (side_twice b a) ∙ ap (λ t. side b *ℤ t) e ∙ times_nought (side b)

-- ---- full columns and planes
-- the weights (a, b, c, d) on the rows stand for the plane of the points p with (a, b, c) · p ≡ −d
column : (u : Weights rows) (c : Corner)
    → weigh rows (λ f. along f c) u ≡ side c.near *ℤ (vector u.0 u.1.0 u.1.1.0 · c.point +ℤ u.1.1.1.0)
column u c = ring (env (vector u.0 u.1.0 u.1.1.0 ∷ c.point ∷ []) (u.1.1.1.0 ∷ side c.near ∷ []))
    (var 0 ⊗ (var 7 ⊗ var 3) ⊕ (var 1 ⊗ (var 7 ⊗ var 4) ⊕ (var 2 ⊗ (var 7 ⊗ var 5) ⊕ (var 6 ⊗ (var 7 ⊗ num (pos 1)) ⊕ num (pos 0)))))
    (var 7 ⊗ (vec 0 ·ₑ vec 1 ⊕ var 6)) refl

pub spanning_full : (S : List Corner) → Full along rows S → Spanning (points S)
spanning_full S full w n k a = full u (some (ℤ_discrete w.x (pos 0)) (ℤ_discrete w.y (pos 0)) (ℤ_discrete w.z (pos 0))) (balanced S a)
  where
    u : Weights rows
    u = (w.x, (w.y, (w.z, (neg_ℤ k, tt))))

    some : Dec (w.x ≡ pos 0) → Dec (w.y ≡ pos 0) → Dec (w.z ≡ pos 0) → Some rows u
    some (no p) q r = record { x = _; rest = _; pick = here; nonzero = p }
    some (yes p) (no q) r = record { x = _; rest = _; pick = there here; nonzero = q }
    some (yes p) (yes q) (no r) = record { x = _; rest = _; pick = there (there here); nonzero = r }
    some (yes p) (yes q) (yes r) = absurd (n (same_vector p q r))

    balanced : (S : List Corner) → AllByRecursion (λ p. w · p ≡ k) (points S) → Balanced (λ c f. along f c) S rows u
    balanced [] a = tt
    balanced (c ∷ S) a = (
      column u c ∙ ap (λ t. side c.near *ℤ (t +ℤ neg_ℤ k)) a.0 ∙ ring (side c.near ∷ k ∷ []) (var 0 ⊗ (var 1 ⊕ neg (var 1))) (num (pos 0)) refl,
      balanced S a.1,
    )

pub full_spanning : (S : List Corner) → Spanning (points S) → Full along rows S
full_spanning S spanning u s b = go (vector_discrete w 𝟎) S spanning (on S b)
  where
    w : Vector
    w = vector u.0 u.1.0 u.1.1.0

    d : ℤ
    d = u.1.1.1.0

    on : (S : List Corner) → Balanced (λ c f. along f c) S rows u → AllByRecursion (λ p. w · p ≡ neg_ℤ d) (points S)
    on [] b = tt
    on (c ∷ S) b = (opposite (w · c.point) d (side_cancel c.near (w · c.point +ℤ d) (sym (column u c) ∙ b.0)), on S b.1)
      where
        opposite : (a d : ℤ) → a +ℤ d ≡ pos 0 → a ≡ neg_ℤ d
        opposite a d e = omega (arith, lin)

    nothing : w ≡ 𝟎 → d ≡ pos 0 → {f : Vector → ℤ} {Fs : List (Vector → ℤ)} (q : Pick f rows Fs) → at q u ≡ pos 0
    nothing e z here = ap (λ (v : Vector). v.x) e
    nothing e z (there here) = ap (λ (v : Vector). v.y) e
    nothing e z (there (there here)) = ap (λ (v : Vector). v.z) e
    nothing e z (there (there (there here))) = z
    nothing e z (there (there (there (there q)))) = elim q [ ]

    go : Dec (w ≡ 𝟎) → (S : List Corner) → Spanning (points S) → AllByRecursion (λ p. w · p ≡ neg_ℤ d) (points S) → ⊥
    go (no n) S f a = f w n (neg_ℤ d) a
    go (yes e) [] f a = f (vector (pos 1) (pos 0) (pos 0)) (λ z. absurd (omega (arith, lin, ap (λ (v : Vector). v.x) z))) (pos 0) tt
    go (yes e) (c ∷ S) f a = s.nonzero (nothing e (zero (w · c.point) d a.0 (ap (λ (v : Vector). v · c.point) e ∙ 𝟎-dot c.point)) s.pick)
      where
        zero : (a d : ℤ) → a ≡ neg_ℤ d → a ≡ pos 0 → d ≡ pos 0
        zero a d h k = omega (arith, lin)

-- ---- weights on the corners, each turned to its side
abbrev pub turned : (S : List Corner) → List ℤ → Weights S
turned [] ds = tt
turned (c ∷ S) [] = (pos 0, turned S [])
turned (c ∷ S) (d ∷ ds) = (side c.near *ℤ d, turned S ds)

turned_weigh : (f : Vector → ℤ) (g : List ℤ → List Vector → ℤ) → g [] [] ≡ pos 0
    → ((d : ℤ) (ds : List ℤ) (p : Vector) (P : List Vector) → g (d ∷ ds) (p ∷ P) ≡ d *ℤ f p +ℤ g ds P)
    → (S : List Corner) (ds : List ℤ) → length ds ≡ length S → weigh S (along f) (turned S ds) ≡ g ds (points S)
turned_weigh f g z s [] [] h = sym z
turned_weigh f g z s [] (d ∷ ds) h = absurd (omega arith)
turned_weigh f g z s (c ∷ S) [] h = absurd (omega arith)
turned_weigh f g z s (c ∷ S) (d ∷ ds) h = (λ i. once c.near d (f c.point) i +ℤ turned_weigh f g z s S ds (omega arith) i) ∙ sym (s d ds c.point (points S))
  where
    once : (b : Bool) (d t : ℤ) → side b *ℤ d *ℤ (side b *ℤ t) ≡ d *ℤ t
    once true d t = ring (d ∷ t ∷ []) (num (pos 1) ⊗ var 0 ⊗ (num (pos 1) ⊗ var 1)) (var 0 ⊗ var 1) refl
    once false d t = ring (d ∷ t ∷ []) (num (negsuc 0) ⊗ var 0 ⊗ (num (negsuc 0) ⊗ var 1)) (var 0 ⊗ var 1) refl

pub turned_balanced : (S : List Corner) (ds : List ℤ) → length ds ≡ length S → sum ds ≡ pos 0 → combine ds (points S) ≡ 𝟎 → Balanced along rows S (turned S ds)
turned_balanced S ds h s c = (
  turned_weigh (λ p. p.x) (λ ds P. (combine ds P).x) refl (λ d ds p P. refl) S ds h ∙ ap (λ (v : Vector). v.x) c,
  (
    turned_weigh (λ p. p.y) (λ ds P. (combine ds P).y) refl (λ d ds p P. refl) S ds h ∙ ap (λ (v : Vector). v.y) c,
    (
      turned_weigh (λ p. p.z) (λ ds P. (combine ds P).z) refl (λ d ds p P. refl) S ds h ∙ ap (λ (v : Vector). v.z) c,
      (turned_weigh (λ p. pos 1) (λ ds P. sum ds) refl (λ d ds p P. ring (d ∷ sum ds ∷ []) (var 0 ⊕ var 1) (var 0 ⊗ num (pos 1) ⊕ var 1) refl) S ds h ∙ s, tt),
    ),
  ),
)
