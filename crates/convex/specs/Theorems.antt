-- What is proved of every list of corners. Each statement is the contract of a function of this crate.
use Rattle.std.specs.Prelude.{◌≡◌, ◌≤◌, true, ◌⊎◌, List, [], ◌∷◌, ◌++◌, length, pos, ◌≤ℤ◌, ◌<ℤ◌}
use Rattle.std.specs.List.{AllByRecursion}
use Rattle.vector.specs.declared.Vector.{Vector}
use Rattle.vector.specs.Vectors.{◌·◌, ◌⨯◌, ◌-ᵛ◌, 𝟎, inside, within}
use Rattle.convex.specs.Points.{◌∈◌, Shared, Entry, Mixture}
use Rattle.convex.specs.Products.{greatest, least, Between, Top}
use Rattle.convex.specs.Faces.{Spanning, Held, Face, Edge}
use Rattle.convex.specs.Sides.{Multiple, Sided, shifted, mirrored, sums, sum_flats, planes}
use Rattle.convex.specs.Fives.{dets, Five, first_entries, second_entries}

-- `greatest` is the product of some corner and no corner has more; `least` likewise
abbrev pub ProductsAreReached : Type 0
ProductsAreReached = (n : Vector) (cs : List Vector) → 1 ≤ length cs
    → ((c : Vector) × c ∈ cs × (n · c ≡ greatest n cs)) × AllByRecursion (λ c. (n · c) ≤ℤ greatest n cs) cs
    × ((c : Vector) × c ∈ cs × (n · c ≡ least n cs)) × AllByRecursion (λ c. least n cs ≤ℤ (n · c)) cs

-- A plane is a proof: two lists with a plane between them share no point.
abbrev pub PlaneIsProof : Type 0
PlaneIsProof = (A B : List Vector) (n : Vector) → Between n A B → ¬ (Shared A B)

-- A mixture is a proof: two lists with an accepted mixture share a point.
abbrev pub MixtureIsProof : Type 0
MixtureIsProof = (A B : List Vector) (es fs : List Entry) → Mixture A B es fs → Shared A B

-- and a shared point has a mixture.
abbrev pub PointIsMixture : Type 0
PointIsMixture = (A B : List Vector) → Shared A B → (es : List Entry) × (fs : List Entry) × Mixture A B es fs

-- A direction or a point (Gordan's alternative on the differences): a plane stands between two lists, or they share a point.
abbrev pub DirectionOrPoint : Type 0
DirectionOrPoint = (A B : List Vector) → 1 ≤ length A → 1 ≤ length B → ((n : Vector) × Between n A B) ⊎ Shared A B

-- A list is spanning, or some plane holds it.
abbrev pub SpanningOrHeld : Type 0
SpanningOrHeld = (cs : List Vector) → Spanning cs ⊎ Held cs

-- A face: a direction that has no positive product tilts to a face that has none; where every product was negative, every product stays so.
abbrev pub DirectionTiltsToFace : Type 0
DirectionTiltsToFace = (ds : List Vector) (n : Vector) → Spanning ds → ¬ (n ≡ 𝟎) → AllByRecursion (λ d. (n · d) ≤ℤ pos 0) ds
    → (m : Vector) × Face m ds × AllByRecursion (λ d. (m · d) ≤ℤ pos 0) ds × (AllByRecursion (λ d. (n · d) <ℤ pos 0) ds → AllByRecursion (λ d. (m · d) <ℤ pos 0) ds)

-- The laws of a shifted list.
abbrev pub ShiftKeepsLaws : Type 0
ShiftKeepsLaws = (v : Vector) (cs fs rs : List Vector) → Sided cs fs rs → Sided (shifted v cs) fs rs

-- The laws of a mirrored list.
abbrev pub MirrorKeepsLaws : Type 0
MirrorKeepsLaws = (cs fs rs : List Vector) → Sided cs fs rs → Sided (mirrored cs) (mirrored fs) rs

-- The laws of a sum.
abbrev pub SumKeepsLaws : Type 0
SumKeepsLaws = (A fs rs B gs ts : List Vector) → Sided A fs rs → Sided B gs ts → Sided (sums A B) (sum_flats fs rs gs ts) (rs ++ ts)

-- Further entries are harmless: more flats and more ridges keep the laws.
abbrev pub MoreKeepsLaws : Type 0
MoreKeepsLaws = (cs fs rs gs ts : List Vector) → Sided cs fs rs → AllByRecursion (λ f. f ∈ gs) fs → AllByRecursion (λ u. u ∈ ts) rs → Sided cs gs ts

-- Corners on one line, along u, have no flat, and the one ridge u.
abbrev pub LineKeepsLaws : Type 0
LineKeepsLaws = (cs : List Vector) (u : Vector) → ((p q : Vector) → p ∈ cs → q ∈ cs → ¬ (p ≡ q) → (¬ (u ≡ 𝟎)) × (u ⨯ (q -ᵛ p) ≡ 𝟎)) → Sided cs [] (u ∷ [])

-- two sided lists, not empty, of which at least one is spanning
pub record Pair (A fs rs B gs ts : List Vector) : Type 0 where
  pub first : Sided A fs rs
  pub second : Sided B gs ts
  pub some_first : 1 ≤ length A
  pub some_second : 1 ≤ length B
  pub spanning : Spanning A ⊎ Spanning B

-- The listed planes suffice: where they share no point, one of the planes is accepted.
abbrev pub PlanesSuffice : Type 0
PlanesSuffice = (A fs rs B gs ts : List Vector) → Pair A fs rs B gs ts → ¬ (Shared A B)
    → (m : Vector) × m ∈ planes fs rs gs ts × Between m A B

-- and where they share a point and only touch, one of the planes, not 0, has the greatest product over the first equal to the least over the second.
abbrev pub PlanesTouch : Type 0
PlanesTouch = (A fs rs B gs ts : List Vector) → Pair A fs rs B gs ts → Shared A B
    → (n : Vector) → ¬ (n ≡ 𝟎) → greatest n A ≤ℤ least n B
    → (m : Vector) × m ∈ planes fs rs gs ts × (¬ (m ≡ 𝟎)) × (greatest m A ≡ least m B)

-- Five corners suffice: where two lists share a point and are together spanning, some five of their corners yield a mixture.
abbrev pub FiveCornersSuffice : Type 0
FiveCornersSuffice = (A B : List Vector) → Spanning (A ++ B) → Shared A B → Five A B

-- Five corners that yield a mixture are one, with the absolute values of their determinants as weights.
abbrev pub FiveCornersMix : Type 0
FiveCornersMix = (A B : List Vector) (f : Five A B) → Mixture A B (first_entries A B f) (second_entries A B f)

-- Both together: of two sided lists, one of them spanning, a listed plane is accepted or five corners yield a mixture.
abbrev pub PlaneOrFive : Type 0
PlaneOrFive = (A fs rs B gs ts : List Vector) → Pair A fs rs B gs ts → ((m : Vector) × m ∈ planes fs rs gs ts × Between m A B) ⊎ Five A B

-- The weights fit: from corners within reach each determinant is within 50,000,000,000,000,
abbrev pub WeightsFit : Type 0
WeightsFit = (ps : List Vector) → AllByRecursion (λ p. within 10000 p ≡ true) ps → AllByRecursion (λ d. inside 50000000000000 d ≡ true) (dets ps)

-- and the planes: a ridge between corners and a flat through three, and every plane that flats and ridges give.
abbrev pub PlanesFit : Type 0
PlanesFit = ((p q : Vector) → within 10000 p ≡ true → within 10000 q ≡ true → within 20000 (q -ᵛ p) ≡ true)
    × ((p q s : Vector) → within 10000 p ≡ true → within 10000 q ≡ true → within 10000 s ≡ true → within 800000000 ((q -ᵛ p) ⨯ (s -ᵛ p)) ≡ true)
    × ((fs rs gs ts : List Vector) → AllByRecursion (λ f. within 800000000 f ≡ true) fs → AllByRecursion (λ u. within 20000 u ≡ true) rs
    → AllByRecursion (λ g. within 800000000 g ≡ true) gs → AllByRecursion (λ v. within 20000 v ≡ true) ts
    → AllByRecursion (λ n. within 800000000 n ≡ true) (planes fs rs gs ts))

-- the two faces of an edge
pub record TwoFaces (cs : List Vector) (n : Vector) (e : Edge n cs) : Type 0 where
  pub m₁ : Vector
  pub m₂ : Vector
  pub face₁ : Face m₁ cs
  pub face₂ : Face m₂ cs
  -- both contain the edge
  pub on₁ : (c : Vector) → Top n cs c → Top m₁ cs c
  pub on₂ : (c : Vector) → Top n cs c → Top m₂ cs c
  -- they are two, and there is no third
  pub two : ¬ (Multiple m₁ m₂)
  pub no_third : (m : Vector) → Face m cs → Top m cs e.p → Top m cs e.q → Multiple m m₁ ⊎ Multiple m m₂
  -- they share no corner off the edge
  pub shared : (c : Vector) → Top m₁ cs c → Top m₂ cs c → Top n cs c

-- An edge lies in two faces, and in no third.
abbrev pub EdgeInTwoFaces : Type 0
EdgeInTwoFaces = (cs : List Vector) → Spanning cs → (n : Vector) (e : Edge n cs) → TwoFaces cs n e
