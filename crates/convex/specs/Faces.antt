-- Lists of corners that lie in no one plane, their faces and their edges.
use Rattle.std.specs.Prelude.{◌≡◌, List, ℤ}
use Rattle.std.specs.List.{AllByRecursion}
use Rattle.vector.specs.declared.Vector.{Vector}
use Rattle.vector.specs.Vectors.{◌·◌, ◌⨯◌, ◌-ᵛ◌, 𝟎}
use Rattle.convex.specs.Products.{Top}

-- some plane holds all the corners
pub record Held (cs : List Vector) : Type 0 where
  pub direction : Vector
  pub nonzero : ¬ (direction ≡ 𝟎)
  pub height : ℤ
  pub all : AllByRecursion (λ c. direction · c ≡ height) cs

-- no plane does
abbrev pub Spanning : List Vector → Type 0
Spanning cs = (w : Vector) → ¬ (w ≡ 𝟎) → (k : ℤ) → ¬ (AllByRecursion (λ c. w · c ≡ k) cs)

-- three points are on one line
abbrev pub InLine : Vector → Vector → Vector → Type 0
InLine p q r = (q -ᵛ p) ⨯ (r -ᵛ p) ≡ 𝟎

-- n, not 0, has its greatest product at three corners that are not on one line (a facet)
pub record Face (n : Vector) (cs : List Vector) : Type 0 where
  pub nonzero : ¬ (n ≡ 𝟎)
  pub p : Vector
  pub q : Vector
  pub r : Vector
  pub p_top : Top n cs p
  pub q_top : Top n cs q
  pub r_top : Top n cs r
  pub spread : ¬ (InLine p q r)

-- n, not 0, has its greatest product at corners that are all on one line, and at least two of them differ
pub record Edge (n : Vector) (cs : List Vector) : Type 0 where
  pub nonzero : ¬ (n ≡ 𝟎)
  pub p : Vector
  pub q : Vector
  pub p_top : Top n cs p
  pub q_top : Top n cs q
  pub differ : ¬ (p ≡ q)
  pub line : (r : Vector) → Top n cs r → InLine p q r
