-- The extent and the farthest corner, found one corner after the other from the answers of a body.
use Rattle.std.proofs.Common.{◌≡◌, ℕ, ◌+◌, ◌≤◌, true, false, List, [], ◌∷◌, length, get_or, take, ℤ, Ok, Err, sym, refl, ap, ◌∙◌, subst, arith, w64, to_z, of_z}
use lib.Signed.{lt_z}
use Rattle.std.specs.Int.{int_wrap}
use Rattle.std.proofs.lemmas.List.{take_more, length-take-le}
use Rattle.std.proofs.lemmas.Bool.{cond-true}
use Rattle.vector.specs.declared.Vector.{Vector}
use Rattle.vector.specs.Vectors.{◌·◌, within, 𝟎}
use Rattle.vector.proofs.Order.{lin}
use Rattle.vector.proofs.Exact.{dot_exact, less_by_bits, not_less_by_bits}
use Rattle.body.specs.declared.extent.Extent.{Extent}
use Rattle.body.specs.Meaning.{Meaning, Sound}
use Rattle.body.specs.Extents.{extent, extent_of, widened, farthest}
use Rattle.body.specs.Answers.{count_answer, corner_answer, farthest_answer}
use Rattle.body.proofs.Told.{corners_in, reached_at, told_count, told_corner}
use Rattle.body.proofs.Farthest.{Best, best_taken, best_kept, best_all}
use Rattle.body.proofs.Extents.{along_x, along_y, along_z, extent_push}

-- the extent of one corner
extent_one : (c : Vector) → extent c c ≡ extent_of (c ∷ [])
extent_one c i = extent (at i) (at i)
  where
    at : c ≡ (extent_of (c ∷ [])).least
    at i = record { x = sym (along_x c) i; y = sym (along_y c) i; z = sym (along_z c) i }

take_one : (cs : List Vector) → 1 ≤ length cs → take 1 cs ≡ get_or cs 0 𝟎 ∷ []
take_one [] l = absurd (omega arith)
take_one (c ∷ cs) l = refl

module _ (m : Meaning) (s : Sound m) where
  pub extent_begun : (c : Vector) → Ok c ≡ corner_answer m 0 → extent c c ≡ extent_of (take 1 (corners_in m))
  extent_begun c h =
      let t = told_corner m s 0 c h in
      ap (λ (v : Vector). extent v v) t.2 ∙ extent_one (get_or (corners_in m) 0 𝟎) ∙ ap extent_of (sym (take_one (corners_in m) t.0.some))

  pub extent_turn : (i : ℕ) (c : Vector) → Ok c ≡ corner_answer m i → (e : Extent) → e ≡ extent_of (take i (corners_in m)) → (f : Extent) → f ≡ widened e c → 1 ≤ i → f ≡ extent_of (take (i + 1) (corners_in m))
  extent_turn i c h e inv f w l =
      let cs = corners_in m in
      let t = told_corner m s i c h in
      let long : 1 ≤ length (take i cs) = omega (arith, length-take-le i cs (omega (arith, t.1))) in
      w ∙ (λ x. widened (inv x) (t.2 x)) ∙ sym (extent_push (take i cs) (get_or cs i 𝟎) long) ∙ ap extent_of (sym (take_more cs i 𝟎 t.1))

-- ---- the farthest corner: the best of the first i, and the corner of its number
abbrev pub Found : Vector → List Vector → ℕ → ℕ → Vector → Type 0
Found n cs i k top = Best n cs i k × (top ≡ get_or cs k 𝟎)

module _ (m : Meaning) (s : Sound m) (n : Vector) where
  -- within range the products that are compared are exact
  module _ (near : within 800000000 n ≡ true) (i k : ℕ) (c top : Vector) (h : Ok c ≡ corner_answer m i) (inv : Found n (corners_in m) i k top) where
    product_here : int_wrap w64 (n · c) ≡ n · get_or (corners_in m) i 𝟎
    product_here = let t = told_corner m s i c h in dot_exact n c near t.3 ∙ ap (λ (v : Vector). n · v) t.2

    product_top : int_wrap w64 (n · top) ≡ n · get_or (corners_in m) k 𝟎
    product_top =
        let t = told_corner m s i c h in
        let within-top = subst (λ (v : Vector). within 10000 v ≡ true) (sym inv.1) (reached_at (corners_in m) k t.0.near (omega (arith, inv.0.below, t.1))) in
        dot_exact n top near within-top ∙ ap (λ (v : Vector). n · v) inv.1

    pub farthest_taken : (a b : ℤ) → a ≡ int_wrap w64 (n · top) → b ≡ int_wrap w64 (n · c) → lt_z (to_z w64 (of_z w64 a)) (to_z w64 (of_z w64 b)) ≡ true → Found n (corners_in m) (i + 1) i c
    farthest_taken a b p q l =
        (best_taken n (corners_in m) i k inv.0 (omega (arith, lin, less_by_bits a b (n · top) (n · c) p q l, p ∙ product_top, q ∙ product_here)), (told_corner m s i c h).2)

    pub farthest_kept : (a b : ℤ) → a ≡ int_wrap w64 (n · top) → b ≡ int_wrap w64 (n · c) → lt_z (to_z w64 (of_z w64 a)) (to_z w64 (of_z w64 b)) ≡ false → Found n (corners_in m) (i + 1) k top
    farthest_kept a b p q l = (best_kept n (corners_in m) i k inv.0 (omega (arith, lin, not_less_by_bits a b (n · top) (n · c) p q l, p ∙ product_top, q ∙ product_here)), inv.1)

  pub farthest_ends : within 800000000 n ≡ true → (count : ℕ) → Ok count ≡ count_answer m → (i k : ℕ) → count ≤ i → i ≤ count → Best n (corners_in m) i k → Ok k ≡ farthest_answer m n
  farthest_ends near count h i k l l' b =
      let t = told_count m s count h in
      ap Ok (sym (best_all n (corners_in m) i k (omega (arith, t.1)) b)) ∙ sym (cond-true (within 800000000 n) (Ok (farthest n (corners_in m))) (Err 14) near) ∙ ap (λ (x : Meaning). farthest_answer x n) (sym t.0.is)
