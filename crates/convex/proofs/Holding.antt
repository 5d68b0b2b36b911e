-- A list is spanning, or some plane holds it: found by looking for a corner apart from the first, one off their line, and one off their plane.
use Rattle.std.proofs.Common.{◌≡◌, ◌⊎◌, List, [], ◌∷◌, pos, refl, ap, ◌∙◌, inl, inr, arith}
use lib.IntN.{ℤ_discrete}
use Rattle.vector.specs.declared.Vector.{Vector}
use Rattle.vector.specs.Vectors.{vector, ◌·◌, ◌⨯◌, ◌-ᵛ◌, 𝟎}
use Rattle.vector.proofs.Order.{lin}
use Rattle.vector.proofs.Identities.{vector_discrete, dot-minus, dot_comm, dot_nothing, at_right_angles, along_line}
use Rattle.convex.specs.Points.{◌∈◌}
use Rattle.convex.specs.Faces.{Spanning, Held}
use Rattle.convex.specs.Theorems.{SpanningOrHeld}
use Rattle.convex.proofs.Members.{all_in, all_from_in, find}
use Rattle.convex.proofs.Lines.{flip, normal_line}
use Rattle.convex.proofs.Directions.{level_minus}

opposite : {Q : Type 0} → Dec Q → Dec (¬ Q)
opposite (yes q) = no (λ n. n q)
opposite (no n) = yes n

-- a corner c with c − p where f is not 0, or f is 0 at all of these
search_from : {A : Type 0} (p : Vector) (f : Vector → A) (z : A) → ((a : A) → Dec (a ≡ z)) → (cs : List Vector)
    → ((c : Vector) × c ∈ cs × (¬ (f (c -ᵛ p) ≡ z))) ⊎ ((c : Vector) → c ∈ cs → f (c -ᵛ p) ≡ z)
search_from p f z d cs = elim (find (λ c. ¬ (f (c -ᵛ p) ≡ z)) (λ c. opposite (d (f (c -ᵛ p)))) cs) [
  | inl r ↦ inl r
  | inr none ↦ inr (λ c h. settled (d (f (c -ᵛ p))) (all_in (λ c. ¬ (¬ (f (c -ᵛ p) ≡ z))) cs none c h))
]
  where
    settled : {Q : Type 0} → Dec Q → ¬ (¬ Q) → Q
    settled (yes q) n = q
    settled (no m) n = absurd (n m)

-- a direction that is 0 at all c − p holds the list
held : (p w : Vector) (cs : List Vector) → ¬ (w ≡ 𝟎) → ((c : Vector) → c ∈ cs → w · (c -ᵛ p) ≡ pos 0) → Held cs
held p w cs w≠ f = record { direction = w; nonzero = w≠; height = w · p; all = all_from_in (λ c. w · c ≡ w · p) cs (λ c h. level_minus w c p (f c h)) }

-- three differences whose triple product is not 0 leave no plane
spanning : (p u v t : Vector) (cs : List Vector) → p ∈ cs → u ∈ cs → v ∈ cs → t ∈ cs → ¬ (((u -ᵛ p) ⨯ (v -ᵛ p)) · (t -ᵛ p) ≡ pos 0) → Spanning cs
spanning p u v t cs p_in u_in v_in t_in n w w≠ k a = n (dot_comm m (t -ᵛ p) ∙ along_line w m (t -ᵛ p) w≠ on_line (dot_comm (t -ᵛ p) w ∙ level t t_in))
  where
    m : Vector
    m = (u -ᵛ p) ⨯ (v -ᵛ p)

    at : (c : Vector) → c ∈ cs → w · c ≡ k
    at c h = all_in (λ c. w · c ≡ k) cs a c h

    level : (c : Vector) → c ∈ cs → w · (c -ᵛ p) ≡ pos 0
    level c h = omega (arith, lin, dot-minus w c p, at c h, at p p_in)

    on_line : w ⨯ m ≡ 𝟎
    on_line = flip m w (normal_line w (u -ᵛ p) (v -ᵛ p) (level u u_in) (level v v_in))

pub spanning_or_held : SpanningOrHeld
spanning_or_held [] = inr (record { direction = vector (pos 1) (pos 0) (pos 0); nonzero = λ e. absurd (omega (arith, lin, ap (λ (v : Vector). v.x) e)); height = pos 0; all = tt })
spanning_or_held (p ∷ rest) = off_point (search_from p (λ v. v) 𝟎 (λ v. vector_discrete v 𝟎) cs)
  where
    cs : List Vector
    cs = p ∷ rest

    Answer : Type 0
    Answer = Spanning cs ⊎ Held cs

    off_plane : (u v : Vector) → u ∈ cs → v ∈ cs → (m≠ : ¬ ((u -ᵛ p) ⨯ (v -ᵛ p) ≡ 𝟎))
        → ((t : Vector) × t ∈ cs × (¬ (((u -ᵛ p) ⨯ (v -ᵛ p)) · (t -ᵛ p) ≡ pos 0))) ⊎ ((t : Vector) → t ∈ cs → ((u -ᵛ p) ⨯ (v -ᵛ p)) · (t -ᵛ p) ≡ pos 0) → Answer
    off_plane u v i j m≠ (inl (t, l, n)) = inl (spanning p u v t cs (inl refl) i j l n)
    off_plane u v i j m≠ (inr all) = inr (held p ((u -ᵛ p) ⨯ (v -ᵛ p)) cs m≠ all)

    off_line : (u : Vector) → u ∈ cs → ¬ (u -ᵛ p ≡ 𝟎)
        → ((v : Vector) × v ∈ cs × (¬ ((u -ᵛ p) ⨯ (v -ᵛ p) ≡ 𝟎))) ⊎ ((v : Vector) → v ∈ cs → (u -ᵛ p) ⨯ (v -ᵛ p) ≡ 𝟎) → Answer
    off_line u i u≠ (inl (v, j, m≠)) = off_plane u v i j m≠ (search_from p (λ t. ((u -ᵛ p) ⨯ (v -ᵛ p)) · t) (pos 0) (λ k. ℤ_discrete k (pos 0)) cs)
    off_line u i u≠ (inr all) = let w = at_right_angles (u -ᵛ p) u≠ in inr (held p w.0 cs w.1 (λ c h. along_line (u -ᵛ p) (c -ᵛ p) w.0 u≠ (all c h) w.2))

    off_point : ((u : Vector) × u ∈ cs × (¬ (u -ᵛ p ≡ 𝟎))) ⊎ ((u : Vector) → u ∈ cs → u -ᵛ p ≡ 𝟎) → Answer
    off_point (inl (u, i, u≠)) = off_line u i u≠ (search_from p (λ v. (u -ᵛ p) ⨯ v) 𝟎 (λ v. vector_discrete v 𝟎) cs)
    off_point (inr all) = let w = vector (pos 1) (pos 0) (pos 0) in inr (held p w cs (λ e. absurd (omega (arith, lin, ap (λ (v : Vector). v.x) e))) (λ c h. dot_nothing w (c -ᵛ p) (all c h)))
