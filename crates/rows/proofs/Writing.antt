-- Bytes written over a buffer, piece after piece.
use Rattle.std.proofs.Common.{◌≡◌, ℕ, ◌+◌, ◌≤◌, List, ◌++◌, length, drop, sym, refl, ap, ◌∙◌, zero-add}
use Rattle.std.proofs.Math.Seq.{paste}
use Rattle.std.proofs.lemmas.List.{length-append}
use Rattle.std.proofs.lemmas.List.Edits.{paste_all, paste-paste}
use Rattle.rows.specs.Bytes.{written}

-- written from the start on, the buffer begins with the bytes
pub written_start : (bs buffer : List ℕ) → written 0 bs buffer ≡ bs ++ drop (length bs) buffer
written_start bs buffer = ap (λ n. bs ++ drop n buffer) (zero-add (length bs))

-- two pieces, one right behind the other, are one
pub written_then : (at m : ℕ) (xs ys b₀ : List ℕ) {zs b₁ b₂ : List ℕ} → b₁ ≡ written at xs b₀ → zs ≡ ys → b₂ ≡ written m zs b₁
    → m ≡ at + length xs → at ≤ length b₀ → b₂ ≡ written at (xs ++ ys) b₀
written_then at m xs ys b₀ p z q e h =
    q ∙ (λ i. written (e i) (z i) (p i))
    ∙ sym (paste_all (written at xs b₀) (at + length xs) ys (length ys) refl)
    ∙ ap (λ b. paste b (at + length xs) ys (length ys)) (sym (paste_all b₀ at xs (length xs) refl))
    ∙ paste-paste b₀ at xs ys (length xs) (length ys) refl refl h
    ∙ ap (paste b₀ at (xs ++ ys)) (sym (length-append xs ys))
    ∙ paste_all b₀ at (xs ++ ys) (length (xs ++ ys)) refl
