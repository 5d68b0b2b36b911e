-- Rows and trailer written over a buffer: one row more, the whole capture, how long it is, and the answer.
use Rattle.std.proofs.Common.{◌≡◌, ℕ, ◌+◌, ◌*◌, ◌<◌, ◌≤◌, List, [], ◌∷◌, ◌++◌, length, get_or, take, drop, Ok, Err, sym, refl, ap, ◌∙◌, mul-suc, arith}
use Rattle.std.specs.List.{flat_map}
use Rattle.std.proofs.lemmas.List.{flat_map_more, take_more, length-take-le, length-append, append_assoc}
use Rattle.std.proofs.lemmas.Bool.Decides.{nat_tests}
use Rattle.vector.specs.declared.Vector.{Vector}
use Rattle.rows.specs.declared.counts.Counts.{Counts}
use Rattle.rows.specs.declared.ridge.RidgeRow.{RidgeRow}
use Rattle.rows.specs.Bytes.{written, four_bytes}
use Rattle.rows.specs.Fields.{corner_bytes, ridge_bytes}
use Rattle.rows.specs.Trailers.{size, starts, distances, trailer_bytes}
use Rattle.rows.specs.Captures.{Rows, counts, capture, saving, saved}
use Rattle.rows.proofs.Writing.{written_then, written_start}

-- ---- rows of one width
-- how many bytes they take
pub length-joined : {X : Type 0} (w : X → List ℕ) (width : ℕ) → ((x : X) → length (w x) ≡ width) → (xs : List X) → length (flat_map w xs) ≡ width * length xs
length-joined w width wide [] = omega arith
length-joined w width wide (x ∷ xs) = length-append (w x) (flat_map w xs) ∙ omega (arith, wide x, length-joined w width wide xs, mul-suc width (length xs))

-- one row more is written
pub row_more : {X : Type 0} (w : X → List ℕ) (width : ℕ) → ((x : X) → length (w x) ≡ width)
    → (at k : ℕ) (rows : List X) (x : X) (b₀ : List ℕ) {i : ℕ} {b₁ b₂ : List ℕ}
    → b₁ ≡ written at (flat_map w (take k rows)) b₀ → x ≡ get_or rows k x → b₂ ≡ written i (w x) b₁
    → i ≡ at + width * k → k < length rows → at ≤ length b₀ → b₂ ≡ written at (flat_map w (take (k + 1) rows)) b₀
row_more w width wide at k rows x b₀ p r q e l h =
    written_then at _ (flat_map w (take k rows)) (w (get_or rows k x)) b₀ p (ap w r) q (omega (arith, before)) h
    ∙ ap (λ t. written at t b₀) (flat_map_more w [] (take k rows) (get_or rows k x) ∙ ap (flat_map w) (sym (take_more rows k x l)))
  where
    before : length (flat_map w (take k rows)) ≡ width * k
    before = length-joined w width wide (take k rows) ∙ ap (λ n. width * n) (length-take-le k rows (omega arith))

-- ---- the whole capture
-- how many bytes it takes
pub length-capture : (R : Rows) → length (capture R) ≡ size (counts R)
length-capture R =
    let c = length-joined corner_bytes 6 (λ v. refl) R.corners in
    let f = length-joined four_bytes 4 (λ m. refl) R.flats in
    let g = length-joined ridge_bytes 2 (λ g. refl) R.ridges in
    simp length-append (omega arith)

-- where it does not fit, the refusal is due and the buffer stays
pub no_room : (R : Rows) (n : Counts) (b₀ : List ℕ) → counts R ≡ n → length b₀ < size n → (Err 9 ≡ saving R b₀) × (b₀ ≡ saved R b₀)
no_room R n b₀ e h = let l = length-capture R ∙ ap size e in (grind (arith, nat_tests), grind (arith, nat_tests))

-- where it fits, its length is the answer
pub room : (R : Rows) (n : Counts) (b₀ : List ℕ) → counts R ≡ n → size n ≤ length b₀ → Ok (size n) ≡ saving R b₀
room R n b₀ e h = let l = length-capture R ∙ ap size e in grind (arith, nat_tests)

-- and table after table and the trailer make it up
pub all_written : (R : Rows) (n : Counts) (b₀ : List ℕ) {vs : List Vector} {ms : List ℕ} {gs : List RidgeRow} {bs b₁ b₂ b₃ b₄ : List ℕ} {at back : Counts}
    → counts R ≡ n → at ≡ starts n → back ≡ distances n → size n ≤ length b₀
    → vs ≡ R.corners → b₁ ≡ written at.corners (flat_map corner_bytes vs) b₀
    → ms ≡ R.flats → b₂ ≡ written at.flats (flat_map four_bytes ms) b₁
    → gs ≡ R.ridges → b₃ ≡ written at.ridges (flat_map ridge_bytes gs) b₂
    → bs ≡ trailer_bytes n → b₄ ≡ written back.corners bs b₃
    → b₄ ≡ saved R b₀
all_written R n b₀ {vs} {ms} {gs = es} {bs} {b₁} {b₂} {b₃} e a d h v p m q g r t s =
    let lc : length cs ≡ 6 * n.corners = length-joined corner_bytes 6 (λ v. refl) R.corners ∙ ap (λ m. 6 * m.corners) e in
    let lf : length fs ≡ 4 * n.flats = length-joined four_bytes 4 (λ m. refl) R.flats ∙ ap (λ m. 4 * m.flats) e in
    let lg : length gs ≡ 2 * n.ridges = length-joined ridge_bytes 2 (λ g. refl) R.ridges ∙ ap (λ m. 2 * m.ridges) e in
    let lcf = length-append cs fs in
    let lcfg = length-append (cs ++ fs) gs in
    let one = p ∙ (λ i. written (a i).corners (flat_map corner_bytes (v i)) b₀) in
    let two = written_then 0 _ cs fs b₀ one (ap (flat_map four_bytes) m) (q ∙ (λ i. written (a i).flats (flat_map four_bytes ms) b₁)) (omega arith) (omega arith) in
    let three = written_then 0 _ (cs ++ fs) gs b₀ two (ap (flat_map ridge_bytes) g) (r ∙ (λ i. written (a i).ridges (flat_map ridge_bytes es) b₂)) (omega arith) (omega arith) in
    let four = written_then 0 _ (cs ++ fs ++ gs) (trailer_bytes (counts R)) b₀ three (t ∙ ap trailer_bytes (sym e)) (s ∙ (λ i. written (d i).corners bs b₃)) (omega arith) (omega arith) in
    four
    ∙ ap (λ t. written 0 t b₀) (append_assoc (cs ++ fs) gs (trailer_bytes (counts R)) ∙ append_assoc cs fs (gs ++ trailer_bytes (counts R)))
    ∙ written_start (capture R) b₀
    ∙ fits
  where
    cs : List ℕ
    cs = flat_map corner_bytes R.corners

    fs : List ℕ
    fs = flat_map four_bytes R.flats

    gs : List ℕ
    gs = flat_map ridge_bytes R.ridges

    fits : capture R ++ drop (length (capture R)) b₀ ≡ saved R b₀
    fits = let l = length-capture R ∙ ap size e in grind (arith, nat_tests)
