-- Rows read from a capture: one row more, and all of them where the capture is laid out as it should be.
use Rattle.std.proofs.Common.{◌≡◌, ℕ, ◌+◌, ◌*◌, ◌<◌, true, List, [], ◌∷◌, ◌++◌, length, take, set, Ok, sym, ap, ◌∙◌, zero-add, arith}
use Rattle.std.proofs.lemmas.List.{take_more_set}
use Rattle.std.proofs.lemmas.List.FromFn.{length-map-range_with_len, map-range_with_len_more}
use Rattle.std.proofs.lemmas.Bool.Decides.{nat_tests}
use Rattle.vector.specs.declared.Vector.{Vector}
use Rattle.rows.specs.declared.counts.Counts.{Counts}
use Rattle.rows.specs.declared.ridge.RidgeRow.{RidgeRow}
use Rattle.rows.specs.Fields.{corner_at}
use Rattle.rows.specs.Trailers.{layout}
use Rattle.rows.specs.Captures.{Rows, counts, each, trailer_in, rows_in, decoding}
use Rattle.rows.proofs.Layouts.{sized, laid}

-- one row more is read
pub each_more : {X : Type 0} (f : ℕ → X) (rows : List X) (k : ℕ) (x : X) → k < length rows → x ≡ f k → take k rows ≡ each k f → take (k + 1) (set rows k x) ≡ each (k + 1) f
each_more f rows k x h e p = take_more_set rows k x h ∙ (λ i. p i ++ e i ∷ []) ∙ sym (map-range_with_len_more f 0 k k (omega arith))

-- corner rows stand from the start on
pub corners_first : (bs : List ℕ) (n : ℕ) → each n (λ k. corner_at bs (0 + 6 * k)) ≡ each n (λ k. corner_at bs (6 * k))
corners_first bs n = λ i. each n (λ k. corner_at bs (zero-add (6 * k) i))

-- rows, table by table
abbrev pub rows : List Vector → List ℕ → List RidgeRow → Rows
rows vs ms gs = record { corners = vs; flats = ms; ridges = gs }

-- rows are the same where each of their tables is
pub same_rows : {vs ws : List Vector} {ms ns : List ℕ} {gs hs : List RidgeRow} → vs ≡ ws → ms ≡ ns → gs ≡ hs → rows vs ms gs ≡ rows ws ns hs
same_rows p q r = λ i. rows (p i) (q i) (r i)

-- rows that were read are as many as was asked for
pub counts_read : (n : Counts) (f : ℕ → Vector) (g : ℕ → ℕ) (h : ℕ → RidgeRow) {vs : List Vector} {ms : List ℕ} {gs : List RidgeRow}
    → vs ≡ each n.corners f → ms ≡ each n.flats g → gs ≡ each n.ridges h → counts (rows vs ms gs) ≡ n
counts_read n f g h p q r = λ i. record {
  corners = (ap length p ∙ length-map-range_with_len f 0 n.corners) i;
  flats = (ap length q ∙ length-map-range_with_len g 0 n.flats) i;
  ridges = (ap length r ∙ length-map-range_with_len h 0 n.ridges) i;
}

-- a layout that fits says that the length is allowed too
pub decoding_laid : (bs : List ℕ) → layout (length bs) (trailer_in bs) ≡ true → decoding bs ≡ Ok (rows_in bs)
decoding_laid bs l =
    let fits = laid (length bs) (trailer_in bs) l in
    let n = sized (trailer_in bs).counts fits.allowed in
    grind (arith, nat_tests)
