-- A capture says the rows that it was saved from.
use Rattle.std.proofs.Common.{◌≡◌, ℕ, zero, suc, ◌+◌, ◌-◌, ◌*◌, ◌<◌, true, List, [], ◌∷◌, ◌++◌, length, get_or, drop, Ok, sym, refl, ap, ◌∙◌, mul-suc, arith}
use Rattle.std.specs.List.{flat_map, AllByRecursion}
use Rattle.std.proofs.ByRecursion.{All-from_get_or}
use Rattle.std.proofs.lemmas.List.{get_or-drop, drop_at, drop-drop, append_assoc}
use Rattle.std.proofs.lemmas.List.FromFn.{fill_by_all}
use Rattle.std.proofs.lemmas.Bool.Decides.{nat_tests}
use Rattle.vector.specs.declared.Vector.{Vector}
use Rattle.vector.specs.Vectors.{𝟎, within}
use Rattle.vector.proofs.Bounds.{ranges}
use Rattle.rows.specs.declared.counts.Counts.{Counts}
use Rattle.rows.specs.declared.trailer.Trailer.{Trailer}
use Rattle.rows.specs.Bytes.{u32_at, four_bytes}
use Rattle.rows.specs.Fields.{corner_at, ridge_at, corner_bytes, ridge_bytes}
use Rattle.rows.specs.Trailers.{trailer_at, distances, trailer_bytes, layout}
use Rattle.rows.specs.Captures.{counts, each, capture, rows_by, trailer_in}
use Rattle.rows.specs.Back.{RowsComeBack}
use Rattle.rows.proofs.Digits.{two_back, four_back, in16_below, coordinate_back}
use Rattle.rows.proofs.Layouts.{Sized, sized}
use Rattle.rows.proofs.Reading.{corners_first, decoding_laid, same_rows}
use Rattle.rows.proofs.Saving.{length-joined, length-capture}

-- ---- a row at a place is the first row of what stands from there on
corner_from : (bs : List ℕ) (i : ℕ) → corner_at bs i ≡ corner_at (drop i bs) 0
corner_from bs i = grind (arith, get_or-drop)

flat_from : (bs : List ℕ) (i : ℕ) → u32_at bs i ≡ u32_at (drop i bs) 0
flat_from bs i = grind (arith, get_or-drop)

ridge_from : (bs : List ℕ) (i : ℕ) → ridge_at bs i ≡ ridge_at (drop i bs) 0
ridge_from bs i = grind (arith, get_or-drop)

trailer_from : (bs : List ℕ) (i : ℕ) → trailer_at bs i ≡ trailer_at (drop i bs) 0
trailer_from bs i = grind (arith, get_or-drop)

-- ---- the trailer that belongs to counts
abbrev trailer_of : Counts → Trailer
trailer_of n = record { counts = n; edition = 1; back = distances n }

-- ---- the first row, read back from its bytes
corner_back : (v : Vector) → within 32767 v ≡ true → (rest : List ℕ) → corner_at (corner_bytes v ++ rest) 0 ≡ v
corner_back v h rest = let r = ranges 32767 v h in grind (arith, two_back, in16_below, coordinate_back)

trailer_back : (n : Counts) → Sized n → trailer_at (trailer_bytes n) 0 ≡ trailer_of n
trailer_back n z = grind arith

-- ---- a table: w writes a row, r reads one, and P says which rows can be read back
module _ {X : Type 0} (w : X → List ℕ) (width : ℕ) (wide : (x : X) → length (w x) ≡ width) (r : List ℕ → ℕ → X) (P : X → Type 0)
    (from : (bs : List ℕ) (i : ℕ) → r bs i ≡ r (drop i bs) 0) (back : (x : X) → P x → (rest : List ℕ) → r (w x ++ rest) 0 ≡ x) where
  -- the row at each place
  row_back : (bs : List ℕ) (at : ℕ) (xs : List X) (rest : List ℕ) → drop at bs ≡ flat_map w xs ++ rest → AllByRecursion P xs
      → (k : ℕ) (d : X) → k < length xs → get_or xs k d ≡ r bs (at + width * k)
  row_back bs at [] rest e h k d l = absurd (omega arith)
  row_back bs at (x ∷ xs) rest e h zero d l =
      let i : at ≡ at + width * 0 = omega arith in
      sym (back x h.0 (flat_map w xs ++ rest)) ∙ ap (λ t. r t 0) (sym (e ∙ append_assoc (w x) (flat_map w xs) rest)) ∙ sym (from bs at) ∙ ap (r bs) i
  row_back bs at (x ∷ xs) rest e h (suc k) d l =
      let next = sym (drop-drop width at bs) ∙ ap (drop width) (e ∙ append_assoc (w x) (flat_map w xs) rest) ∙ drop_at (w x) (flat_map w xs ++ rest) width (wide x) in
      let i : at + width + width * k ≡ at + width * suc k = omega (arith, mul-suc width k) in
      row_back bs (at + width) xs rest next h.1 k d (omega arith) ∙ ap (r bs) i

  -- the table that stands from a place on
  table_back : (bs : List ℕ) (at : ℕ) (xs : List X) (rest : List ℕ) → drop at bs ≡ flat_map w xs ++ rest → AllByRecursion P xs → (d : X)
      → each (length xs) (λ k. r bs (at + width * k)) ≡ xs
  table_back bs at xs rest e h d = sym (fill_by_all (λ k. r bs (at + width * k)) xs (length xs) d refl (λ k l. row_back bs at xs rest e h k d l))

-- ---- the whole capture
pub rows_come_back : RowsComeBack
rows_come_back R s = decoding_laid bs fits ∙ ap Ok (ap (λ t. rows_by t.counts bs) trailer ∙ rows)
  where
    bs : List ℕ
    bs = capture R

    n : Counts
    n = counts R

    z : Sized n
    z = sized n s.allowed

    whole : length bs ≡ 6 * n.corners + 4 * n.flats + 2 * n.ridges + 10
    whole = length-capture R

    fs : List ℕ
    fs = flat_map four_bytes R.flats

    gs : List ℕ
    gs = flat_map ridge_bytes R.ridges

    from_flats : drop (6 * n.corners) bs ≡ fs ++ (gs ++ trailer_bytes n)
    from_flats = drop_at (flat_map corner_bytes R.corners) _ (6 * n.corners) (length-joined corner_bytes 6 (λ v. refl) R.corners)

    from_ridges : drop (6 * n.corners + 4 * n.flats) bs ≡ gs ++ trailer_bytes n
    from_ridges =
        sym (drop-drop (4 * n.flats) (6 * n.corners) bs) ∙ ap (drop (4 * n.flats)) from_flats
        ∙ drop_at fs _ (4 * n.flats) (length-joined four_bytes 4 (λ m. refl) R.flats)

    from_trailer : drop (6 * n.corners + 4 * n.flats + 2 * n.ridges) bs ≡ trailer_bytes n
    from_trailer =
        sym (drop-drop (2 * n.ridges) (6 * n.corners + 4 * n.flats) bs) ∙ ap (drop (2 * n.ridges)) from_ridges
        ∙ drop_at gs _ (2 * n.ridges) (length-joined ridge_bytes 2 (λ g. refl) R.ridges)

    trailer : trailer_in bs ≡ trailer_of n
    trailer =
        let e : length bs - 10 ≡ 6 * n.corners + 4 * n.flats + 2 * n.ridges = omega (arith, whole) in
        ap (trailer_at bs) e ∙ trailer_from bs _ ∙ ap (λ t. trailer_at t 0) from_trailer ∙ trailer_back n z

    fits : layout (length bs) (trailer_in bs) ≡ true
    fits = ap (layout (length bs)) trailer ∙ grind (arith, nat_tests, whole, s.allowed)

    corners : each n.corners (λ k. corner_at bs (6 * k)) ≡ R.corners
    corners =
        sym (corners_first bs n.corners)
        ∙ table_back corner_bytes 6 (λ v. refl) corner_at _ corner_from corner_back bs 0 R.corners _ refl s.corners_fit 𝟎

    flats : each n.flats (λ k. u32_at bs (6 * n.corners + 4 * k)) ≡ R.flats
    flats = table_back four_bytes 4 (λ m. refl) u32_at _ flat_from (λ m h rest. four_back m h) bs (6 * n.corners) R.flats _ from_flats s.masks_fit 0

    ridges : each n.ridges (λ k. ridge_at bs (6 * n.corners + 4 * n.flats + 2 * k)) ≡ R.ridges
    ridges = table_back ridge_bytes 2 (λ g. refl) ridge_at (λ g. Unit {0}) ridge_from (λ g h rest. refl) bs (6 * n.corners + 4 * n.flats) R.ridges _ from_ridges (All-from_get_or (λ g. Unit {0}) R.ridges record { low = 0; high = 0 } (λ k l. tt)) record { low = 0; high = 0 }

    rows : rows_by n bs ≡ R
    rows = same_rows corners flats ridges
