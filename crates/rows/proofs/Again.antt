-- A capture that is laid out as its trailer says is the capture of its rows.
use Rattle.std.proofs.Common.{◌≡◌, ℕ, zero, suc, ◌+◌, ◌-◌, ◌*◌, ◌<◌, ◌≤◌, true, List, [], ◌∷◌, ◌++◌, length, get_or, take, drop, sym, refl, ap, ◌∙◌, zero-add, mul-suc, add-one, arith, take-add}
use Rattle.std.specs.List.{flat_map}
use Rattle.std.proofs.lemmas.List.{drop_more, flat_map_more, take_all, length-drop, drop-drop, take-append-drop}
use Rattle.std.proofs.lemmas.List.FromFn.{map-range_with_len_more}
use Rattle.rows.specs.declared.counts.Counts.{Counts}
use Rattle.rows.specs.Bytes.{Bytes, u16_at, i16_at, u32_at, two_bytes, four_bytes, in16}
use Rattle.rows.specs.Fields.{corner_at, ridge_at, corner_bytes, ridge_bytes}
use Rattle.rows.specs.Captures.{each, rows_in, trailer_in, capture, counts}
use Rattle.rows.specs.Trailers.{trailer_at, layout, trailer_bytes}
use Rattle.rows.proofs.Layouts.{Laid, laid}
use Rattle.rows.proofs.Reading.{counts_read}
use Rattle.rows.proofs.Digits.{in16_back}

-- ---- parts of a list
-- two bytes, and four, from a place on
take_two : (bs : List ℕ) (i : ℕ) → i + 2 ≤ length bs → take 2 (drop i bs) ≡ get_or bs i 0 ∷ get_or bs (i + 1) 0 ∷ []
take_two bs i h = grind (arith, drop_more)

take_four : (bs : List ℕ) (i : ℕ) → i + 4 ≤ length bs → take 4 (drop i bs) ≡ get_or bs i 0 ∷ get_or bs (i + 1) 0 ∷ get_or bs (i + 2) 0 ∷ get_or bs (i + 3) 0 ∷ []
take_four bs i h = grind (arith, drop_more)

-- a part, cut in two
take_cut : (bs : List ℕ) (i j m n : ℕ) → i + m ≡ j → take (m + n) (drop i bs) ≡ take m (drop i bs) ++ take n (drop j bs)
take_cut bs i j m n e = grind (arith, take-add, drop-drop)

-- all that follows a place, cut in two
drop_cut : (bs : List ℕ) (i m j : ℕ) → i + m ≡ j → take m (drop i bs) ++ drop j bs ≡ drop i bs
drop_cut bs i m j e = ap (λ k. take m (drop i bs) ++ drop k bs) (sym e) ∙ ap (λ t. take m (drop i bs) ++ t) (sym (drop-drop m i bs)) ∙ take-append-drop m (drop i bs)

-- ---- what stands at a place is saved as the bytes that stand there
-- a number of two bytes, and of four
two_again : (bs : List ℕ) (i : ℕ) → Bytes bs → i + 2 ≤ length bs → two_bytes (u16_at bs i) ≡ take 2 (drop i bs)
two_again bs i b h = grind (arith, take_two, b i, b (i + 1))

four_again : (bs : List ℕ) (i : ℕ) → Bytes bs → i + 4 ≤ length bs → four_bytes (u32_at bs i) ≡ take 4 (drop i bs)
four_again bs i b h = grind (arith, take_four, b i, b (i + 1), b (i + 2), b (i + 3))

-- a coordinate, a corner row and a ridge row
coordinate_again : (bs : List ℕ) (i : ℕ) → Bytes bs → i + 2 ≤ length bs → two_bytes (in16 (i16_at bs i)) ≡ take 2 (drop i bs)
coordinate_again bs i b h = grind (arith, two_again, in16_back, b i, b (i + 1))

corner_again : (bs : List ℕ) (i : ℕ) → Bytes bs → i + 6 ≤ length bs → corner_bytes (corner_at bs i) ≡ take 6 (drop i bs)
corner_again bs i b h =
    (λ k. coordinate_again bs i b (omega arith) k ++ (coordinate_again bs (i + 2) b (omega arith) k ++ coordinate_again bs (i + 4) b (omega arith) k))
    ∙ ap (λ t. take 2 (drop i bs) ++ t) (sym (take_cut bs (i + 2) (i + 4) 2 2 (omega arith)))
    ∙ sym (take_cut bs i (i + 2) 2 4 refl)

ridge_again : (bs : List ℕ) (i : ℕ) → i + 2 ≤ length bs → ridge_bytes (ridge_at bs i) ≡ take 2 (drop i bs)
ridge_again bs i h = sym (take_two bs i h)

-- rows of one width that stand one after the other
table_again : {X : Type 0} (w : X → List ℕ) (f : ℕ → X) (bs : List ℕ) (at width n : ℕ)
    → ((k : ℕ) → k < n → w (f k) ≡ take width (drop (at + width * k) bs)) → flat_map w (each n f) ≡ take (width * n) (drop at bs)
table_again w f bs at width zero h = grind arith
table_again w f bs at width (suc n) h =
    let e : width * n + width ≡ width * suc n = omega (arith, mul-suc width n) in
    ap (λ m. flat_map w (each m f)) (sym (add-one n))
    ∙ ap (flat_map w) (map-range_with_len_more f 0 n n (omega arith))
    ∙ sym (flat_map_more w [] (each n f) (f n))
    ∙ (λ i. table_again w f bs at width n (λ k l. h k (omega arith)) i ++ h n (omega arith) i)
    ∙ sym (take_cut bs at (at + width * n) (width * n) width refl)
    ∙ ap (λ m. take m (drop at bs)) e

-- the trailer
trailer_again : (bs : List ℕ) (i : ℕ) → Bytes bs → i + 10 ≡ length bs → Laid (length bs) (trailer_at bs i) → trailer_bytes (trailer_at bs i).counts ≡ drop i bs
trailer_again bs i b e l =
    (λ k. (get_or bs i 0 ∷ get_or bs (i + 1) 0 ∷ get_or bs (i + 2) 0 ∷ sym l.edition k ∷ []) ++ (distance (i + 4) l.to_corners (omega arith) k ++ (distance (i + 6) l.to_flats (omega arith) k ++ distance (i + 8) l.to_ridges (omega arith) k)))
    ∙ (λ k. sym (take_four bs i (omega arith)) k ++ (take 2 (drop (i + 4) bs) ++ sym (take_cut bs (i + 6) (i + 8) 2 2 (omega arith)) k))
    ∙ ap (λ t. take 4 (drop i bs) ++ t) (sym (take_cut bs (i + 4) (i + 6) 2 4 (omega arith)))
    ∙ sym (take_cut bs i (i + 4) 4 6 refl)
    ∙ take_all 10 (drop i bs) (simp length-drop (omega arith))
  where
    distance : (j : ℕ) {n : ℕ} → u16_at bs j ≡ n → j + 2 ≤ length bs → two_bytes n ≡ take 2 (drop j bs)
    distance j p h = ap two_bytes (sym p) ∙ two_again bs j b h

-- ---- the whole capture
pub again : (bs : List ℕ) → Bytes bs → layout (length bs) (trailer_in bs) ≡ true → capture (rows_in bs) ≡ bs
again bs b h =
    (λ i. corners i ++ (flats i ++ (ridges i ++ trailer i)))
    ∙ ap (λ t. take (6 * c) bs ++ (take (4 * f) (drop (6 * c) bs) ++ t)) (drop_cut bs (6 * c + 4 * f) (2 * r) (length bs - 10) (omega (arith, whole)))
    ∙ ap (λ t. take (6 * c) bs ++ t) (drop_cut bs (6 * c) (4 * f) (6 * c + 4 * f) refl)
    ∙ take-append-drop (6 * c) bs
  where
    n : Counts
    n = (trailer_in bs).counts

    c : ℕ
    c = n.corners

    f : ℕ
    f = n.flats

    r : ℕ
    r = n.ridges

    l : Laid (length bs) (trailer_in bs)
    l = laid (length bs) (trailer_in bs) h

    whole : length bs ≡ 6 * c + 4 * f + 2 * r + 10
    whole = l.whole

    corners : flat_map corner_bytes (rows_in bs).corners ≡ take (6 * c) bs
    corners =
        table_again corner_bytes _ bs 0 6 c
        (λ k h. corner_again bs (6 * k) b (omega (arith, whole)) ∙ ap (λ j. take 6 (drop j bs)) (sym (zero-add (6 * k))))

    flats : flat_map four_bytes (rows_in bs).flats ≡ take (4 * f) (drop (6 * c) bs)
    flats = table_again four_bytes _ bs (6 * c) 4 f (λ k h. four_again bs (6 * c + 4 * k) b (omega (arith, whole)))

    ridges : flat_map ridge_bytes (rows_in bs).ridges ≡ take (2 * r) (drop (6 * c + 4 * f) bs)
    ridges = table_again ridge_bytes _ bs (6 * c + 4 * f) 2 r (λ k h. ridge_again bs (6 * c + 4 * f + 2 * k) (omega (arith, whole)))

    trailer : trailer_bytes (counts (rows_in bs)) ≡ drop (length bs - 10) bs
    trailer = ap trailer_bytes (counts_read n _ _ _ refl refl refl) ∙ trailer_again bs (length bs - 10) b (omega (arith, whole)) l
