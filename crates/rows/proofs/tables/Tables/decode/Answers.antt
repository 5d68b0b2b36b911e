use Rattle.std.proofs.Common.{◌≡◌, ◌+◌, ◌*◌, true, length, Ok, sym, ap, ◌∙◌, rules}
use Rattle.rows.specs.Bytes.{u32_at}
use Rattle.rows.specs.Fields.{corner_at, ridge_at}
use Rattle.rows.specs.Captures.{each, capture, rows_by, trailer_in}
use Rattle.rows.specs.Sizes.{sizes}
use Rattle.rows.specs.Trailers.{layout}
use Rattle.rows.proofs.Again.{again}
use Rattle.rows.proofs.Reading.{corners_first, same_rows, counts_read, decoding_laid}
use Rattle.rows.proofs.tables.Tables.decode.Goals as goal

pub invariant_of-result : goal.invariant_of-result
invariant_of-result c =
    let l = c.in_ok-layout.layout in
    record { allowed = ap sizes (counts_read l.counts _ _ _ c.read.ensures c.read-2.ensures c.read-3.ensures) ∙ l.allowed }

pub returns : goal.returns
returns c =
    let bs = c.args.bytes.now in
    let n = c.in_ok-layout.layout.counts in
    let at = c.starts-at.ensures in
    let fits : layout (length bs) c.at-trailer.result ≡ true = search rules in
    let same : n ≡ c.at-trailer.result.counts = search rules in
    let l : layout (length bs) (trailer_in bs) ≡ true = ap (layout (length bs)) (sym c.at-trailer.ensures) ∙ fits in
    let corners = c.read.ensures ∙ (λ i. each n.corners (λ k. corner_at bs ((at i).corners + 6 * k))) ∙ corners_first bs n.corners in
    let flats = c.read-2.ensures ∙ (λ i. each n.flats (λ k. u32_at bs ((at i).flats + 4 * k))) in
    let ridges = c.read-3.ensures ∙ (λ i. each n.ridges (λ k. ridge_at bs ((at i).ridges + 2 * k))) in
    let e = same_rows corners flats ridges ∙ ap (λ m. rows_by m bs) (same ∙ ap (λ t. t.counts) c.at-trailer.ensures) in
    record { answer = ap Ok e ∙ sym (decoding_laid bs l); again = ap capture e ∙ again bs (λ k. (c.type_inv.bytes k).fits) l }
