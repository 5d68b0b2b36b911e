use Rattle.std.proofs.Common.{◌+◌, ◌<◌, ◌≤◌, length, Ok, sym, ap, ◌∙◌, arith}
use Rattle.rows.specs.declared.counts.Counts.{Counts}
use Rattle.rows.specs.Meaning.{rows_of}
use Rattle.rows.specs.Trailers.{size}
use Rattle.rows.proofs.Saving.{no_room, room, all_written}
use Rattle.rows.proofs.tables.Tables.encode.Goals as goal

pub returns-then-buffer-len : goal.returns-then-buffer-len
returns-then-buffer-len c =
    let t = c.args.self.now in
    let n = c.counts.result in
    let short : length c.args.buffer.now < size n = omega (arith, ap (λ (m : Counts). m.corners) c.distances-trailer_at.ensures) in
    let kept = no_room (rows_of t) n c.args.buffer.now (sym c.counts.ensures) short in
    record { answer = kept.0; bytes = kept.1; allowed = t.allowed }

pub returns : goal.returns
returns c =
    let t = c.args.self.now in
    let n = c.counts.result in
    let e = sym c.counts.ensures in
    let back = c.distances-trailer_at.ensures in
    let fits : size n ≤ length c.args.buffer.now = omega (arith, ap (λ (m : Counts). m.corners) back) in
    record {
      answer = ap (λ (m : Counts). Ok (m.corners + 10)) back ∙ room (rows_of t) n c.args.buffer.now e fits;
      bytes = all_written (rows_of t) n c.args.buffer.now e c.starts-at.ensures back fits
          c.corners.ensures c.put_rows.ensures c.flats.ensures c.put_rows-2.ensures c.ridges.ensures c.put_rows-3.ensures c.trailer_bytes.ensures c.put.ensures;
      allowed = t.allowed;
    }
