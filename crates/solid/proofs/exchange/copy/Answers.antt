use Rattle.std.proofs.Common.{refl}
use Rattle.std.proofs.lemmas.Result.{err_from_is_err_and}
use Rattle.solid.specs.Questions.{solid_rows}
use Rattle.solid.specs.Reading.{reading}
use Rattle.solid.proofs.Copies.{copy_refused, copy_answer, copy_length, copy_bytes}
use Rattle.solid.proofs.exchange.copy.Goals as goal

pub returns-in_err-read : goal.returns-in_err-read
returns-in_err-read c =
    let p = err_from_is_err_and c.from_residual.result c.from_residual.ensures.1 in
    rw (p.1, p.2) record { answer = copy_refused (reading c.args.bytes.now) _ c.args.buffer.now c.in_err-read.ensures.answer; bytes = refl; length = tt }

pub returns : goal.returns
returns c =
    let S = solid_rows c.read.new.self in
    let bs = c.args.bytes.now in
    let b = c.args.buffer.now in
    let e = c.in_ok-read.ensures in
    record {
      answer = copy_answer (reading bs) S _ b c.save.result e.answer e.place c.save.ensures.answer;
      bytes = copy_bytes S bs b _ e.again c.save.result c.save.ensures.answer c.save.ensures.bytes;
      length = copy_length S bs b b e.again c.save.result c.save.ensures.answer;
    }
