use Rattle.std.proofs.Common.{replicate, refl, arith}
use Rattle.std.proofs.lemmas.Grind.{common_steps}
use Rattle.std.proofs.lemmas.Slice.Eq.{slice_eq-Decides}
use Rattle.std.proofs.lemmas.Bool.Decides.{Decides-eqb}
use Rattle.solid.specs.Questions.{solid_rows}
use Rattle.report.proofs.Findings.{save_within, save_answer, save_size, save_front}
use Rattle.report.proofs.lines.saved_again.Goals as goal

pub returns-in_err-saved : goal.returns-in_err-saved
returns-in_err-saved c =
    let ok = save_answer (solid_rows c.args.solid.now) c.args.bytes.now (replicate 622 0) c.requires.came c.requires.room in
    cc c.in_err-saved.ensures.answer

pub slice_bounds-buffer-end : goal.slice_bounds-buffer-end
slice_bounds-buffer-end c =
    omega (arith, save_within (solid_rows c.args.solid.now) (replicate 622 0) _ c.in_ok-saved.ensures.answer, c.save.auto.buffer)

pub slice_bounds-eq-end : goal.slice_bounds-eq-end
slice_bounds-eq-end c =
    grind (arith, common_steps, save_within (solid_rows c.args.solid.now) (replicate 622 0) _ c.in_ok-saved.ensures.answer, c.save.auto.buffer)

pub returns : goal.returns
returns c =
    let S = solid_rows c.args.solid.now in
    let bs = c.args.bytes.now in
    let came = c.requires.came in
    let room = c.requires.room in
    let size = save_size S bs (replicate 622 0) came room _ c.in_ok-saved.ensures.answer in
    let front = rw (← c.in_ok-saved.ensures.bytes) at (save_front S bs (replicate 622 0) came room _ c.in_ok-saved.ensures.answer) in
    let same = (slice_eq-Decides Decides-eqb _ _ _ c.eq.ensures).1 front in
    rw (c.counts.ensures, size, same) refl
