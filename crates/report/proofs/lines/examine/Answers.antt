use Rattle.std.proofs.Common.{◌∙◌}
use Rattle.std.proofs.lemmas.Result.{err_from_is_err_and}
use Rattle.solid.specs.Questions.{solid_rows}
use Rattle.solid.specs.Reading.{reading}
use Rattle.report.proofs.Findings.{refused_found, accepted_found, read_fits}
use Rattle.report.proofs.lines.examine.Goals as goal

pub returns-in_err-read : goal.returns-in_err-read
returns-in_err-read c =
    let p = err_from_is_err_and c.from_residual.result c.from_residual.ensures.1 in
    rw (p.1, p.2) (refused_found (reading c.args.bytes.now) _ c.args.bytes.now c.in_err-read.ensures.answer)

pub returns : goal.returns
returns c =
    let e = c.in_ok-read.ensures in
    c.saved_again.ensures ∙ accepted_found (reading c.args.bytes.now) (solid_rows c.read.new.self) _ c.args.bytes.now e.answer e.place
