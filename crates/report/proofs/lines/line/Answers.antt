use Rattle.report.proofs.lines.line.Goals as goal

pub returns-in-Ok : goal.returns-in-Ok
returns-in-Ok c = rw c.in-Ok.is c.format.ensures.ok

pub returns-in-Err : goal.returns-in-Err
returns-in-Err c = rw (c.in-Err.is, ← c.number-number.ensures) c.format-in-Err.ensures.ok
