use Rattle.std.proofs.Common.{ℕ, Result, refl, ap}
use Rattle.std.proofs.lemmas.Bool.{false≢true}
use Rattle.std.proofs.lemmas.Result.{err_from_is_err_and}
use Rattle.rows.specs.Captures.{Rows}
use Rattle.solid.specs.Questions.{solid_rows}
use Rattle.solid.specs.Reading.{reply, held}
use Rattle.solid.proofs.hold.Solid.read.Goals as goal

pub returns-in_err-self : goal.returns-in_err-self
returns-in_err-self c =
    let p = err_from_is_err_and c.from_residual.result c.from_residual.ensures.1 in
    let e = c.in_err-self.ensures.answer in
    rw (p.1, p.2) record { answer = ap reply e; place = ap (λ (r : Result Rows ℕ). held r (solid_rows c.args.self.now)) e; unchanged = λ _. refl; again = tt }

pub returns : goal.returns
returns c =
    let e = c.in_ok-self.ensures.answer in
    record { answer = ap reply e; place = ap (λ (r : Result Rows ℕ). held r (solid_rows c.args.self.now)) e; unchanged = λ h. absurd (false≢true h); again = c.in_ok-self.ensures.again }
