use Rattle.std.proofs.Common.{sym}
use Rattle.std.proofs.lemmas.Result.{err_from_is_err_and}
use Rattle.rows.specs.Meaning.{rows_of}
use Rattle.rules.proofs.Lawful.{lawful_from_checking}
use Rattle.solid.proofs.Reading.{refused_bytes, refused_rows, accepted_rows}
use Rattle.solid.proofs.exchange.solid_of.Goals as goal

pub returns-in_err-tables : goal.returns-in_err-tables
returns-in_err-tables c =
    let p = err_from_is_err_and c.from_residual.result c.from_residual.ensures.1 in
    rw (p.1, p.2) record { answer = sym (refused_bytes c.args.bytes.now _ (sym c.in_err-tables.ensures.answer)); again = tt }

pub returns-in_err-check : goal.returns-in_err-check
returns-in_err-check c =
    let p = err_from_is_err_and c.from_residual-in_err-check.result c.from_residual-in_err-check.ensures.1 in
    rw (p.1, p.2) record { answer = sym (refused_rows c.args.bytes.now (rows_of c.in_ok-tables.tables) _ (sym c.in_ok-tables.ensures.answer) (sym c.in_err-check.ensures)); again = tt }

pub invariant_of-result : goal.invariant_of-result
invariant_of-result c = record { kept = lawful_from_checking _ (sym c.in_ok-check.ensures) }

pub returns : goal.returns
returns c = record {
  answer = sym (accepted_rows c.args.bytes.now (rows_of c.in_ok-tables.tables) (sym c.in_ok-tables.ensures.answer) (sym c.in_ok-check.ensures));
  again = c.in_ok-tables.ensures.again;
}
