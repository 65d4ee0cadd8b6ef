use Rattle.std.proofs.Common.{◌∙◌, ap, decimal, sym}
use Rattle.syslog_pieces.specs.Pri.{severity_number}
use Rattle.syslog_csv.proofs.CellLemmas.{number_digits}
use Rattle.syslog_csv.proofs.cells.severity_code_cell.Goals as goal

pub returns-in-Some : goal.returns-in-Some
returns-in-Some c =
    rw c.in-Some.is (c.as_bytes.ensures.value ∙ c.format.ensures.text ∙ ap decimal c.severity_code.ensures
    ∙ sym (number_digits (decimal (severity_number c.in-Some.severity))))
