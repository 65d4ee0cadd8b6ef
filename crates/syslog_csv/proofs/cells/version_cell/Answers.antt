use Rattle.std.proofs.Common.{◌∙◌, decimal, sym}
use Rattle.syslog_csv.proofs.CellLemmas.{number_digits}
use Rattle.syslog_csv.proofs.cells.version_cell.Goals as goal

pub returns-in-Some : goal.returns-in-Some
returns-in-Some c =
    rw c.in-Some.is (c.as_bytes.ensures.value ∙ c.format.ensures.text ∙ sym (number_digits (decimal c.in-Some.number)))
