use Rattle.syslog_dated_forms.proofs.Names.{◌∙◌, IsName, label, no_such_front, no_such_meaning, such_front, sym}
use Rattle.std.specs.Prelude.{◌≡◌, false, true}
use Rattle.syslog_dated_forms.proofs.CiscoLemmas.{label_det}
use Rattle.syslog_dated_forms.proofs.undated.name_label.Goals as goal

pub returns-in_err-name : goal.returns-in_err-name
returns-in_err-name c = rw c.from_residual.ensures (no_such_front label IsName c.in_err-name.ensures)

pub returns-then-is_no_name : goal.returns-then-is_no_name
returns-then-is_no_name c = no_such_meaning label IsName label_det c.in_ok-name.ensures
    (λ not. (let bad : true ≡ false = c.if-is_no_name.ensures ∙ not in cc))

pub returns : goal.returns
returns c = such_front label IsName c.in_ok-name.ensures (sym c.if-is_no_name.ensures)
