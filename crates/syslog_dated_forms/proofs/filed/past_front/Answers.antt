use Rattle.syslog_dated_forms.proofs.Names.{◌past◌, ◌then◌, filed_front, inl, no_row, refl, row_of}
use Rattle.syslog_dated_forms.proofs.FiledLemmas.{filed_front_det}
use Rattle.syslog_dated_forms.proofs.filed.past_front.Goals as goal

pub returns-in_err-before_device : goal.returns-in_err-before_device
returns-in_err-before_device c text at g d = rw c.from_residual.ensures (no_row filed_front filed_front_det
    (g past d past inl c.in_err-before_device.ensures))

pub returns-in_err-device : goal.returns-in_err-device
returns-in_err-device c text at g d = rw c.from_residual-in_err-device.ensures (no_row filed_front filed_front_det
    (g past d past c.in_ok-before_device.ensures.1 past inl c.in_err-device.ensures))

pub returns-in_err-line : goal.returns-in_err-line
returns-in_err-line c text at g d = rw c.from_residual-in_err-line.ensures (no_row filed_front filed_front_det
    (g past d past c.in_ok-before_device.ensures.1 past c.in_ok-device.ensures past inl c.in_err-line.ensures))

pub returns : goal.returns
returns c text at g d = row_of filed_front (g then d then c.in_ok-before_device.ensures.1
    then c.in_ok-device.ensures then c.in_ok-line.ensures.1 then refl)
