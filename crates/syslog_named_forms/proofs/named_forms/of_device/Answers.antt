use Rattle.syslog_named_forms.proofs.Names.{[], addressed_row, compact_row, device_tails, row_det, titled_row}
use Rattle.syslog_named_forms.proofs.NamedFormLemmas.{◌before◌, first_tail, found_after, no_tail}
use Rattle.syslog_named_forms.proofs.RowLemmas.{addressed_det, compact_det, titled_det}
use Rattle.syslog_named_forms.proofs.named_forms.of_device.Goals as goal

pub returns-in-Some : goal.returns-in-Some
returns-in-Some c after = found_after device_tails []
    (first_tail (row_det addressed_row addressed_det) c.in-Some.named (c.in-Some.ensures _ after))

pub returns-in-Some-titled : goal.returns-in-Some-titled
returns-in-Some-titled c after = found_after device_tails []
    (c.in_default.ensures _ after before
    first_tail (row_det titled_row titled_det) c.in-Some-titled.named (c.in-Some-titled.ensures _ after))

pub returns-in-Some-compact : goal.returns-in-Some-compact
returns-in-Some-compact c after = found_after device_tails []
    (c.in_default.ensures _ after before c.in_default-titled.ensures _ after before
    first_tail (row_det compact_row compact_det) c.in-Some-compact.named c.in-Some-compact.ensures)

pub returns : goal.returns
returns c after = found_after device_tails []
    (c.in_default.ensures _ after before c.in_default-titled.ensures _ after before c.in_default-compact.ensures before
    no_tail)
