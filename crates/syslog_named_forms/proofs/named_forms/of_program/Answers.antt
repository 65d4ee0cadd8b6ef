use Rattle.syslog_named_forms.proofs.Names.{[], access_row, hosted_det, hostless_row, log_row, passed_on, program_tails}
use Rattle.syslog_named_forms.proofs.Names.{row_det, severity_row, untagged_row, worded_row}
use Rattle.syslog_named_forms.proofs.NamedFormLemmas.{◌before◌, first_tail, found_after, no_tail}
use Rattle.syslog_named_forms.proofs.RowLemmas.{access_det, either_box_det, hostless_det, log_det, passed_on_det}
use Rattle.syslog_named_forms.proofs.RowLemmas.{severity_det, untagged_det, worded_det}
use Rattle.syslog_named_forms.proofs.named_forms.of_program.Goals as goal

pub returns-in-Some : goal.returns-in-Some
returns-in-Some c after = found_after program_tails []
    (first_tail (hosted_det passed_on passed_on_det) c.in-Some.named (c.in-Some.ensures after))

pub returns-in-Some-severity_first : goal.returns-in-Some-severity_first
returns-in-Some-severity_first c after = found_after program_tails []
    (c.in_default.ensures after before
    first_tail (row_det severity_row severity_det) c.in-Some-severity_first.named
    (c.in-Some-severity_first.ensures _ after))

pub returns-in-Some-worded : goal.returns-in-Some-worded
returns-in-Some-worded c after = found_after program_tails []
    (c.in_default.ensures after before c.in_default-severity_first.ensures _ after before
    first_tail (row_det worded_row worded_det) c.in-Some-worded.named (c.in-Some-worded.ensures _ after))

pub returns-in-Some-of_access_point : goal.returns-in-Some-of_access_point
returns-in-Some-of_access_point c after = found_after program_tails []
    (c.in_default.ensures after before c.in_default-severity_first.ensures _ after before
    c.in_default-worded.ensures _ after before
    first_tail (row_det access_row access_det) c.in-Some-of_access_point.named
    (c.in-Some-of_access_point.ensures after))

pub returns-in-Some-hostless : goal.returns-in-Some-hostless
returns-in-Some-hostless c after = found_after program_tails []
    (c.in_default.ensures after before c.in_default-severity_first.ensures _ after before
    c.in_default-worded.ensures _ after before c.in_default-of_access_point.ensures after before
    first_tail (row_det hostless_row hostless_det) c.in-Some-hostless.named (c.in-Some-hostless.ensures after))

pub returns-in-Some-after_serial : goal.returns-in-Some-after_serial
returns-in-Some-after_serial c after = found_after program_tails []
    (c.in_default.ensures after before c.in_default-severity_first.ensures _ after before
    c.in_default-worded.ensures _ after before c.in_default-of_access_point.ensures after before
    c.in_default-hostless.ensures after before
    first_tail either_box_det c.in-Some-after_serial.named (c.in-Some-after_serial.ensures _ after))

pub returns-in-Some-unified : goal.returns-in-Some-unified
returns-in-Some-unified c after = found_after program_tails []
    (c.in_default.ensures after before c.in_default-severity_first.ensures _ after before
    c.in_default-worded.ensures _ after before c.in_default-of_access_point.ensures after before
    c.in_default-hostless.ensures after before c.in_default-after_serial.ensures _ after before
    first_tail (row_det log_row log_det) c.in-Some-unified.named c.in-Some-unified.ensures)

pub returns-in-Some-untagged_message : goal.returns-in-Some-untagged_message
returns-in-Some-untagged_message c after = found_after program_tails []
    (c.in_default.ensures after before c.in_default-severity_first.ensures _ after before
    c.in_default-worded.ensures _ after before c.in_default-of_access_point.ensures after before
    c.in_default-hostless.ensures after before c.in_default-after_serial.ensures _ after before
    c.in_default-unified.ensures before
    first_tail (row_det untagged_row untagged_det) c.in-Some-untagged_message.named
    (c.in-Some-untagged_message.ensures _ after))

pub returns : goal.returns
returns c after = found_after program_tails []
    (c.in_default.ensures after before c.in_default-severity_first.ensures _ after before
    c.in_default-worded.ensures _ after before c.in_default-of_access_point.ensures after before
    c.in_default-hostless.ensures after before c.in_default-after_serial.ensures _ after before
    c.in_default-unified.ensures before c.in_default-untagged_message.ensures _ after before no_tail)
