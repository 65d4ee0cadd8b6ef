use Rattle.syslog_dated_forms.proofs.Names.{◌then◌, counter_row, labelled, mapped_front, mark, Option, refl, Row}
use Rattle.syslog_dated_forms.proofs.Names.{row_of, start_row, task_row, Text}
use Rattle.syslog_dated_forms.proofs.ReaderLemmas.{skipped}
use Rattle.syslog_dated_forms.proofs.cisco.start.Goals as goal

pub returns : goal.returns
returns c = mapped_front (Row start_row) (Option Text) labelled (row_of start_row (c.blanks-after_gap.ensures
    then c.past_colon-after_colon.ensures.1 then c.blanks-begun.ensures
    then (skipped (Row counter_row) _ _ c.past_any-after_counter.ensures).1
    then (skipped (Row counter_row) _ _ c.past_any-after_number.ensures).1 then c.optional_label.ensures
    then (skipped (Row counter_row) _ _ c.past_any-numbered.ensures).1 then
    (skipped (Row task_row) _ _ c.past_any-after_task.ensures).1 then (skipped mark _ _ c.past_any-rest.ensures).1
    then refl))
