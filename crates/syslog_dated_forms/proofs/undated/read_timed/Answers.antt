use Rattle.syslog_dated_forms.proofs.Names.{◌past◌, ◌then◌, CiscoUndated, counter_row, filed_front, filed_more, inl}
use Rattle.syslog_dated_forms.proofs.Names.{no_row, no_row_division, refl, Row, row_of, rows_join, rows_none_here}
use Rattle.syslog_dated_forms.proofs.Names.{rows_none_later, says_once, timed_row, uptime}
use Rattle.syslog_dated_forms.specs.Undated.{timed_sent}
use Rattle.syslog_dated_forms.proofs.FiledLemmas.{filed_front_det}
use Rattle.syslog_dated_forms.proofs.RowLemmas.{filed_more_det, timed_row_det}
use Rattle.syslog_dated_forms.proofs.ReaderLemmas.{skipped}
use Rattle.syslog_dated_forms.proofs.undated.read_timed.Goals as goal

pub returns-in_err-front : goal.returns-in_err-front
returns-in_err-front c text at g d = rw c.from_residual.ensures (no_row_division timed_row (rows_none_here filed_front
    filed_more (c.in_err-front.ensures text at g d)))

pub returns-in_err-tag : goal.returns-in_err-tag
returns-in_err-tag c text at g d = rw c.from_residual-in_err-tag.ensures (no_row_division timed_row (rows_none_later
    filed_front filed_more filed_front_det (c.in_ok-front.ensures text at g d) (no_row filed_more filed_more_det
    ((skipped (Row counter_row) _ _ c.past_any-after_counter.ensures).1 past (skipped (Row counter_row) _ _
    c.past_any-after_number.ensures).1 past (skipped uptime _ _ c.past_any-rest.ensures).1 past inl
    c.in_err-tag.ensures))))

pub returns : goal.returns
returns c text at g d = says_once CiscoUndated timed_row timed_sent timed_row_det (rows_join filed_front filed_more
    (c.in_ok-front.ensures text at g d) (row_of filed_more ((skipped (Row counter_row) _ _
    c.past_any-after_counter.ensures).1 then (skipped (Row counter_row) _ _ c.past_any-after_number.ensures).1
    then (skipped uptime _ _ c.past_any-rest.ensures).1 then c.in_ok-tag.ensures then refl))) refl
