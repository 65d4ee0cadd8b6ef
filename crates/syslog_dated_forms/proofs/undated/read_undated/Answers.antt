use Rattle.syslog_dated_forms.proofs.Names.{◌past◌, ◌then◌, CiscoUndated, counter_row, inl, refl, Row, row_of}
use Rattle.syslog_dated_forms.proofs.Names.{says_once, undated_row, uptime}
use Rattle.syslog_dated_forms.specs.Undated.{undated_sent}
use Rattle.syslog_dated_forms.proofs.RowLemmas.{undated_row_det}
use Rattle.syslog_dated_forms.proofs.ChainLemmas.{undivided}
use Rattle.syslog_dated_forms.proofs.ReaderLemmas.{skipped}
use Rattle.syslog_dated_forms.proofs.undated.read_undated.Goals as goal

pub returns-in_err-tag : goal.returns-in_err-tag
returns-in_err-tag c = rw c.from_residual.ensures (undivided undated_row undated_row_det (c.blanks-after_gap.ensures
    past c.past_colon-after_colon.ensures.1 past c.blanks-begun.ensures
    past (skipped (Row counter_row) _ _ c.past_any-after_counter.ensures).1
    past (skipped (Row counter_row) _ _ c.past_any-after_number.ensures).1 past c.optional_name.ensures
    past (skipped uptime _ _ c.past_any-rest.ensures).1 past inl c.in_err-tag.ensures))

pub returns : goal.returns
returns c = says_once CiscoUndated undated_row undated_sent undated_row_det (row_of undated_row
    (c.blanks-after_gap.ensures then c.past_colon-after_colon.ensures.1 then c.blanks-begun.ensures
    then (skipped (Row counter_row) _ _ c.past_any-after_counter.ensures).1
    then (skipped (Row counter_row) _ _ c.past_any-after_number.ensures).1 then c.optional_name.ensures
    then (skipped uptime _ _ c.past_any-rest.ensures).1 then c.in_ok-tag.ensures then refl)) refl
