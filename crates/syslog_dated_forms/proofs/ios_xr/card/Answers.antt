use Rattle.syslog_dated_forms.proofs.Names.{◌past◌, ◌then◌, card_row, counter_row, host_in, inl, mapped_front, Option}
use Rattle.syslog_dated_forms.proofs.Names.{refl, Row, row_of, Text, unread}
use Rattle.syslog_dated_forms.proofs.RowLemmas.{card_row_det}
use Rattle.syslog_dated_forms.proofs.ReaderLemmas.{skipped}
use Rattle.syslog_dated_forms.proofs.ios_xr.card.Goals as goal

pub returns-in_err-after_node : goal.returns-in_err-after_node
returns-in_err-after_node c = rw c.from_residual.ensures (unread card_row card_row_det (Option Text) host_in
    (c.blanks-after_gap.ensures past (skipped (Row counter_row) _ _ c.past_any-after_counter.ensures).1
    past c.optional_host.ensures past inl c.in_err-after_node.ensures))

pub returns-in_err-rest : goal.returns-in_err-rest
returns-in_err-rest c = rw c.from_residual-in_err-rest.ensures (unread card_row card_row_det (Option Text) host_in
    (c.blanks-after_gap.ensures past (skipped (Row counter_row) _ _ c.past_any-after_counter.ensures).1
    past c.optional_host.ensures past c.in_ok-after_node.ensures.1 past inl c.in_err-rest.ensures))

pub returns : goal.returns
returns c = mapped_front (Row card_row) (Option Text) host_in (row_of card_row (c.blanks-after_gap.ensures
    then (skipped (Row counter_row) _ _ c.past_any-after_counter.ensures).1 then c.optional_host.ensures
    then c.in_ok-after_node.ensures.1 then c.in_ok-rest.ensures.1 then refl))
