use Rattle.syslog_named_forms.proofs.Names.{beginning_det, Bracket, counted_row, dated_marked_forms, event_row}
use Rattle.syslog_named_forms.proofs.Names.{graded_row, graded_tails, leveled_row, mark_class, numbered_row, padded_row}
use Rattle.syslog_named_forms.proofs.Names.{Row, row_det, sourced_row, threaded_row}
use Rattle.syslog_named_forms.proofs.NamedFormLemmas.{◌before◌, first_tail, found_after}
use Rattle.syslog_named_forms.proofs.RowLemmas.{event_det, graded_det, leveled_det, numbered_det, padded_det}
use Rattle.syslog_named_forms.proofs.RowLemmas.{sourced_det, threaded_det}
use Rattle.syslog_named_forms.proofs.named_forms.of_dated.Goals as goal

pub returns-in-Some : goal.returns-in-Some
returns-in-Some c = found_after graded_tails dated_marked_forms
    (first_tail (row_det graded_row graded_det) c.in-Some.named c.in-Some.ensures)

pub returns-in-Some-leveled : goal.returns-in-Some-leveled
returns-in-Some-leveled c = let after = c.past_host-after_host.ensures in
    found_after graded_tails dated_marked_forms
    (c.in_default.ensures before
    first_tail (row_det leveled_row leveled_det) c.in-Some-leveled.named (c.in-Some-leveled.ensures _ after))

pub returns-in-Some-event : goal.returns-in-Some-event
returns-in-Some-event c = let after = c.past_host-after_host.ensures in
    found_after graded_tails dated_marked_forms
    (c.in_default.ensures before c.in_default-leveled.ensures _ after before
    first_tail (row_det event_row event_det) c.in-Some-event.named c.in-Some-event.ensures)

pub returns-in-Some-sourced : goal.returns-in-Some-sourced
returns-in-Some-sourced c = let after = c.past_host-after_host.ensures in
    found_after graded_tails dated_marked_forms
    (c.in_default.ensures before c.in_default-leveled.ensures _ after before c.in_default-event.ensures before
    first_tail (row_det sourced_row sourced_det) c.in-Some-sourced.named (c.in-Some-sourced.ensures _ after))

pub returns-in-Some-threaded : goal.returns-in-Some-threaded
returns-in-Some-threaded c = let after = c.past_host-after_host.ensures in
    found_after graded_tails dated_marked_forms
    (c.in_default.ensures before c.in_default-leveled.ensures _ after before c.in_default-event.ensures before
    c.in_default-sourced.ensures _ after before
    first_tail (row_det threaded_row threaded_det) c.in-Some-threaded.named (c.in-Some-threaded.ensures after))

pub returns-in-Some-padded : goal.returns-in-Some-padded
returns-in-Some-padded c = let after = c.past_host-after_host.ensures in
    found_after graded_tails dated_marked_forms
    (c.in_default.ensures before c.in_default-leveled.ensures _ after before c.in_default-event.ensures before
    c.in_default-sourced.ensures _ after before c.in_default-threaded.ensures after before
    first_tail (row_det padded_row padded_det) c.in-Some-padded.named (c.in-Some-padded.ensures after))

pub returns-in-Some-numbered : goal.returns-in-Some-numbered
returns-in-Some-numbered c = let after = c.past_host-after_host.ensures in
    found_after graded_tails dated_marked_forms
    (c.in_default.ensures before c.in_default-leveled.ensures _ after before c.in_default-event.ensures before
    c.in_default-sourced.ensures _ after before c.in_default-threaded.ensures after before
    c.in_default-padded.ensures after before
    first_tail (row_det numbered_row numbered_det) c.in-Some-numbered.named c.in-Some-numbered.ensures)

pub returns-in-Some-counted : goal.returns-in-Some-counted
returns-in-Some-counted c = let after = c.past_host-after_host.ensures in
    found_after graded_tails dated_marked_forms
    (c.in_default.ensures before c.in_default-leveled.ensures _ after before c.in_default-event.ensures before
    c.in_default-sourced.ensures _ after before c.in_default-threaded.ensures after before
    c.in_default-padded.ensures after before
    c.in_default-numbered.ensures before
    first_tail (beginning_det (Row counted_row)) c.in-Some-counted.named c.in-Some-counted.ensures)

pub returns-in-Some-opened : goal.returns-in-Some-opened
returns-in-Some-opened c = let after = c.past_host-after_host.ensures in
    found_after graded_tails dated_marked_forms
    (c.in_default.ensures before c.in_default-leveled.ensures _ after before c.in_default-event.ensures before
    c.in_default-sourced.ensures _ after before c.in_default-threaded.ensures after before
    c.in_default-padded.ensures after before c.in_default-numbered.ensures before c.in_default-counted.ensures before
    first_tail (beginning_det (mark_class Bracket)) c.in-Some-opened.named c.in-Some-opened.ensures)

pub returns : goal.returns
returns c = let after = c.past_host-after_host.ensures in
    found_after graded_tails dated_marked_forms
    (c.in_default.ensures before c.in_default-leveled.ensures _ after before c.in_default-event.ensures before
    c.in_default-sourced.ensures _ after before c.in_default-threaded.ensures after before
    c.in_default-padded.ensures after before
    c.in_default-numbered.ensures before c.in_default-counted.ensures before
    c.in_default-opened.ensures before
    record { finds = c.of_message.ensures after })
