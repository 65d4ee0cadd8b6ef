use Rattle.syslog_text.proofs.PieceLemmas.Class.{◌past◌, ◌then◌, mapped_front, no_mapped, no_row, row_of}
use Rattle.syslog_text.proofs.TextLemmas.Runs.{empty_is, nonempty_is, no_some_run}
use Rattle.syslog_text.proofs.PieceLemmas.Class.{no_texted}
use Rattle.syslog_text.specs.Pieces.Class.{Row, some_run, Text}
use Rattle.syslog_text.specs.Text.CharClass.{is_id_char}
use Rattle.std.proofs.Common.{inl, refl}
use Rattle.syslog_sent.proofs.NamedLemmas.{id_row_det, run_text, unread}
use Rattle.syslog_sent.specs.Named.{id_of, id_row}
use Rattle.syslog_sent.proofs.named.process_id.Goals as goal

pub returns-in_err-rest : goal.returns-in_err-rest
returns-in_err-rest c = rw c.from_residual.ensures (unread id_row id_row_det Text id_of (inl c.in_err-rest.ensures))

pub returns-then-is_empty : goal.returns-then-is_empty
returns-then-is_empty c = no_mapped (Row id_row) Text id_of (no_row id_row id_row_det (c.in_ok-rest.ensures
    past inl (no_texted (some_run is_id_char) (no_some_run _ _ _ _ c.split_run.ensures
    (empty_is _ c.if-is_empty.ensures)))))

pub returns-in_err-rest-2 : goal.returns-in_err-rest-2
returns-in_err-rest-2 c = rw c.from_residual-in_err-rest-2.ensures
    (unread id_row id_row_det Text id_of (c.in_ok-rest.ensures
    past run_text is_id_char c.split_run.ensures (nonempty_is _ c.if-is_empty.ensures)
    past inl c.in_err-rest-2.ensures))

pub returns : goal.returns
returns c = mapped_front (Row id_row) Text id_of (row_of id_row (c.in_ok-rest.ensures
    then run_text is_id_char c.split_run.ensures (nonempty_is _ c.if-is_empty.ensures)
    then c.in_ok-rest-2.ensures then refl))
