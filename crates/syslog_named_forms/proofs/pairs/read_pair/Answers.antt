use Rattle.syslog_named_forms.proofs.Names.{◌past◌, ◌then◌, empty_is, inl, is_word_char, mapped_front, no_mapped}
use Rattle.syslog_named_forms.proofs.Names.{no_row, no_some_run, no_texted, nonempty_is, pair_of, refl, Row, row_of}
use Rattle.syslog_named_forms.proofs.Names.{run_text, some_run, Text, unread}
use Rattle.syslog_named_forms.proofs.PairLemmas.{pair_row_det}
use Rattle.syslog_named_forms.specs.Pairs.{pair_row}
use Rattle.syslog_named_forms.proofs.pairs.read_pair.Goals as goal

pub returns-then-is_empty-clause-reads : goal.returns-then-is_empty-clause-reads
returns-then-is_empty-clause-reads c = no_mapped (Row pair_row) (Text × Text) pair_of (no_row pair_row pair_row_det
    (c.blanks.ensures past c.past_comma.ensures.1 past inl (no_texted (some_run is_word_char)
    (no_some_run _ _ _ _ c.split.ensures (empty_is _ c.if-is_empty.ensures)))))

pub returns-in_err-after_sign-clause-reads : goal.returns-in_err-after_sign-clause-reads
returns-in_err-after_sign-clause-reads c = rw c.from_residual.ensures
    (unread pair_row pair_row_det (Text × Text) pair_of
    (c.blanks.ensures past c.past_comma.ensures.1 past run_text is_word_char c.split.ensures
    (nonempty_is _ c.if-is_empty.ensures)
    past inl c.in_err-after_sign.ensures))

pub returns-clause-reads : goal.returns-clause-reads
returns-clause-reads c = mapped_front (Row pair_row) (Text × Text) pair_of (row_of pair_row (c.blanks.ensures
    then c.past_comma.ensures.1 then run_text is_word_char c.split.ensures (nonempty_is _ c.if-is_empty.ensures)
    then c.in_ok-after_sign.ensures
    then c.any_value.ensures.reads then refl))
