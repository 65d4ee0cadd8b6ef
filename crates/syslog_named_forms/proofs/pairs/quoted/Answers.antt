use Rattle.syslog_named_forms.proofs.Names.{◌past◌, ◌then◌, inl, is_unquoted, mapped_front, quoted_of, quoted_row, refl}
use Rattle.syslog_named_forms.proofs.Names.{Row, row_of, Text, unread}
use Rattle.syslog_named_forms.proofs.PairLemmas.{quoted_det, run_texted}
use Rattle.syslog_named_forms.proofs.pairs.quoted.Goals as goal

pub returns-in_err-after_quote-clause-reads : goal.returns-in_err-after_quote-clause-reads
returns-in_err-after_quote-clause-reads c = rw c.from_residual.ensures
    (unread quoted_row quoted_det Text quoted_of (inl c.in_err-after_quote.ensures.reads))

pub returns-in_err-rest-clause-reads : goal.returns-in_err-rest-clause-reads
returns-in_err-rest-clause-reads c = rw c.from_residual-in_err-rest.ensures
    (unread quoted_row quoted_det Text quoted_of (c.in_ok-after_quote.ensures.reads.1 past run_texted is_unquoted
    c.split.ensures past inl c.in_err-rest.ensures.reads))

pub returns-clause-reads : goal.returns-clause-reads
returns-clause-reads c = mapped_front (Row quoted_row) Text quoted_of
    (row_of quoted_row (c.in_ok-after_quote.ensures.reads.1 then run_texted is_unquoted c.split.ensures then
    c.in_ok-rest.ensures.reads.1 then refl))
