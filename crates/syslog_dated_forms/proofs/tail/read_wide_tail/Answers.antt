use Rattle.syslog_dated_forms.proofs.Names.{◌then◌, mapped_front, refl, Row, row_of, spare, TailValue, Values, wide_row}
use Rattle.syslog_dated_forms.proofs.ReaderLemmas.{skipped}
use Rattle.syslog_dated_forms.proofs.tail.read_wide_tail.Goals as goal

pub returns : goal.returns
returns c = mapped_front (Row wide_row) TailValue (λ (v : Values wide_row). v.1.0) (row_of wide_row ((skipped spare _ _
    c.past_any.ensures).1 then c.read_tail.ensures then refl))
