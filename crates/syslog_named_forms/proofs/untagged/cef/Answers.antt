use Rattle.syslog_named_forms.proofs.Names.{[], ◌also◌, ◌∷◌, always_on, cef_row, is_blank, row_reads, run}
use Rattle.syslog_named_forms.proofs.RowLemmas.{cef_det}
use Rattle.syslog_named_forms.proofs.untagged.cef.Goals as goal

pub returns : goal.returns
returns c = row_reads cef_row cef_det c.args.text
    (c.cef_word.result ∷ c.map.result ∷ c.and_then.result ∷ c.and_then-2.result ∷ [])
    (c.cef_word.ensures also always_on (run is_blank) c.cef_word.result c.map.result c.map.ensures.cases also
    c.and_then.ensures also c.and_then-2.ensures also tt)
