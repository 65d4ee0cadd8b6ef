use Rattle.syslog_named_forms.proofs.Names.{[], ◌also◌, ◌∷◌, always_on, is_blank, leef_row, row_reads, run}
use Rattle.syslog_named_forms.proofs.RowLemmas.{leef_det}
use Rattle.syslog_named_forms.proofs.untagged.leef.Goals as goal

pub returns : goal.returns
returns c = row_reads leef_row leef_det c.args.text
    (c.leef_word.result ∷ c.map.result ∷ c.and_then.result ∷ c.and_then-2.result ∷ c.and_then-3.result
    ∷ c.and_then-4.result ∷ [])
    (c.leef_word.ensures also always_on (run is_blank) c.leef_word.result c.map.result c.map.ensures.cases also
    c.and_then.ensures also c.and_then-2.ensures also c.and_then-3.ensures also c.and_then-4.ensures also tt)
