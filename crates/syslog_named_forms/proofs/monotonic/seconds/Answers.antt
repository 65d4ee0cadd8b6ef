use Rattle.syslog_named_forms.proofs.Names.{[], ◌also◌, ◌∷◌, always_on, is_blank, row_reads, run, seconds_row}
use Rattle.syslog_named_forms.proofs.RowLemmas.{seconds_det}
use Rattle.syslog_named_forms.proofs.monotonic.seconds.Goals as goal

pub returns : goal.returns
returns c = row_reads seconds_row seconds_det c.args.text
    (c.bracket.result ∷ c.map.result ∷ c.and_then.result ∷ c.and_then-2.result ∷ c.and_then-3.result
    ∷ c.and_then-4.result ∷ [])
    (c.bracket.ensures also always_on (run is_blank) c.bracket.result c.map.result c.map.ensures.cases
    also c.and_then.ensures also c.and_then-2.ensures also c.and_then-3.ensures also c.and_then-4.ensures also tt)
