use Rattle.syslog_named_forms.proofs.Names.{[], ◌also◌, ◌∷◌, next_row, row_reads}
use Rattle.syslog_named_forms.proofs.PairLemmas.{next_det}
use Rattle.syslog_named_forms.proofs.pairs.next.Goals as goal

pub returns : goal.returns
returns c = row_reads next_row next_det c.args.text (c.comma.result ∷ c.and_then.result ∷ c.and_then-2.result ∷ [])
    (c.comma.ensures also c.and_then.ensures also c.and_then-2.ensures also tt)
