use Rattle.syslog_named_forms.proofs.Names.{[], ◌also◌, ◌∷◌, part_row, row_reads}
use Rattle.syslog_named_forms.proofs.PairLemmas.{part_det}
use Rattle.syslog_named_forms.proofs.pairs.part.Goals as goal

pub returns : goal.returns
returns c = row_reads part_row part_det c.args.text (c.colon.result ∷ c.and_then.result ∷ [])
    (c.colon.ensures also c.and_then.ensures also tt)
