use Rattle.syslog_dialects.proofs.Names.{[], ◌also◌, ◌∷◌, names_row}
use Rattle.syslog_text.proofs.PieceLemmas.Rules.{row_reads}
use Rattle.syslog_dialects.proofs.PairedLemmas.{names_det}
use Rattle.syslog_dialects.proofs.paired.past_names.Goals as goal

pub returns : goal.returns
returns c = row_reads names_row names_det c.args.text
    (c.gap.result ∷ c.and_then.result ∷ c.and_then-2.result ∷ c.and_then-3.result ∷ c.and_then-4.result
    ∷ c.and_then-5.result ∷ c.and_then-6.result ∷ c.and_then-7.result ∷ c.and_then-8.result ∷ [])
    (c.gap.ensures also c.and_then.ensures also c.and_then-2.ensures also c.and_then-3.ensures
    also c.and_then-4.ensures also c.and_then-5.ensures also c.and_then-6.ensures also c.and_then-7.ensures
    also c.and_then-8.ensures also tt)
