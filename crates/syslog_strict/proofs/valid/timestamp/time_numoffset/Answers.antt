use Rattle.syslog_strict.proofs.Words.{[], ◌∷◌}
use Rattle.syslog_text.proofs.{PieceLemmas.Class.◌also◌, PieceLemmas.Rules.row_reads}
use Rattle.syslog_strict.proofs.GrammarLemmas.{numoffset_det}
use Rattle.syslog_strict.specs.Grammar.{time_numoffset}
use Rattle.syslog_strict.proofs.valid.timestamp.time_numoffset.Goals as goal

pub returns : goal.returns
returns c = row_reads time_numoffset numoffset_det c.args.text
    (c.sign.result ∷ c.and_then.result ∷ c.and_then-2.result ∷ [])
    (c.sign.ensures also c.and_then.ensures also c.and_then-2.ensures also tt)
