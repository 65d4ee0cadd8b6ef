use Rattle.syslog_strict.proofs.Words.{[], ◌∷◌}
use Rattle.syslog_text.proofs.{PieceLemmas.Class.◌also◌, PieceLemmas.Rules.row_reads}
use Rattle.syslog_strict.proofs.GrammarLemmas.{date_time_det}
use Rattle.syslog_strict.specs.Grammar.{date_time}
use Rattle.syslog_strict.proofs.valid.timestamp.date_time.Goals as goal

pub returns : goal.returns
returns c = row_reads date_time date_time_det c.args.text
    (c.full_date.result ∷ c.and_then.result ∷ c.and_then-2.result ∷ c.and_then-3.result ∷ [])
    (c.full_date.ensures also c.and_then.ensures
    also c.and_then-2.ensures also c.and_then-3.ensures also tt)
