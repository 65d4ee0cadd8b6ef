use Rattle.syslog_strict.proofs.Words.{[], ◌∷◌}
use Rattle.syslog_text.proofs.{PieceLemmas.Class.◌also◌, PieceLemmas.Rules.always_on, PieceLemmas.Rules.row_reads}
use Rattle.syslog_text.specs.Pieces.Class.{optional}
use Rattle.syslog_strict.proofs.GrammarLemmas.{time_det}
use Rattle.syslog_strict.specs.Grammar.{partial_time, time_secfrac}
use Rattle.syslog_strict.proofs.valid.timestamp.partial_time.Goals as goal

pub returns : goal.returns
returns c = row_reads partial_time time_det c.args.text
    (c.time_hour.result ∷ c.and_then.result ∷ c.and_then-2.result ∷ c.map.result ∷ [])
    (c.time_hour.ensures also c.and_then.ensures also c.and_then-2.ensures
    also always_on (optional time_secfrac) c.and_then-2.result c.map.result c.map.ensures.cases also tt)
