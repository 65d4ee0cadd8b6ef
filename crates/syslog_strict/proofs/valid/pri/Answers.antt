use Rattle.syslog_strict.proofs.Words.{[], ◌∷◌}
use Rattle.syslog_text.proofs.{PieceLemmas.Class.◌also◌, PieceLemmas.Rules.row_reads}
use Rattle.syslog_strict.proofs.GrammarLemmas.{pri_det}
use Rattle.syslog_strict.specs.Grammar.{pri}
use Rattle.syslog_strict.proofs.valid.pri.Goals as goal

pub returns : goal.returns
returns c = row_reads pri pri_det c.args.text (c.less_than.result ∷ c.and_then.result ∷ c.and_then-2.result ∷ [])
    (c.less_than.ensures also c.and_then.ensures also c.and_then-2.ensures also tt)
