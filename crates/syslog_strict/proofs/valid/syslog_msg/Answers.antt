use Rattle.syslog_strict.proofs.Words.{[], ◌∷◌, ◌++◌, rules}
use Rattle.syslog_text.proofs.PieceLemmas.{Class.◌also◌, Rules.always_on, Rules.row_reads}
use Rattle.syslog_text.specs.Pieces.Class.{optional, rest, spaced}
use Rattle.syslog_strict.{proofs.GrammarLemmas.msg_det, specs.Grammar.header, specs.Grammar.body}
use Rattle.syslog_strict.proofs.valid.syslog_msg.Goals as goal

pub returns : goal.returns
returns c = row_reads (header ++ body) msg_det c.args.text
    (c.pri.result ∷ c.and_then.result ∷ c.and_then-2.result ∷ c.and_then-3.result ∷ c.and_then-4.result
    ∷ c.and_then-5.result ∷ c.and_then-6.result ∷ c.and_then-7.result ∷ c.and_then-8.result ∷ c.and_then-9.result
    ∷ c.and_then-10.result ∷ c.and_then-11.result ∷ c.and_then-12.result ∷ c.and_then-13.result ∷ c.map.result ∷ [])
    (c.pri.ensures also c.and_then.ensures also c.and_then-2.ensures also c.and_then-3.ensures also c.and_then-4.ensures
    also c.and_then-5.ensures also c.and_then-6.ensures also c.and_then-7.ensures also c.and_then-8.ensures
    also c.and_then-9.ensures also c.and_then-10.ensures also c.and_then-11.ensures also c.and_then-12.ensures
    also (search rules)
    also always_on (optional (spaced rest)) c.and_then-13.result c.map.result c.map.ensures.cases also tt)
