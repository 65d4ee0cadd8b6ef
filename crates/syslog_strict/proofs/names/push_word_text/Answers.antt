use Rattle.syslog_strict.proofs.Words.{arith, chars, refl, sym}
use Rattle.syslog_strict.proofs.{NameLemmas.word_stays, TextLemmas.appended}
use Rattle.syslog_strict.proofs.names.push_word_text.Goals as goal

pub returns-then-not-is_colon : goal.returns-then-not-is_colon
returns-then-not-is_colon c = appended c.push_text.result _ _ _ _
    (sym (word_stays c.args.most (omega arith) (chars c.args.word.now) (c.if-is_kept.ensures refl)
    c.if-not-is_colon.ensures))
    c.push_text.ensures
