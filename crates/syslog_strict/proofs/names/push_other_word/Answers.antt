use Rattle.syslog_strict.proofs.Words.{chars, sym}
use Rattle.syslog_strict.proofs.NameLemmas.{word_colon, word_prints}
use Rattle.syslog_strict.proofs.TextLemmas.{appended}
use Rattle.syslog_strict.proofs.names.push_other_word.Goals as goal

pub returns-then-is_colon : goal.returns-then-is_colon
returns-then-is_colon c = appended c.push_char-then-is_colon.result _ _ _ _
    (sym (word_colon c.args.most (chars c.args.word.now) c.requires c.if-is_colon.ensures))
    c.push_char-then-is_colon.ensures

pub returns : goal.returns
returns c = appended c.push_each.result _ _ _ _ (sym (word_prints c.args.most (chars c.args.word.now) c.requires
    c.if-is_no_text.ensures c.if-is_colon.ensures)) c.push_each.ensures
