use Rattle.syslog_c.proofs.Words.{refl}
use Rattle.std.specs.Str.{chars}
use Rattle.syslog_c.proofs.SentLemmas.{unread_meant}
use Rattle.syslog_c.proofs.sent.take_unread.Goals as goal

pub returns-in_default : goal.returns-in_default
returns-in_default c dating none = (c.in_default.ensures.reads dating none, refl)

pub returns : goal.returns
returns c dating none =
    unread_meant c.args.rules.now dating (chars c.args.text.now) c.in-Some.sent c.fields_sent.result none
    (c.in-Some.ensures.reads dating none) (c.in-Some.ensures.shown dating none)
    c.in-Some.ensures.leaves
    (c.fields_sent.ensures c.args.rules.now dating (chars c.args.text.now))
