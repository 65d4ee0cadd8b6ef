use Rattle.std.proofs.Common.{inl, refl}
use Rattle.std.specs.Str.{chars}
use Rattle.syslog_dialects.proofs.SentReadingLemmas.{left_unread}
use Rattle.syslog_strict_sent.proofs.convert.convert_unread.Goals as goal

pub returns-else-may_be_sent : goal.returns-else-may_be_sent
returns-else-may_be_sent c dating none = (
  c.requires,
  (
    λ e. inl (
      none,
      λ asked. left_unread c.args.dates.now dating c.args.dialects c.args.variant (chars c.args.input.now) none
          (λ may. absurd (cc (c.may_be_sent.ensures.1 may, c.if-may_be_sent.false))) asked,
    ),
    λ unsent. refl,
  ),
)
