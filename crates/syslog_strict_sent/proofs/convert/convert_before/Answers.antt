use Rattle.std.specs.Str.{chars}
use Rattle.syslog_text.proofs.PieceLemmas.Class.{match_map}
use Rattle.syslog_dialects.proofs.SentReadingLemmas.{kept_reading, left_read}
use Rattle.syslog_strict_sent.proofs.convert.convert_before.Goals as goal

pub returns-then-is_ordinary : goal.returns-then-is_ordinary
returns-then-is_ordinary c dating of =
    kept_reading c.args.dates.now dating c.args.dialects c.args.variant (chars c.args.input.now) c.args.line.now of
    c.if-is_ordinary.ensures

pub returns : goal.returns
returns c dating of =
    match_map c.convert_instead.result
    (λ none. (
      of.only,
      λ asked. left_read c.args.dates.now dating c.args.dialects c.args.variant (chars c.args.input.now)
          c.args.line.now of (λ odd. none asked) asked,
    ))
    (λ r converts. converts dating c.args.line.now of c.if-is_ordinary.ensures) c.convert_instead.ensures
