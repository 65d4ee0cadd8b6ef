use Rattle.syslog_c.proofs.Words.{length, Text, TakesText}
use Rattle.std.specs.Str.{chars}
use Rattle.syslog_pieces.{proofs.Names.shadow, proofs.Names.Utf8}
use Rattle.syslog_elements.{specs.StructuredData.Escapes.MeansFirst}
use Rattle.syslog_c.proofs.unescape.push_unescaped.Given as goal

-- what was put up to here
abbrev pub invariant-texts : goal.invariant-texts
invariant-texts l = shadow (Utf8 l.rest) × ((put : Text) × TakesText l.fn.buffer put l.buffer
    × MeansFirst (chars l.value) put (chars l.rest))

abbrev pub decreases-texts : goal.decreases-texts
decreases-texts l = length (chars l.rest)
