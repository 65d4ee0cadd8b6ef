use Rattle.syslog_pieces.proofs.Names.{refl}
use Rattle.syslog_pieces.specs.Timestamp.Printed.{printed_stamp}
use Rattle.syslog_pieces.proofs.TimestampLemmas.Civil.{shows_fields}
use Rattle.syslog_pieces.proofs.front.Ascii.push_timestamp.Goals as goal

pub returns-in-Some-clause-text : goal.returns-in-Some-clause-text
unfolding printed_stamp
returns-in-Some-clause-text c =
    let clock = c.in-Some.stamp in
    rw (c.in-Some.is) (rw (shows_fields clock.fields _ clock.offset.seconds clock.civil refl)
    c.push_fields.ensures.text)
