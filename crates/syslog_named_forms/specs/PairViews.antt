-- How clauses see what the readers of pairs return.
use Rattle.syslog_text.specs.Pieces.Class.{Text, Values}
use Rattle.syslog_text.specs.Pieces.View.{seen, shown}
use Rattle.syslog_named_forms.specs.Pairs.{Noted, clock_row, day_row}
use Rattle.syslog_named_forms.specs.declared.pairs.Clock.{Clock}
use Rattle.syslog_named_forms.specs.declared.pairs.Day.{Day}
use Rattle.syslog_named_forms.specs.declared.pairs.Notes.{Notes}
use Rattle.syslog_named_forms.specs.declared.pairs.Pair.{Pair}

abbrev pub pair_value : Pair → Text × Text
pair_value p = (shown p.key, shown p.value)

abbrev pub notes_value : Notes → Noted
notes_value n =
    record {
      date = seen n.date;
      time = seen n.time;
      stamp = seen n.stamp;
      zone = seen n.zone;
      hostname = seen n.hostname;
    }

abbrev pub day_values : Day → Values day_row
day_values d = (d.year, (d.month, (d.day, tt)))

abbrev pub clock_values : Clock → Values clock_row
clock_values c = (c.hour, (c.minute, (c.second, (c.nanosecond, tt))))
