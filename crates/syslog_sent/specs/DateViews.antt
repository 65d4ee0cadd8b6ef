-- How clauses see the structs of the readers.
use Rattle.syslog_text.specs.Pieces.Class.{Values}
use Rattle.syslog_sent.specs.Date.{bsd_row, iso_row}
use Rattle.syslog_sent.specs.declared.date.BsdDate.{BsdDate}
use Rattle.syslog_sent.specs.declared.date.IsoDate.{IsoDate}

abbrev pub bsd_values : BsdDate → Values bsd_row
bsd_values d = (d.date, (d.nanosecond, (d.zone, (d.year, tt))))

abbrev pub iso_values : IsoDate → Values iso_row
iso_values d =
    (d.year, (d.month, (d.day, (tt, (d.hour, (d.minute, (d.second, (d.nanosecond, (d.zone, tt)))))))))
