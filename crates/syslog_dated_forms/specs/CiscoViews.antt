-- How clauses see the structs of Cisco's lines.
use Rattle.syslog_text.specs.Pieces.Class.{Text, Values}
use Rattle.syslog_text.specs.Pieces.View.{seen, shown}
use Rattle.syslog_dated_forms.specs.Cisco.{cisco_row, message_row}
use Rattle.syslog_dated_forms.specs.declared.cisco.Cisco.{Cisco}

abbrev pub message_values : Text → Text → Values message_row
message_values tag msg = (tag, (tt, (tt, (tt, (msg, tt)))))

abbrev pub cisco_values : Cisco → Values cisco_row
cisco_values c = (
  seen c.first_host,
  ((c.year, (c.date, tt)), (seen c.second_host, (message_values (shown c.tag) (shown c.msg), tt))),
)
