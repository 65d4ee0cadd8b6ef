-- How clauses see what the readers of such a header return.
use Rattle.syslog_text.specs.Pieces.Class.{Values}
use Rattle.syslog_text.specs.Pieces.View.{seen}
use Rattle.syslog_named_forms.specs.NearHeader.{head_row, ids_row, source_row}
use Rattle.syslog_named_forms.specs.declared.near_header.Names.{Names}
use Rattle.syslog_named_forms.specs.declared.near_header.Start.{Start}

abbrev pub head_values : Start → Values head_row
head_values h = (h.version, (tt, (h.date, (tt, (seen h.hostname, (tt, tt))))))

abbrev pub source_values : Names → Values source_row
source_values n = (seen n.appname, (tt, (seen n.process, (tt, tt))))

abbrev pub ids_values : Names → Values ids_row
ids_values n = (seen n.appname, (tt, (seen n.process, (tt, (seen n.msgid, (tt, tt))))))
