-- How clauses see the structs of `tail`.
use Rattle.syslog_text.specs.Pieces.View.{seen, shown}
use Rattle.syslog_dated_forms.specs.Tail.{TailValue}
use Rattle.syslog_dated_forms.specs.declared.tail.Tail.{Tail}

abbrev pub tail_value : Tail → TailValue
tail_value t =
    record { hostname = seen t.hostname; appname = seen t.appname; process = seen t.process; msg = shown t.msg }
