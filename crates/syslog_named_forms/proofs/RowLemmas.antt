-- A text has one front of each class, and so one division into each row, as `search of_forms` finds it.
use Rattle.syslog_named_forms.proofs.Names.{◌otherwise◌, access_row, addressed_row, AllDeterministic}
use Rattle.syslog_named_forms.proofs.Names.{box, box_of, box_row, cef_row}
use Rattle.syslog_named_forms.proofs.Names.{compact_row, enclosed_row, event_row, forwarded_row}
use Rattle.syslog_named_forms.proofs.Names.{graded_row, hardware_row, host_row, hostless_row, of_forms}
use Rattle.syslog_named_forms.proofs.Names.{IsDeterministic, leef_row, leveled_row, log_row}
use Rattle.syslog_named_forms.proofs.Names.{mapped_det, monotonic_row, NamedTexts, numbered_row, object_row}
use Rattle.syslog_named_forms.proofs.Names.{otherwise_det, padded_row, passed_on}
use Rattle.syslog_named_forms.proofs.Names.{Row, row_det, seconds_row, serial}
use Rattle.syslog_named_forms.proofs.Names.{serial_of, serial_row, severity_row, sourced_row, spread_row}
use Rattle.syslog_named_forms.proofs.Names.{threaded_row, titled_row, untagged_row, worded_row}
use Rattle.syslog_named_forms.proofs.Names.{words, words_row}
use Rattle.syslog_named_forms.specs.Unified.{entry_name}

pub serial_det : AllDeterministic serial_row
serial_det = search of_forms depth 32

pub box_det : AllDeterministic box_row
box_det = search of_forms depth 32

pub either_box_det : IsDeterministic (serial otherwise box)
either_box_det = otherwise_det (mapped_det (Row serial_row) NamedTexts serial_of (row_det serial_row serial_det))
    (mapped_det (Row box_row) NamedTexts box_of (row_det box_row box_det))

pub hostless_det : AllDeterministic hostless_row
hostless_det = search of_forms depth 32

pub severity_det : AllDeterministic severity_row
severity_det = search of_forms depth 32

pub enclosed_det : AllDeterministic enclosed_row
enclosed_det = search of_forms depth 32

pub words_row_det : AllDeterministic words_row
words_row_det = search of_forms depth 32

words_det : IsDeterministic words
words_det = search (words_row_det, of_forms) depth 9

pub worded_det : AllDeterministic worded_row
worded_det = search (words_det, of_forms) depth 32

entry_name_det : IsDeterministic entry_name
entry_name_det = search (words_det, of_forms) depth 9

pub access_det : AllDeterministic access_row
access_det = search of_forms depth 32

pub log_det : AllDeterministic log_row
log_det = search (entry_name_det, of_forms) depth 32

pub untagged_det : AllDeterministic untagged_row
untagged_det = search of_forms depth 32

pub spread_det : AllDeterministic spread_row
spread_det = search of_forms depth 32

pub forwarded_det : AllDeterministic forwarded_row
forwarded_det = search of_forms depth 32

pub passed_on_det : IsDeterministic passed_on
passed_on_det = search of_forms depth 32

pub addressed_det : AllDeterministic addressed_row
addressed_det = search of_forms depth 32

pub titled_det : AllDeterministic titled_row
titled_det = search of_forms depth 32

pub compact_det : AllDeterministic compact_row
compact_det = search (entry_name_det, of_forms) depth 32

pub graded_det : AllDeterministic graded_row
graded_det = search of_forms depth 32

pub leveled_det : AllDeterministic leveled_row
leveled_det = search of_forms depth 32

pub event_det : AllDeterministic event_row
event_det = search of_forms depth 32

hardware_det : AllDeterministic hardware_row
hardware_det = search of_forms depth 32

pub sourced_det : AllDeterministic sourced_row
sourced_det = search (hardware_det, of_forms) depth 32

pub threaded_det : AllDeterministic threaded_row
threaded_det = search of_forms depth 32

pub padded_det : AllDeterministic padded_row
padded_det = search of_forms depth 32

pub numbered_det : AllDeterministic numbered_row
numbered_det = search of_forms depth 32

pub seconds_det : AllDeterministic seconds_row
seconds_det = search of_forms depth 32

pub monotonic_det : AllDeterministic monotonic_row
monotonic_det = search of_forms depth 32

pub cef_det : AllDeterministic cef_row
cef_det = search of_forms depth 32

pub leef_det : AllDeterministic leef_row
leef_det = search of_forms depth 32

pub object_det : AllDeterministic object_row
object_det = search of_forms depth 32

pub host_row_det : AllDeterministic host_row
host_row_det = search of_forms depth 32
