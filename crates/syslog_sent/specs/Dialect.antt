-- The names and the numbers of the dialects: this project's own choice.
use Rattle.std.specs.Prelude.{ℕ, List, Option, chars, codes, option_map}
use Rattle.syslog_text.specs.Pieces.Class.{Text}
use Rattle.syslog_sent.specs.declared.dialect.Dialect.{Dialect}
use Rattle.syslog_sent.specs.declared.dialect.Dialect.TheVariants.{PriorityAlone, BsdDate, NearlyRfc3339, Journal}
use Rattle.syslog_sent.specs.declared.dialect.Dialect.TheVariants.{CiscoIos, CiscoNxOs, CiscoAsa, CiscoUndated}
use Rattle.syslog_sent.specs.declared.dialect.Dialect.TheVariants.{Container, CiscoIosXr, NetScaler, ProCurve}
use Rattle.syslog_sent.specs.declared.dialect.Dialect.TheVariants.{Repeated, Cef, Leef, PaloAlto, KeyValue, Json}
use Rattle.syslog_sent.specs.declared.dialect.Dialect.TheVariants.{Idrac, Log4j, Forwarded, SeverityFirst}
use Rattle.syslog_sent.specs.declared.dialect.Dialect.TheVariants.{SpacedName, NoHost, Heroku, Monotonic, NearlyRfc5424}
use Rattle.syslog_sent.specs.declared.dialect.Dialect.TheVariants.{Bracketed, MikroTik, SophosUtm, UnixSeconds}
use Rattle.syslog_sent.specs.declared.dialect.Dialect.TheVariants.{Esxi, WatchGuard, DatedMessage, UniFi, UnifiedLog}
use Rattle.syslog_sent.specs.declared.dialect.Dialect.TheVariants.{CheckPoint, Untagged}

-- the name of a dialect, in ASCII
abbrev pub dialect_name : Dialect → List ℕ
dialect_name PriorityAlone = codes "priority-alone"
dialect_name BsdDate = codes "bsd-date"
dialect_name NearlyRfc3339 = codes "nearly-rfc3339"
dialect_name Journal = codes "journalctl-full"
dialect_name CiscoIos = codes "cisco-ios"
dialect_name CiscoNxOs = codes "cisco-nx-os"
dialect_name CiscoAsa = codes "cisco-asa"
dialect_name CiscoUndated = codes "cisco-undated"
dialect_name Container = codes "container"
dialect_name CiscoIosXr = codes "cisco-ios-xr"
dialect_name Esxi = codes "esxi"
dialect_name NetScaler = codes "netscaler"
dialect_name ProCurve = codes "procurve"
dialect_name Repeated = codes "repeated"
dialect_name Cef = codes "cef"
dialect_name Leef = codes "leef"
dialect_name PaloAlto = codes "palo-alto"
dialect_name KeyValue = codes "key-value"
dialect_name Json = codes "json"
dialect_name Idrac = codes "idrac"
dialect_name Log4j = codes "log4j"
dialect_name MikroTik = codes "mikrotik"
dialect_name Bracketed = codes "bracketed"
dialect_name DatedMessage = codes "dated-message"
dialect_name UnixSeconds = codes "unix-seconds"
dialect_name SophosUtm = codes "sophos-utm"
dialect_name WatchGuard = codes "watchguard"
dialect_name UniFi = codes "unifi"
dialect_name Untagged = codes "untagged"
dialect_name Forwarded = codes "forwarded"
dialect_name SeverityFirst = codes "severity-first"
dialect_name SpacedName = codes "spaced-name"
dialect_name NoHost = codes "no-host"
dialect_name Heroku = codes "heroku"
dialect_name Monotonic = codes "journalctl-monotonic"
dialect_name NearlyRfc5424 = codes "nearly-rfc5424"
dialect_name UnifiedLog = codes "macos-log"
dialect_name CheckPoint = codes "check-point"

-- the name of the dialect, where there is one
abbrev pub dialect_text : Option Dialect → Option Text
dialect_text dialect = option_map (λ d. chars (dialect_name d)) dialect

-- its number, which stays the same from one version to the next
abbrev pub dialect_number : Dialect → ℕ
dialect_number PriorityAlone = 1
dialect_number BsdDate = 20
dialect_number NearlyRfc3339 = 21
dialect_number Journal = 22
dialect_number CiscoIos = 23
dialect_number CiscoNxOs = 24
dialect_number CiscoAsa = 25
dialect_number CiscoUndated = 26
dialect_number Container = 27
dialect_number CiscoIosXr = 28
dialect_number Esxi = 33
dialect_number NetScaler = 29
dialect_number ProCurve = 30
dialect_number Repeated = 40
dialect_number Cef = 41
dialect_number Leef = 42
dialect_number PaloAlto = 43
dialect_number KeyValue = 44
dialect_number Json = 45
dialect_number Idrac = 46
dialect_number Log4j = 47
dialect_number MikroTik = 53
dialect_number Bracketed = 54
dialect_number DatedMessage = 56
dialect_number UnixSeconds = 32
dialect_number SophosUtm = 31
dialect_number WatchGuard = 55
dialect_number UniFi = 57
dialect_number Untagged = 58
dialect_number Forwarded = 48
dialect_number SeverityFirst = 49
dialect_number SpacedName = 50
dialect_number NoHost = 51
dialect_number Heroku = 52
dialect_number Monotonic = 59
dialect_number NearlyRfc5424 = 60
dialect_number UnifiedLog = 61
dialect_number CheckPoint = 62
