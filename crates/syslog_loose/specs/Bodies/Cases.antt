-- The bound of a protocol's version, the dates that the closure for years is asked of, and what a priority prints as.
use Rattle.std.specs.Prelude.{◌+◌, ◌*◌, ◌<◌, ◌≤◌, ◌^◌}
use Rattle.syslog_loose.specs.Words.{⊤, ℕ, Option, option_and_then, option_map_or, facility_of, severity_of}
use Rattle.syslog_loose.specs.Words.{facility_number, severity_number, MonthDate}
use Rattle.syslog_loose.specs.{Reading.IncompleteDate, declared.message.Protocol.Protocol}
use Rattle.syslog_loose.specs.declared.message.Protocol.TheVariants.{RFC3164, RFC5424}

-- a version has 32 bits
abbrev pub IsBoundedProtocol : Protocol → Type 0
IsBoundedProtocol p = elim p as (λ _. Type 0) [ RFC3164 ↦ ⊤ | RFC5424 version ↦ version < 2 ^ 32 ]

-- the date as the closure that gives years takes it
abbrev pub incomplete : MonthDate → IncompleteDate
incomplete date = (date.month, date.day, date.hour, date.minute, date.second)

-- the month is one of twelve, and the numbers have 32 bits
abbrev pub HasMonth : IncompleteDate → Type 0
HasMonth d = (1 ≤ d.0) × (d.0 ≤ 12) × (d.1 < 2 ^ 32) × (d.2 < 2 ^ 32) × (d.3 < 2 ^ 32) × (d.4 < 2 ^ 32)

-- the priority that is printed for the priority of a line, which may be absent
abbrev pub printed_number : Option ℕ → ℕ
printed_number pri = option_map_or facility_number (option_and_then facility_of pri) 5 * 8
    + option_map_or severity_number (option_and_then severity_of pri) 7
