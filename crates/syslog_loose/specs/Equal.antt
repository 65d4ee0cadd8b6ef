-- When two messages are equal: all their fields but the protocol are. Timestamps are compared by instant, whatever the
-- offsets; elements in order, each with its parameters in any order (the rule of the Rust crate, but for those).
use Rattle.std.specs.Prelude.{◌&&◌}
use Rattle.syslog_loose.specs.Words.{Bool, pointwise, option_eq, text_eq, facility_eq, severity_eq, procid_eq}
use Rattle.syslog_loose.specs.{Message.MessageValue, Words.element_eq, Words.OffsetTimestamp, Words.int_eq}

-- whether two timestamps are one instant
abbrev pub stamp_eq : OffsetTimestamp → OffsetTimestamp → Bool
stamp_eq a b = int_eq a.instant.nanosecond b.instant.nanosecond

-- whether all fields but the protocol are equal
abbrev pub message_eq : MessageValue → MessageValue → Bool
message_eq a b =
    option_eq facility_eq a.facility b.facility
    && (option_eq severity_eq a.severity b.severity
    && (option_eq stamp_eq a.timestamp b.timestamp
    && (option_eq text_eq a.hostname b.hostname
    && (option_eq text_eq a.appname b.appname
    && (option_eq procid_eq a.procid b.procid
    && (option_eq text_eq a.msgid b.msgid
    && (pointwise element_eq a.structured_data b.structured_data
    && text_eq a.msg b.msg)))))))
