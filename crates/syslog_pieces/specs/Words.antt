-- The words of std, jiff, syslog_text and this crate that several clauses cite, passed on from one place.
-- Declares nothing.
pub use Rattle.jiff.specs.Words.{IsCivilNanos, IsOffsetSeconds, IsTimestampNanos, ambiguous_at, nanos_of_seconds}
pub use Rattle.jiff.specs.Words.{plain_zone}
pub use Rattle.std.specs.Char.{IsAsciiDigit, is_ascii_digit, is_not_whitespace}
pub use Rattle.std.specs.Fmt.{WritesOnOk}
pub use Rattle.std.specs.Int.{IsInRange, int_div_euclid, int_rem_euclid, w16}
pub use Rattle.std.specs.List.{prefix_len}
pub use Rattle.std.specs.Ordering.{as_partial_cmp, int_cmp, int_eq, nat_cmp, on}
pub use Rattle.syslog_text.specs.Pieces.View.{ClonesKeepText, Reads, ReadsBytes, shown, text_of}
pub use Rattle.syslog_text.specs.Pieces.Class.{Each, Ends, Front, NoFront, Row, Text, after, optional}
pub use Rattle.syslog_pieces.specs.Timestamp.{IsAnswer, IsStampOfRfc3339, IsStampText, clock_value, stamp_seen}
pub use Rattle.syslog_pieces.specs.Timestamp.Canonical.{BeginsWithYear, IsCanonicalStamp}
pub use Rattle.syslog_pieces.specs.Timestamp.Fields.{AreCivil, IsStampAt, fields_of, nanos_of_fields}
pub use Rattle.syslog_pieces.specs.Timestamp.Printed.{civil_fields, printed_stamp}
pub use Rattle.syslog_text.specs.Text.Digits.{pad3}
pub use Rattle.syslog_pieces.specs.declared.procid.ProcId.{ProcId}
pub use Rattle.syslog_pieces.specs.declared.timestamp.month_date.MonthDate.{MonthDate}
