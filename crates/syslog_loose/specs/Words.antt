-- The words of std, jiff and the crates below that the clauses and definitions of this crate cite, passed on from one
-- place. Declares nothing.
pub use Rattle.std.specs.{Borrow.Bor, Fmt.WritesOnOk, Global.Global, declared.alloc.AllocError.AllocError}
pub use Rattle.std.specs.Cmp.Lexicographic.{pointwise, nat_list_eq_equiv, options_equiv, lists_equiv}
pub use Rattle.std.specs.List.{AllByRecursion, list_any, suffix_len}
pub use Rattle.std.specs.{Option.option_map_or, Option.option_eq, Ordering.int_eq, Ordering.on}
pub use Rattle.std.specs.Prelude.{IsTrue, MatchBool, IsOkAnd, chars, ℕ, [], IfSome, MatchOption, None, OnOk, Some}
pub use Rattle.std.specs.Prelude.{length, string_bytes, encode_utf8_all, Option, IsSome, suc, map, option_map}
pub use Rattle.std.specs.Prelude.{MatchResult, List, IfOk, IsUtf8, bytes_eq, ⊤, option_and_then, zero, not, nat_eq}
pub use Rattle.std.specs.Prelude.{Bool, flat_map, Result, Ok, Err, String, ℤ}
pub use Rattle.jiff.specs.Words.{plain_zone, IsOffsetSeconds, IsYear}
pub use Rattle.syslog_text.specs.Pieces.Class.{Text, Division, NoFront, Values, some_run, exactly, optional, NoDivision}
pub use Rattle.syslog_text.specs.Pieces.Class.{Row, Each, Ends, Class, Front, run, rest, spaced, join, after, texted}
pub use Rattle.syslog_text.specs.{Pieces.Parts.AreInPieces, Pieces.Parts.text_list, Text.is_tag_char, Text.field_seen}
pub use Rattle.syslog_text.specs.Pieces.View.{shown, text_of, seen, text_eq, ClonesKeepText}
pub use Rattle.syslog_pieces.specs.Pri.{facility_number, severity_number, facility_eq, severity_eq, facility_of}
pub use Rattle.syslog_pieces.specs.{Pri.severity_of, Pri.priority, Timestamp.Canonical.IsCanonicalStamp}
pub use Rattle.syslog_pieces.specs.ProcId.{procid_value, process_word, named_process, process_text, NamesProcess}
pub use Rattle.syslog_pieces.specs.{ProcId.process_texts, ProcId.Equal.procid_eq, declared.procid.ProcId.ProcId}
pub use Rattle.syslog_elements.specs.StructuredData.{forgiving, Equal.element_eq}
pub use Rattle.syslog_elements.specs.StructuredData.Element.{element_value, ElementValue, element_texts, element_text}
pub use Rattle.syslog_elements.specs.StructuredData.Rfc3164List.{BeginsNoList, rfc3164_list}
pub use Rattle.syslog_elements.specs.StructuredData.Visited.{list_elements, list_text, Visits, elements_left}
pub use Rattle.syslog_text.specs.Text.{EndsInColon, dash, is_blank, trimmed, number, colon, host, word, tag_word}
pub use Rattle.syslog_text.specs.Text.CharClass.{is_label_char, is_open_char}
pub use Rattle.syslog_pieces.specs.Timestamp.{header_stamp, stamp_seen, MonthDate.yearless_date, MonthDate.month_date}
pub use Rattle.syslog_pieces.specs.Timestamp.Rfc3164.{ShowsMonthDate, rfc3164_stamp, ShowsOf, ShowsYearless}
pub use Rattle.syslog_pieces.specs.Timestamp.Zone.{dating_of, Dating, IsMonthStamp}
pub use Rattle.syslog_pieces.specs.declared.procid.ProcId.TheVariants.{Name, PID}
pub use Rattle.syslog_elements.specs.declared.structured_data.rfc3164_list.DashRule.{DashRule, TheVariants.BeforeBlank}
pub use Rattle.syslog_pieces.specs.declared.timestamp.{OffsetTimestamp.OffsetTimestamp, month_date.MonthDate.MonthDate}
pub use Rattle.jiff.specs.Types.{UTC, Offset, TimeZone}
