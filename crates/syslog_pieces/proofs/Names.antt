-- The names that most proofs about process ids and timestamps cite, passed on from one place.
-- Declares nothing.
pub use Rattle.std.proofs.Common.{if◌then◌else◌, append_assoc, unsigned_abs, length-take, [], MatchOption, get_or-take}
pub use Rattle.std.proofs.Common.{append-nil, FitsSigned, unwrap_or, Option, nat_eq, length, get_or, Result, IfSome}
pub use Rattle.std.proofs.Common.{nat_lt, negsuc, int_lt, subst, false, arith, rules, neg_ℤ, ◌<ℤ◌, ◌≤ℤ◌, ◌*ℤ◌, List}
pub use Rattle.std.proofs.Common.{◌++◌, Some, None, refl, Bool, true, take, zero, ◌&&◌, ℕ, drop, ◌+ℤ◌, ◌-ℤ◌, ◌≡◌, inl}
pub use Rattle.std.proofs.Common.{inr, ◌∷◌, sym, ◌≢◌, not, ◌⊎◌, ◌∙◌, map, ◌+◌, ◌-◌, ℤ, ◌≤◌, ◌<◌, suc, Err, pos, w32}
pub use Rattle.std.proofs.Common.{◌%◌, ◌^◌, min, w64, ◌*◌, ◌/◌, ap, Ok}
pub use Rattle.std.proofs.lemmas.Bool.{and_parts, and_from, agree_below, agree_below_at, cases_Bool, cases_eq, cases_lt}
pub use Rattle.std.proofs.lemmas.Bool.{eqb-true, lt-ltb, ltb-true, ne_eqb, not-false, not-true}
pub use Rattle.std.proofs.lemmas.Bool.Decides.{eqb_tells, nat_tests}
pub use Rattle.std.proofs.lemmas.Fmt.{decimal-digits_value, decimal_digit}
pub use Rattle.std.proofs.lemmas.List.{length-append, take-append-drop, at_drop_all}
pub use Rattle.std.proofs.lemmas.Str.{IsUtf8-from_ascii, length-le-encodes, encodes-IsAscii, chars-append}
pub use Rattle.std.proofs.lemmas.Str.{encodes-chars, chars-IsAscii, chars-nil}
pub use Rattle.std.proofs.lemmas.Str.Ascii.{IsAscii-cons, IsAscii-nil, lowercase_is, IsAscii-from_reads}
pub use Rattle.std.specs.Bool.{one_answer}
pub use Rattle.std.specs.Borrow.{Bor}
pub use Rattle.std.specs.Char.{is_ascii_digit, is_not_whitespace, IsAsciiDigit}
pub use Rattle.std.specs.Fmt.{decimal, signed_decimal}
pub use Rattle.std.specs.List.{list_all, prefix_len}
pub use Rattle.std.specs.Prelude.{◌↔◌, IsTrue, slice_get, ⊤}
pub use Rattle.std.specs.Result.{result_ok}
pub use Rattle.std.specs.Str.{chars, IsUtf8, encode_utf8_all, IsAscii, IsCharBoundary}
pub use Rattle.std.specs.Str.Parse.{IsNumeral, ParsesSigned, digits_value, signed_digits_value, without_leading_sign}
pub use Rattle.std.proofs.Math.Nat.{mul-le-mul_right}
pub use Rattle.std.proofs.Output.{has_written_of_eq}
pub use Rattle.std.proofs.Props.{props}
pub use Rattle.std.proofs.lemmas.Grind.{common_steps}
pub use Rattle.std.proofs.lemmas.Int.{to_z-of_z, ints}
pub use Rattle.std.proofs.lemmas.Iterator.Consumers.{YieldsList-end, YieldsList-from_first}
pub use Rattle.std.specs.Int.{w128, int_div_euclid, int_rem_euclid}
pub use denote.Shadow.{shadow}
pub use denote.Text.{Utf8}
pub use Rattle.jiff.proofs.Family.{same_datetime}
pub use Rattle.jiff.specs.Types.{AmbiguousOffset, DateTime, Fold, Gap, Offset, TimeZone, Unambiguous, Timestamp}
pub use Rattle.jiff.specs.Words.{IsOffsetSeconds, IsTimestampNanos, civil_nanos, instant_of, nanos_of_seconds}
pub use Rattle.jiff.specs.Words.{plain_zone}
pub use Rattle.jiff_core.proofs.CalendarLemmas.{day_count-day_of_year, days_from_civil-day_count, days_in_month_bounds}
pub use Rattle.jiff_core.proofs.SignedLemmas.{signed_arith}
pub use Rattle.jiff_fmt.specs.Reader.{fraction_value}
pub use Rattle.jiff_fmt.specs.Text.{pad2, pad4}
pub use mathlib.Core.HLevel.{is_prop→PathP}
pub use denote.Enum.Declared.{tag_of}
pub use Rattle.syslog_text.specs.Bodies.Scan.{SplitsRun}
pub use Rattle.syslog_text.specs.Pieces.Class.{Text, Class, Values, Row, some_run, exactly, Each, Ends, Front, NoFront}
pub use Rattle.syslog_text.specs.Pieces.Class.{IsDeterministic, join, mapped, texted, Divides, after}
pub use Rattle.syslog_text.specs.Pieces.View.{text_of, ReadsBytes}
pub use Rattle.syslog_pieces.specs.ProcId.{IsBoundedProcess, IsCanonicalProcess, IsI32Text, process_text, process_word}
pub use Rattle.syslog_pieces.specs.ProcId.{NamesProcess, procid_value}
pub use Rattle.syslog_text.specs.Text.{is_blank, dash, colon, number, word}
pub use Rattle.syslog_text.specs.Text.Canonical.{IsCanonicalWord}
pub use Rattle.syslog_pieces.specs.declared.procid.ProcId.{ProcId}
pub use Rattle.syslog_pieces.specs.declared.procid.ProcId.TheVariants.{PID, Name}
pub use Rattle.syslog_pieces.specs.Bodies.Clock.{unsigned_date_time, fields_of_rfc3339, fields_text, zone_of}
pub use Rattle.syslog_pieces.specs.Timestamp.Fields.{IsStampOfClock, AreCivil, fields_of, nanos_of_fields, IsStampAt}
pub use Rattle.syslog_pieces.specs.Timestamp.Fields.{IsDateTime}
pub use Rattle.syslog_pieces.specs.Bodies.MonthReading.{day_row, year_row}
pub use Rattle.syslog_pieces.specs.Pri.{priority, priority_row}
pub use Rattle.syslog_pieces.specs.Timestamp.{IsAnswer, IsStampOfRfc3339, IsStampText, clock_value, header_stamp}
pub use Rattle.syslog_pieces.specs.Timestamp.MonthDate.{clock_row, month, month_date}
pub use Rattle.syslog_pieces.specs.Timestamp.Printed.{civil_fields, fraction_text, year_sign}
pub use Rattle.syslog_text.specs.Text.Digits.{pad3}
pub use Rattle.syslog_pieces.specs.Timestamp.Rfc3164.{rfc3164_stamp}
pub use Rattle.syslog_pieces.specs.Timestamp.Rfc3339.{HasStamp, decimals, fraction, letter, numeric_row, offset}
pub use Rattle.syslog_pieces.specs.Timestamp.Rfc3339.{seconds_of, sign, stamp_row, stamp_text, written_of, year}
pub use Rattle.syslog_text.specs.Bodies.Looks.{is_dot, LeadsBare}
pub use Rattle.syslog_pieces.specs.Timestamp.Zone.{Dating, IsMonthStamp, dating_value}
pub use Rattle.syslog_pieces.specs.declared.timestamp.OffsetTimestamp.{OffsetTimestamp}
pub use Rattle.syslog_pieces.specs.declared.timestamp.clock.ClockStamp.{ClockStamp}
pub use Rattle.syslog_pieces.specs.declared.timestamp.fields.CivilFields.{CivilFields}
pub use Rattle.syslog_pieces.specs.declared.timestamp.month_date.MonthDate.{MonthDate}
pub use Rattle.syslog_pieces.specs.declared.timestamp.rfc3339_text.Rfc3339Fields.{Rfc3339Fields}
pub use Rattle.syslog_text.proofs.PieceLemmas.Class.{◌also◌, row_of, ◌then◌, no_row, ◌past◌, IsAlone, heads, each_map}
pub use Rattle.syslog_text.proofs.PieceLemmas.Class.{no_truth, front_same, texted_det, mapped_det, no_front_no}
pub use Rattle.syslog_text.proofs.PieceLemmas.Class.{exactly_det, each_append, piece_front, rows_none_here}
pub use Rattle.syslog_text.proofs.PieceLemmas.Class.{rows_none_later, AllDeterministic, some_run_det, no_spaced_piece}
pub use Rattle.syslog_text.proofs.PieceLemmas.Class.{run_det, mapped_front, spaced_front, row_det, no_mapped, rest_same}
pub use Rattle.syslog_text.proofs.PieceLemmas.Class.{row_pieces, run_same, row_head, rows_join, match_map, rows_step}
pub use Rattle.syslog_text.proofs.PieceLemmas.Lists.{begins_apart, begins_more, begins_with, second_kind, either_det}
pub use Rattle.syslog_text.proofs.PieceLemmas.Lists.{first_kind, no_either, Begins, Apart}
