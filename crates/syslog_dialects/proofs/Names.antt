-- The names that most proofs of this crate cite, passed on from one place. Declares nothing.
pub use Rattle.std.proofs.Common.{[], ◌++◌, ◌<◌, ◌∙◌, ◌∷◌, ◌≡◌, ◌≢◌, ◌⊎◌, ap, append_assoc, arith, Bool, drop, false}
pub use Rattle.std.proofs.Common.{inl, inr, length, List, MatchOption, nat_eq, None, not, Option, refl, rules, Some}
pub use Rattle.std.proofs.Common.{subst, sym, true, ℕ}
pub use Rattle.std.proofs.lemmas.Bool.{agree_below_at, and_parts}
pub use Rattle.std.proofs.lemmas.Bool.Decides.{nat_tests}
pub use Rattle.std.proofs.lemmas.Str.{encodes-append, encodes-chars}
pub use Rattle.std.proofs.lemmas.Str.Ascii.{IsAscii-nil}
pub use Rattle.std.specs.Borrow.{Bor}
pub use Rattle.std.specs.Char.{is_ascii_digit}
pub use Rattle.std.specs.Option.{is_some}
pub use Rattle.std.specs.Prelude.{◌&&◌, ◌↔◌, IfSome, IsSome, IsTrue, MatchBool, nat_le}
pub use Rattle.std.specs.Str.{chars, encode_utf8_all, IsAscii, IsUtf8, skip_leading_whitespace}
pub use Rattle.syslog_text.proofs.PieceLemmas.Class.{◌also◌, ◌past◌, ◌then◌, AllDeterministic, division_front}
pub use Rattle.syslog_text.proofs.PieceLemmas.Class.{exactly_det, front_division, front_of, front_same, heads}
pub use Rattle.syslog_text.proofs.PieceLemmas.Class.{match_map, no_front_no, no_row, no_row_division, present_front}
pub use Rattle.syslog_text.proofs.PieceLemmas.Class.{rest_det, rest_front, row_det, row_head, row_of, rows_none_here}
pub use Rattle.syslog_text.proofs.PieceLemmas.Class.{unique_division}
pub use Rattle.syslog_text.proofs.TextLemmas.Runs.{chars_cut, one_ascii}
pub use Rattle.syslog_text.specs.Pieces.Class.{Class, Each, Ends, exactly, Front, join, mapped, NoFront, optional, rest}
pub use Rattle.syslog_text.specs.Pieces.Class.{Row, run, some_run, spaced, Text, texted, Values}
pub use Rattle.syslog_text.specs.Pieces.Rules.{such_that}
pub use Rattle.syslog_text.specs.Pieces.View.{seen, shown, Skips}
pub use Rattle.syslog_text.specs.Text.{host, is_blank, number, tag_word, trimmed}
pub use Rattle.syslog_elements.proofs.StructuredDataLemmas.Unparsed.{unparsed_same}
pub use Rattle.syslog_elements.specs.StructuredData.Element.{ElementValue}
pub use Rattle.syslog_elements.specs.StructuredData.Pairs.{paired}
pub use Rattle.syslog_elements.specs.StructuredData.Visited.{list_elements, list_text}
pub use Rattle.syslog_pieces.specs.Timestamp.MonthDate.{month_date}
pub use Rattle.syslog_pieces.specs.Timestamp.Zone.{Dating}
pub use Rattle.syslog_pieces.specs.declared.procid.ProcId.{ProcId}
pub use Rattle.syslog_pieces.specs.declared.timestamp.OffsetTimestamp.{OffsetTimestamp}
pub use Rattle.syslog_pieces.specs.declared.timestamp.clock.ClockStamp.{ClockStamp}
pub use Rattle.syslog_loose.proofs.UnparsedLemmas.{leaves_of, leaves_same}
pub use Rattle.syslog_loose.specs.Line.{KnowsForm, line_value, protocol_of}
pub use Rattle.syslog_loose.specs.Message.{MessageValue}
pub use Rattle.syslog_loose.specs.Unparsed.{IsLeftUnparsed}
pub use Rattle.syslog_loose.specs.Visit.{IsLineOf}
pub use Rattle.syslog_loose.specs.declared.dates.Dates.{Dates}
pub use Rattle.syslog_loose.specs.declared.line.Line.{Line}
pub use Rattle.syslog_loose.specs.declared.variant.Variant.{Variant}
pub use Rattle.syslog_sent.proofs.DialectLemmas.{found_early, found_late}
pub use Rattle.syslog_sent.proofs.FormLemmas.{says_once}
pub use Rattle.syslog_sent.specs.Date.{any_date}
pub use Rattle.syslog_sent.specs.Forms.{IsOfFirst, IsOfNone}
pub use Rattle.syslog_sent.specs.Named.{◌otherwise◌, beginning}
pub use Rattle.syslog_sent.specs.Runs.{is_word_char}
pub use Rattle.syslog_sent.specs.Sent.{Form, loose, SentValue}
pub use Rattle.syslog_sent.specs.Zone.{ended}
pub use Rattle.syslog_sent.specs.declared.dialect.Dialect.{Dialect}
pub use Rattle.syslog_sent.specs.declared.dialect.Dialect.TheVariants.{UniFi}
pub use Rattle.syslog_sent.specs.declared.sent.SentDate.{SentDate}
pub use Rattle.syslog_dialects.specs.Dialects.{early_forms, forms_of, late_forms, named_forms, plain_forms}
pub use Rattle.syslog_dialects.specs.Found.{AreFound, beside, Date, date_first, host_first, if_there, left_of, left_out}
pub use Rattle.syslog_dialects.specs.Found.{Name, Part, Tells}
pub use Rattle.syslog_dialects.specs.Note.{IsNote}
pub use Rattle.syslog_dialects.specs.Ordinary.{IsOrdinary, tag_row}
pub use Rattle.syslog_dialects.specs.Paired.{IsOpened, names_row, NamesPairs, opened_row}
pub use Rattle.syslog_dialects.specs.PriorityAlone.{alone_form, alone_row, point_row, point_sent, program_row}
pub use Rattle.syslog_dialects.specs.PriorityAlone.{program_sent, version_row}
pub use Rattle.syslog_dialects.specs.SentLine.{HasStamp}
pub use Rattle.syslog_dialects.specs.SentReading.{AreAsked, IsSentIn, MayBegin}
pub use Rattle.syslog_named_forms.specs.Monotonic.{monotonic_row}
pub use Rattle.syslog_named_forms.specs.NamedForms.{dated_forms, spread_forms, undated_forms, undated_row}
pub use Rattle.syslog_named_forms.specs.Pairs.{pair, pair_row}
