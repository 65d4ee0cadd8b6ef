-- The names that most proofs of this crate cite, passed on from one place. Declares nothing.
pub use Rattle.std.specs.Str.{chars, IsUtf8, bytes_eq, drop_trailing_whitespace, encode_utf8_all}
pub use Rattle.std.specs.Str.{skip_leading_whitespace, IsAscii, trim_end, NonePass}
pub use Rattle.std.specs.Char.{is_ascii_digit, is_not_whitespace, is_whitespace, to_ascii_lowercase}
pub use Rattle.std.{proofs.lemmas.Option.IfSome_then, specs.Borrow.Bor, specs.Fmt.decimal, specs.Global.Global}
pub use Rattle.std.specs.Prelude.{MatchOption, IfOk, String, IsSomeAnd, ⊤, MatchResult}
pub use Rattle.std.specs.List.{flat_map, AllByRecursion, list_any}
pub use Rattle.std.specs.Option.{option_map_or, unwrap_or, option_and_then, option_map, is_some}
pub use Rattle.std.proofs.Common.{◌⊎◌, inl, inr, ◌≡◌, ◌<◌, ◌∙◌, ◌↔◌, ℕ, Bool, true, false, not, List, [], length, map}
pub use Rattle.std.proofs.Common.{refl, sym, ap, subst, arith, IsTrue, MatchBool, ◌∷◌, ◌++◌, ◌≢◌, Option, Some, None}
pub use Rattle.std.proofs.Common.{append_assoc, append-nil, nat_eq, ◌≤◌, IfSome, ◌+◌, ◌-◌, zero, suc, ◌^◌, ◌&&◌, pos}
pub use Rattle.std.proofs.Common.{negsuc, ℤ, Result, Ok, Err, string_bytes, w32, to_z, of_z, IsSome, length-append}
pub use Rattle.std.proofs.Common.{cond, ◌*◌, take, ◌%◌, rules, nat_le, nat_lt, SFits, ap₂, drop, ◌/◌, OnOk}
pub use Rattle.std.proofs.lemmas.List.{length-map, nil_from_length, take_all, append_cancel_right}
pub use Rattle.std.proofs.lemmas.{Slice.Eq.bytes_eq-Decides, Str.IsUtf8-string_bytes}
pub use Rattle.std.proofs.lemmas.Bool.Decides.{eqb_tells, nat_tests, leb_tells}
pub use Rattle.std.proofs.lemmas.Str.{chars_from_encodes, chars-IsAscii, encodes-append, encodes-chars}
pub use Rattle.std.proofs.lemmas.Result.{on_ok_weaker, err_from_is_err_and}
pub use Rattle.std.proofs.lemmas.Grind.{put_two, put_five, put_four}
pub use denote.Shadow.{shadow}
pub use denote.Text.{Utf8}
pub use Rattle.syslog_text.specs.Pieces.Class.{Text, NoFront, Class, Values, Front, join, Row, Ends, optional, run}
pub use Rattle.syslog_text.specs.Pieces.Class.{Each, some_run, exactly, Division, spaced, rest, texted, Divides}
pub use Rattle.syslog_pieces.specs.Timestamp.{header_stamp, clock_value, stamp_seen, Zone.Dating, Zone.dating_of}
pub use Rattle.syslog_elements.specs.StructuredData.Rfc3164List.{IsRfc3164List, elements_or, full_element}
pub use Rattle.syslog_elements.specs.StructuredData.Rfc3164List.{BeginsNoList, rfc3164_list, IsDashBefore}
pub use Rattle.syslog_elements.specs.declared.structured_data.rfc3164_list.DashRule.{DashRule, TheVariants.BeforeBlank}
pub use Rattle.syslog_text.specs.Text.Canonical.{EndsVisibly, IsCanonicalWord}
pub use Rattle.syslog_text.specs.Pieces.View.{shown, text_of, seen, Skips}
pub use Rattle.syslog_elements.specs.StructuredData.Element.{ElementValue, joined_elements, elements_text, param_text}
pub use Rattle.syslog_elements.specs.StructuredData.Element.{element_text, element_texts, element_value, param_value}
pub use Rattle.syslog_text.specs.Text.{trimmed, is_blank, dash, colon, EndsInColon, number, host, word, name_text}
pub use Rattle.syslog_text.specs.Text.{IsHost, tag_word, is_tag_char, field_seen}
pub use Rattle.syslog_elements.specs.declared.structured_data.rfc3164_list.DashRule.TheVariants.{BeforeAnything}
pub use Rattle.syslog_text.specs.Pieces.Format.{Format, classes, printed_row}
pub use Rattle.syslog_pieces.specs.ProcId.{process_word, process_text, NamesProcess, named_process, procid_text}
pub use Rattle.syslog_pieces.specs.ProcId.{IsBareWord, process_texts}
pub use Rattle.syslog_pieces.specs.{Timestamp.Canonical.IsCanonicalStamp, declared.pri.SyslogFacility.SyslogFacility}
pub use Rattle.syslog_text.specs.Pieces.Parts.{IsPart, AreInPieces, text_list}
pub use Rattle.syslog_pieces.{proofs.PriLemmas.severity_composed, specs.declared.procid.ProcId.ProcId}
pub use Rattle.syslog_pieces.specs.declared.procid.ProcId.TheVariants.{PID, Name}
pub use Rattle.syslog_pieces.specs.declared.timestamp.{OffsetTimestamp.OffsetTimestamp, month_date.MonthDate.MonthDate}
pub use Rattle.syslog_pieces.specs.declared.{pri.SyslogSeverity.SyslogSeverity, timestamp.clock.ClockStamp.ClockStamp}
pub use Rattle.syslog_pieces.specs.Pri.{priority, facility_number, severity_number, facility_of, severity_of, composed}
pub use Rattle.jiff.specs.declared.tz.timezone.TimeZone.{TimeZone}
pub use Rattle.syslog_pieces.specs.declared.pri.SyslogFacility.TheVariants.{LOG_SYSLOG}
pub use Rattle.syslog_pieces.specs.declared.pri.SyslogSeverity.TheVariants.{SEV_DEBUG}
pub use Rattle.syslog_pieces.specs.Timestamp.Rfc3164.{rfc3164_stamp, ShowsMonthDate, ShowsYearless}
pub use Rattle.syslog_pieces.specs.Timestamp.MonthDate.{month_date, month, yearless_date}
pub use Rattle.syslog_text.{proofs.TextLemmas.Quotes.host_quotes, specs.Pieces.Lists.IsMany}
pub use Rattle.syslog_text.specs.Text.CharClass.{is_label_char, is_open_char, is_id_char, is_name_char}
pub use Rattle.syslog_elements.specs.Bodies.Closing.{start_row, start, opening_row}
pub use Rattle.syslog_elements.specs.StructuredData.Visited.{list_elements, elements_left}
pub use Rattle.syslog_text.proofs.PieceLemmas.Class.{AllDeterministic, division_front, no_spaced_piece, no_row_division}
pub use Rattle.syslog_text.proofs.PieceLemmas.Class.{front_division, rows_none_here, unique_division, no_spaced_space}
pub use Rattle.syslog_text.proofs.PieceLemmas.Class.{row_det, optional_none, optional_some, optional_det, present_front}
pub use Rattle.syslog_text.proofs.PieceLemmas.Class.{front_same, spaced_parts, spaced_front, some_run_det, absent_stays}
pub use Rattle.syslog_text.proofs.PieceLemmas.Class.{both_values, exactly_det, piece_front, front_longer, absent_none}
pub use Rattle.syslog_text.proofs.PieceLemmas.Class.{heads, all_joined, rows_split, rest_whole, rest_front, each_append}
pub use Rattle.syslog_text.proofs.PieceLemmas.Class.{◌also◌, step_value, each_front, each_after, each_right, row_pieces}
pub use Rattle.syslog_text.proofs.PieceLemmas.Class.{rows_join, rest_same, no_texted, rows_step, all_right, each_both}
pub use Rattle.syslog_text.proofs.PieceLemmas.Class.{row_cons, row_head, run_same, rest_det, step, each_map, each_left}
pub use Rattle.syslog_text.proofs.PieceLemmas.Class.{run_det, all_left, all_map, ◌then◌, row_of, no_row, ◌past◌}
pub use Rattle.syslog_elements.proofs.StructuredDataLemmas.Units.{decide, optional_rfc3164_list_quotes}
pub use Rattle.syslog_elements.proofs.StructuredDataLemmas.Walk.{dash_rfc3164_list, no_rfc3164_list, rfc3164_list_det}
pub use Rattle.syslog_elements.proofs.StructuredDataLemmas.Walk.{full_begins, no_full_nil, full_shorter, no_list_is}
pub use Rattle.syslog_elements.proofs.StructuredDataLemmas.Walk.{begins_no_list, no_full_start, no_full_opening}
pub use Rattle.syslog_elements.proofs.StructuredDataLemmas.{Elements.opening_det, Tallies.visits_none}
pub use Rattle.syslog_text.proofs.TextLemmas.Words.{decimal_digits, digits_visible, encodes-decimal, encodes_shown}
pub use Rattle.syslog_text.proofs.TextLemmas.Words.{colon_ascii, tag_word_det, number_back, encodes_step, flat_map-map}
pub use Rattle.syslog_text.proofs.TextLemmas.Words.{false_is, no_truth, last_is, host_det, host_back, dash_ascii}
pub use Rattle.syslog_text.proofs.PieceLemmas.Lists.{begins, part_joined, Quoted, row_quotes, silent, rest_quotes}
pub use Rattle.syslog_text.proofs.PieceLemmas.Lists.{Begins, begins_apart, begins_more, begins_with}
pub use Rattle.syslog_pieces.proofs.TimestampLemmas.Rfc3339.{printed_stamp-bytes, printed_stamp-characters}
pub use Rattle.syslog_pieces.proofs.TimestampLemmas.Rfc3339.{printed_stamp_back, printed_stamp-visible, stamp_text-year}
pub use Rattle.syslog_pieces.proofs.TimestampLemmas.Rfc3339.{stamp_text_canonical, printed_stamp-begins}
pub use Rattle.syslog_pieces.proofs.ProcIdLemmas.{process_same, bare_prints, named_names, signed_writes}
pub use Rattle.syslog_pieces.proofs.PriLemmas.{priority_det, priority_composed, severity_there, facility_composed}
pub use Rattle.syslog_pieces.proofs.TimestampLemmas.MonthDate.{month_date_begins, IsLow, rfc3164_stamp_det}
pub use Rattle.syslog_pieces.proofs.TimestampLemmas.MonthDate.{stamped_date_begins, IsLetter}
pub use Rattle.syslog_text.proofs.TextLemmas.Runs.{some_front_run, one_ascii, nonempty_is, text_is, chars_nonempty}
pub use Rattle.syslog_text.proofs.TextLemmas.Runs.{same_chars, end_trimmed_chars, no_some_run, chars_empty, empty_is}
pub use Rattle.syslog_text.proofs.TextLemmas.Runs.{text_is_not, no_number}
pub use Rattle.syslog_loose.specs.Canonical.{IsBounded, IsCanonicalFor, IsCanonical, IsBoundedProcess, IsCanonicalHost}
pub use Rattle.syslog_loose.specs.Canonical.{IsCanonical3164, IsCanonicalElement, IsCanonicalInBoth, fields_value}
pub use Rattle.syslog_loose.specs.Canonical.{IsVisible, IsBracketedProcess, is_process_char, AreCanonicalNames}
pub use Rattle.syslog_loose.specs.Message.{MessageValue, message_texts, message_value, message_of_parts}
pub use Rattle.syslog_loose.specs.Reading.{dash_rule, IsRead, IsUnreadable, IsOnlyRead, Answers, IncompleteDate, InYear}
pub use Rattle.syslog_loose.specs.Reading.{IsQuoted, AsksYear, IsYearAnswered, IsLeftTo3164, IsReadUnder}
pub use Rattle.syslog_loose.specs.Rfc3164.{IsRead3164, Names3164, Resolves, rfc3164_row, names, Quotes3164, Means3164}
pub use Rattle.syslog_loose.specs.{Passes.BeginsNoDashes, Rfc3164.IsNot3164, declared.line.Line.Line}
pub use Rattle.syslog_loose.specs.Rfc5424.{IsRead5424, IsNot5424, rfc5424_row, message_of, Quotes5424}
pub use Rattle.syslog_loose.specs.declared.{message.Protocol.Protocol, variant.Variant.Variant}
pub use Rattle.syslog_loose.specs.declared.variant.Variant.TheVariants.{Either, RFC5424}
pub use Rattle.syslog_loose.specs.declared.{fault.ParseFault.ParseFault, message.Protocol.TheVariants.RFC3164}
pub use Rattle.syslog_loose.specs.{Line.line_value, Line.protocol_of, Visit.IsLineOf, Visit.Made}
pub use Rattle.syslog_loose.specs.Bodies.View3164.{names_value, NamesProgram, fields_before}
pub use Rattle.syslog_loose.specs.Bodies.Rows.{body_row, names_row, header_row, data_row}
pub use Rattle.syslog_loose.specs.Rows.{stamped_row, fields_row, front_row, tail_row, list_row, words_row}
pub use Rattle.syslog_loose.specs.Quirks.{is_no_colon, HasNoQuirk, HasNoColon, is_inner_char, IsOddHost, IsInnerProcess}
pub use Rattle.syslog_loose.specs.Quirks.{AreNamesButQuirks, HasQuirksAlone, IsNearlyCanonical, HasQuietNames}
pub use Rattle.syslog_loose.specs.Quirks.{HasNoNameQuirk, IsOfMonthDate}
pub use Rattle.syslog_loose.specs.Printed.{timestamp_text, tag_text, priority_of, printed, spaced_elements}
pub use Rattle.syslog_loose.specs.{Printed.printed_5424, Printed.rest_text, ReadBack.ReadsProtocol, ReadBack.IsFixed}
pub use Rattle.syslog_loose.specs.Bodies.Jumps.{colons, colons_before, past_colons, CutsColons, EndsColons, IsDashed}
pub use Rattle.syslog_loose.specs.Bodies.Jumps.{PassesDashes, with_msg, tail_text}
pub use Rattle.syslog_loose.specs.Passes.{EndsOnce, IsLater, Prints, HasRank, IsReportedRound, ReachesRank}
pub use Rattle.syslog_loose.specs.Bodies.Cases.{IsBoundedProtocol, incomplete, HasMonth}
pub use Rattle.syslog_loose.specs.declared.fault.ParseFault.TheVariants.{Invalid, Memory}
pub use Rattle.syslog_loose.specs.TagForm.{IsForm, IsNoForm, form_row}
pub use Rattle.syslog_loose.specs.Settling.{Costs, names_weight, Weighs, IsNext, Reaches, IsRound, IsSettled}
pub use Rattle.syslog_loose.specs.Settling.{NoneSettled, IsFirstSettled, answer_in}
pub use Rattle.syslog_loose.specs.Bodies.Start.{BeginsWithout, IsAfterPriority}
unfoldable pub use Rattle.std.specs.Char.{encode_utf8}
