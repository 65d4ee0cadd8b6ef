-- The names that most proofs of this crate cite, passed on from one place. Declares nothing.
pub use Rattle.std.proofs.Common.{[], ◌++◌, ◌<◌, ◌∙◌, ◌∷◌, ◌≡◌, ap, arith, Bool, drop, false, get_or, inl, inr, length}
pub use Rattle.std.proofs.Common.{List, None, Option, refl, Some, subst, sym, true, ℕ}
pub use Rattle.std.proofs.lemmas.Bool.{agree_below, agree_below_at}
pub use Rattle.std.proofs.lemmas.Bool.Decides.{nat_tests}
pub use Rattle.std.specs.Char.{is_not_whitespace}
pub use Rattle.std.specs.Prelude.{codes, IsTrue}
pub use Rattle.std.specs.Str.{chars}
pub use denote.Shadow.{shadow}
pub use denote.Text.{Utf8}
pub use Rattle.syslog_text.proofs.PieceLemmas.Class.{◌also◌, ◌past◌, ◌then◌, after_det, all_joined, AllDeterministic}
pub use Rattle.syslog_text.proofs.PieceLemmas.Class.{both_values, each_map, exactly_det, Fails, front_of, front_same}
pub use Rattle.syslog_text.proofs.PieceLemmas.Class.{heads, mapped_det, mapped_front, match_map, no_front_no, no_mapped}
pub use Rattle.syslog_text.proofs.PieceLemmas.Class.{no_row, no_row_division, no_texted, optional_det, optional_none}
pub use Rattle.syslog_text.proofs.PieceLemmas.Class.{optional_some, rest_det, rest_front, row_cons, row_det, row_head}
pub use Rattle.syslog_text.proofs.PieceLemmas.Class.{row_nil, row_none_here, row_of, row_pieces, rows_join}
pub use Rattle.syslog_text.proofs.PieceLemmas.Class.{rows_none_here, rows_none_later, run_det, some_run_det, texted_det}
pub use Rattle.syslog_text.proofs.PieceLemmas.Lists.{many_det}
pub use Rattle.syslog_text.proofs.PieceLemmas.Rules.{always_on, no_run, no_such_front, no_such_meaning, row_reads, Runs}
pub use Rattle.syslog_text.proofs.PieceLemmas.Rules.{runs_all, runs_more, such_front}
pub use Rattle.syslog_text.proofs.TextLemmas.Runs.{empty_is, no_some_run, nonempty_is, some_run_front}
pub use Rattle.syslog_text.proofs.TextLemmas.Words.{host_det, number_det, word_det}
pub use Rattle.syslog_text.specs.Bodies.Scan.{SplitsRun}
pub use Rattle.syslog_text.specs.Pieces.Class.{Class, Each, Ends, exactly, Front, IsDeterministic, mapped, NoDivision}
pub use Rattle.syslog_text.specs.Pieces.Class.{NoFront, optional, rest, Row, run, some_run, spaced, Text, texted}
pub use Rattle.syslog_text.specs.Pieces.Class.{Values}
pub use Rattle.syslog_text.specs.Pieces.Lists.{many}
pub use Rattle.syslog_text.specs.Pieces.View.{seen, shown}
pub use Rattle.syslog_text.specs.Text.{colon, dash, host, is_blank, is_tag_char, word}
pub use Rattle.syslog_pieces.proofs.TimestampLemmas.Rfc3339.{year_det}
pub use Rattle.syslog_pieces.specs.Timestamp.Rfc3339.{pair}
pub use Rattle.syslog_sent.proofs.DateLemmas.{any_date_det, iso_date_det}
pub use Rattle.syslog_sent.proofs.DialectLemmas.{here}
pub use Rattle.syslog_sent.proofs.FormLemmas.{◌before◌, first, found, says_once}
pub use Rattle.syslog_sent.proofs.LedLemmas.{any_front}
pub use Rattle.syslog_sent.proofs.NamedLemmas.{beginning_front, first_front, hosted_det}
pub use Rattle.syslog_sent.proofs.NamedLemmas.{no_beginning, no_otherwise, program_det, run_text}
pub use Rattle.syslog_sent.proofs.NamedLemmas.{second_front, told, unread}
pub use Rattle.syslog_sent.proofs.Determined.{beginning_det, otherwise_det}
pub use Rattle.syslog_sent.proofs.FormLemmas.{of_forms}
pub use Rattle.syslog_sent.specs.Date.{iso_date}
pub use Rattle.syslog_sent.specs.Named.{◌otherwise◌, beginning, BeginsWith, hosted, name, NamedTexts, program, untagged}
pub use Rattle.syslog_sent.specs.Runs.{is_plain_char, is_unquoted, is_word_char}
pub use Rattle.syslog_sent.specs.Sent.{IsOnlySent, loose, SentValue}
pub use Rattle.syslog_sent.specs.Views.{named_value, Names}
pub use Rattle.syslog_sent.specs.declared.dialect.Dialect.{Dialect}
pub use Rattle.syslog_sent.specs.declared.dialect.Dialect.TheVariants.{NearlyRfc5424}
pub use Rattle.syslog_sent.specs.declared.named.Named.{Named}
pub use Rattle.syslog_sent.specs.declared.sent.SentDate.{SentDate}
pub use Rattle.syslog_named_forms.specs.Devices.{addressed_row, opens_address, point_word, title_row, titled_row}
pub use Rattle.syslog_named_forms.specs.Graded.{counted_row, event_row, graded_row, hardware_row, level_row}
pub use Rattle.syslog_named_forms.specs.Graded.{leveled_row, numbered_row, padded_of, padded_row, sourced_row}
pub use Rattle.syslog_named_forms.specs.Graded.{threaded_of, threaded_row, threads_row}
pub use Rattle.syslog_named_forms.specs.Hosts.{host_row, process_tail, program_said, program_tail, ReadsHost}
pub use Rattle.syslog_named_forms.specs.Monotonic.{monotonic_row, seconds_row}
pub use Rattle.syslog_named_forms.specs.NamedFinds.{FindsNamed}
pub use Rattle.syslog_named_forms.specs.NamedForms.{dated_marked_forms, dated_program_forms, device_tails, front_row}
pub use Rattle.syslog_named_forms.specs.NamedForms.{graded_tails, header_forms, marked_tails, message_tails}
pub use Rattle.syslog_named_forms.specs.NamedForms.{program_tails, spread_tail, tail_forms}
pub use Rattle.syslog_named_forms.specs.NearHeader.{head_row, heroku_last, ids_row, nil_last, source_row, tag_more}
pub use Rattle.syslog_named_forms.specs.PairViews.{notes_value}
pub use Rattle.syslog_named_forms.specs.Pairs.{bare, clock_row, day_row, either_text, IsShown, listed, listed_row}
pub use Rattle.syslog_named_forms.specs.Pairs.{next_row, Noted, noted, noted_more, offset_row, pair_of, part_row}
pub use Rattle.syslog_named_forms.specs.Pairs.{quoted, quoted_of, quoted_row, unquoted}
pub use Rattle.syslog_named_forms.specs.Programs.{access_of, access_row, box, box_of, box_row, enclosed_row}
pub use Rattle.syslog_named_forms.specs.Programs.{forwarded_row, hostless_of, hostless_row, later_word, passed_on}
pub use Rattle.syslog_named_forms.specs.Programs.{point_row, serial, serial_of, serial_row, severity_row, spread_row}
pub use Rattle.syslog_named_forms.specs.Programs.{time_row, untagged_row, worded_row, words, words_row}
pub use Rattle.syslog_named_forms.specs.Unified.{compact_row, kept_row, log_row}
pub use Rattle.syslog_named_forms.specs.Untagged.{AreMarks, begins, begins_other, cef_row, dashed_row, holds, is_level}
pub use Rattle.syslog_named_forms.specs.Untagged.{is_month, later_topic_row, leef_row, mark_class, marked, marked_of}
pub use Rattle.syslog_named_forms.specs.Untagged.{message, month_row, number_row, object_row, pair_row, palo_alto_row}
pub use Rattle.syslog_named_forms.specs.Untagged.{repeated_tail, repeats_row, slashed_row, topic_row, topics_row}
pub use Rattle.syslog_named_forms.specs.declared.hosts.AfterHost.{AfterHost}
pub use Rattle.syslog_named_forms.specs.declared.untagged.Mark.{Mark}
pub use Rattle.syslog_named_forms.specs.declared.untagged.Mark.TheVariants.{Bracket, Cef, Dated, Idrac, Json, Leef}
pub use Rattle.syslog_named_forms.specs.declared.untagged.Mark.TheVariants.{Level, Pair, PaloAlto, Repeated, Topics}
