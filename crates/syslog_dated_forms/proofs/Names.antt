-- The names that most proofs of this crate cite, passed on from one place. Declares nothing.
pub use Rattle.std.proofs.Common.{[], ◌*ℤ◌, ◌++◌, ◌<◌, ◌∙◌, ◌∷◌, ◌≡◌, ◌⊎◌, ap, arith, Bool, drop, false, get_or, inl}
pub use Rattle.std.proofs.Common.{inr, length, List, MatchOption, nat_eq, None, Option, pos, refl, Some, subst, sym}
pub use Rattle.std.proofs.Common.{take, true, ℕ}
pub use Rattle.std.proofs.lemmas.Bool.{and_parts}
pub use Rattle.std.proofs.lemmas.Bool.Decides.{nat_tests}
pub use Rattle.std.specs.Borrow.{Bor}
pub use Rattle.std.specs.Char.{is_ascii_digit}
pub use Rattle.std.specs.Prelude.{◌&&◌, ◌||◌, not}
pub use Rattle.std.specs.Str.{chars, IsUtf8}
pub use denote.Shadow.{shadow}
pub use denote.Text.{Utf8}
pub use Rattle.syslog_text.proofs.PieceLemmas.Class.{◌also◌, ◌past◌, ◌then◌, all_joined, AllDeterministic}
pub use Rattle.syslog_text.proofs.PieceLemmas.Class.{division_front, each_after, each_map, exactly_det, front_of}
pub use Rattle.syslog_text.proofs.PieceLemmas.Class.{front_same, mapped_det, mapped_front, match_map, no_mapped, no_row}
pub use Rattle.syslog_text.proofs.PieceLemmas.Class.{no_row_division, optional_det, optional_none, optional_some}
pub use Rattle.syslog_text.proofs.PieceLemmas.Class.{rest_det, rest_front, row_cons, row_det, row_nil, row_none_here}
pub use Rattle.syslog_text.proofs.PieceLemmas.Class.{row_none_later, row_of, row_pieces, rows_join, rows_none_here}
pub use Rattle.syslog_text.proofs.PieceLemmas.Class.{rows_none_later, run_det, some_run_det}
pub use Rattle.syslog_text.proofs.PieceLemmas.Lists.{Begins, begins}
pub use Rattle.syslog_text.proofs.PieceLemmas.Rules.{no_such_front, no_such_meaning, such_det, such_front}
pub use Rattle.syslog_text.proofs.TextLemmas.Runs.{no_run}
pub use Rattle.syslog_text.proofs.TextLemmas.Words.{host_det, number_det}
pub use Rattle.syslog_text.specs.Pieces.Class.{Class, Each, Ends, exactly, Front, IsDeterministic, NoDivision, NoFront}
pub use Rattle.syslog_text.specs.Pieces.Class.{optional, Row, run, some_run, Text, Values}
pub use Rattle.syslog_text.specs.Pieces.Rules.{such_that}
pub use Rattle.syslog_text.specs.Pieces.View.{Recognises, shown}
pub use Rattle.syslog_text.specs.Text.{colon, is_blank, is_tag_char, number}
pub use Rattle.syslog_pieces.proofs.TimestampLemmas.MonthDate.{blanks_begin, IsBlank}
pub use Rattle.syslog_pieces.proofs.TimestampLemmas.Rfc3339.{year_det}
pub use Rattle.syslog_pieces.specs.Timestamp.{header_stamp}
pub use Rattle.syslog_pieces.specs.Timestamp.Rfc3339.{pair, year}
pub use Rattle.syslog_sent.proofs.DateLemmas.{any_date_det}
pub use Rattle.syslog_sent.proofs.DialectLemmas.{found_early, found_late, here, none_joined}
pub use Rattle.syslog_sent.proofs.FormLemmas.{◌before◌, first, found, says_once}
pub use Rattle.syslog_sent.proofs.LedLemmas.{any_front, apart}
pub use Rattle.syslog_sent.proofs.NamedLemmas.{beginning_front, first_front, no_beginning, no_otherwise}
pub use Rattle.syslog_sent.proofs.NamedLemmas.{second_front, unread}
pub use Rattle.syslog_sent.proofs.FormLemmas.{of_forms}
pub use Rattle.syslog_sent.proofs.ZoneLemmas.{bare_word_det}
pub use Rattle.syslog_sent.specs.Date.{any_date, bsd_date, bsd_of, bsd_row, fraction_row, IsDay, iso_date, IsOdd}
pub use Rattle.syslog_sent.specs.Date.{weekday}
pub use Rattle.syslog_sent.specs.Forms.{Finds, IsOfNone}
pub use Rattle.syslog_sent.specs.Led.{IsLed}
pub use Rattle.syslog_sent.specs.Named.{◌otherwise◌, BeginsWith, is_letter, program}
pub use Rattle.syslog_sent.specs.Runs.{is_plain_char}
pub use Rattle.syslog_sent.specs.Sent.{Form, loose, sent_value}
pub use Rattle.syslog_sent.specs.Zone.{bare_word, is_among}
pub use Rattle.syslog_sent.specs.declared.dialect.Dialect.{Dialect}
pub use Rattle.syslog_sent.specs.declared.dialect.Dialect.TheVariants.{Bracketed, BsdDate, CiscoAsa, CiscoIos}
pub use Rattle.syslog_sent.specs.declared.dialect.Dialect.TheVariants.{CiscoNxOs, CiscoUndated, NearlyRfc3339}
pub use Rattle.syslog_sent.specs.declared.dialect.Dialect.TheVariants.{NetScaler, SeverityFirst, UnixSeconds}
pub use Rattle.syslog_sent.specs.declared.led.LeadingDate.TheVariants.{Iso, Month}
pub use Rattle.syslog_sent.specs.declared.led.Led.{Led}
pub use Rattle.syslog_sent.specs.declared.sent.Sent.{Sent}
pub use Rattle.syslog_sent.specs.declared.sent.SentDate.{SentDate}
pub use Rattle.syslog_dated_forms.specs.Address.{address, are_address_chars, has_pair, is_address_char, may_begin}
pub use Rattle.syslog_dated_forms.specs.Cisco.{begins_host, begins_mnemonic, cisco_forms, cisco_row, context_row}
pub use Rattle.syslog_dated_forms.specs.Cisco.{counter_row, date_row, dated_in, dell_row, front_year, front_year_row}
pub use Rattle.syslog_dated_forms.specs.Cisco.{host_of, IsAsa, IsMnemonic, IsNxOs, label, label_row, labelled, mark}
pub use Rattle.syslog_dated_forms.specs.Cisco.{message_row, mnemonic, origin, place_row, start, start_row, task_row}
pub use Rattle.syslog_dated_forms.specs.Cisco.{unit, unit_row, word_origin}
pub use Rattle.syslog_dated_forms.specs.Container.{container_row, stream_row}
pub use Rattle.syslog_dated_forms.specs.Dated.{bsd_form, ctime_message_row, ctime_row, dated_sent, iso_form, iso_row}
pub use Rattle.syslog_dated_forms.specs.Dated.{journal_row, year_date, year_date_row, year_row}
pub use Rattle.syslog_dated_forms.specs.DatedForms.{journal_forms, marked_forms, timed_forms, xr_forms}
pub use Rattle.syslog_dated_forms.specs.Esxi.{esxi_row, mark_row}
pub use Rattle.syslog_dated_forms.specs.Filed.{filed_forms, filed_front, filed_row, IsAny}
pub use Rattle.syslog_dated_forms.specs.InBrackets.{day_row, in_brackets_row, is_open, stamp_row}
pub use Rattle.syslog_dated_forms.specs.IosXr.{card_row, host, host_in, host_row, IsNode, node, process_row, xr_row}
pub use Rattle.syslog_dated_forms.specs.Kiwi.{kiwi_row, level_row}
pub use Rattle.syslog_dated_forms.specs.NetScaler.{day_of, month_first_row, netscaler_row, slashed_date, slashed_of}
pub use Rattle.syslog_dated_forms.specs.NetScaler.{slashed_row, unnamed_row, year_first_row}
pub use Rattle.syslog_dated_forms.specs.OpenWrt.{logread_row}
pub use Rattle.syslog_dated_forms.specs.ProCurve.{procurve_row}
pub use Rattle.syslog_dated_forms.specs.SophosUtm.{colon_of, colon_row, utm_row}
pub use Rattle.syslog_dated_forms.specs.Tail.{spare, tail_row, TailValue, wide_row}
pub use Rattle.syslog_dated_forms.specs.Ucm.{half_row, ucm_row}
pub use Rattle.syslog_dated_forms.specs.Undated.{filed_more, IsName, IsUptime, run_clock_row, run_word_row, timed_row}
pub use Rattle.syslog_dated_forms.specs.Undated.{undated_row, uptime}
pub use Rattle.syslog_dated_forms.specs.UnixSeconds.{IsLate, meraki_row, short_row, typed_row, unix_date, unix_of}
pub use Rattle.syslog_dated_forms.specs.UnixSeconds.{unix_row}
