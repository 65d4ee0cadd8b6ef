-- The words that the proofs share: what two files cite is passed on here.
pub use Rattle.std.proofs.Common.{◌≡◌, ◌≢◌, ◌⊎◌, inl, inr, ℕ, ℤ, ◌<◌, ◌+ℤ◌, Bool, true, false, List, [], ◌∷◌, ◌++◌}
pub use Rattle.std.proofs.Common.{length, map, nat_eq, Option, Some, None, refl, sym, ap, ap₂, subst, ◌∙◌, arith}
pub use Rattle.std.proofs.Common.{append-nil, if◌then◌else◌, ◌%◌, unsigned_abs, IfSome, append_assoc, cond, pos, negsuc}
pub use Rattle.std.proofs.Common.{suc, ◌≤◌, ◌+◌, ◌-◌, ◌*◌, ◌/◌, MatchOption, drop, rules}
pub use Rattle.std.proofs.lemmas.{Bool.cases_Bool, Bool.Decides.nat_tests, Int.to_z-of_z}
pub use Rattle.std.proofs.lemmas.{List.Folds.list_any-append, Map.Text.btree_map_updates_text}
pub use Rattle.std.proofs.lemmas.{Result.on_ok_weaker, Slice.Eq.bytes_eq-Decides, Str.Ascii.IsAscii-cons}
pub use Rattle.std.proofs.lemmas.Str.Ascii.{IsAscii-nil}
pub use Rattle.std.specs.{BTreeMap.get_by_text, Borrow.Bor, Char.is_ascii_digit, Char.encode_utf8}
pub use Rattle.std.specs.{Cmp.Lexicographic.bytes_decides, Fmt.decimal, Fmt.signed_decimal, List.AllByRecursion}
pub use Rattle.std.specs.{List.flat_map, Option.option_and_then, Option.option_map}
pub use Rattle.std.proofs.lemmas.Str.{chars-IsAscii, IsUtf8-string_bytes, chars-append, chars-nil}
pub use Rattle.std.specs.Prelude.{string_bytes, ◌||◌}
pub use Rattle.std.specs.Str.{chars, bytes_eq, IsUtf8, IsAscii}
pub use Rattle.jiff.specs.Words.{nanos_of_seconds}
pub use Rattle.jiff_core.proofs.SignedLemmas.{signed_arith, int_rem_euclid-parts}
pub use Rattle.jiff_core.specs.Calendar.{IsCivilDate}
pub use Rattle.jiff_fmt.specs.Text.{pad2, pad4}
pub use Rattle.syslog_loose.specs.{Line.line_value, Message.MessageValue, Printed.timestamp_text}
pub use Rattle.syslog_loose.specs.Printed.{priority_of}
pub use Rattle.syslog_text.proofs.PieceLemmas.Class.{all_map, heads, all_append}
pub use Rattle.syslog_pieces.proofs.{ProcIdLemmas.named_names}
pub use Rattle.syslog_text.proofs.{TextLemmas.Runs.empty_is}
pub use Rattle.syslog_text.specs.{Bodies.Scan.SplitsRun, Pieces.View.text_eq, Pieces.View.shown}
pub use Rattle.syslog_elements.specs.StructuredData.{Canonical.IsCanonicalElement, Visited.element_seen}
pub use Rattle.syslog_elements.specs.{StructuredData.Visited.list_elements}
pub use Rattle.syslog_text.specs.{Text.CharClass.is_inert_char}
pub use Rattle.syslog_pieces.specs.Timestamp.Printed.{civil_fields, printed_stamp}
pub use Rattle.syslog_pieces.specs.declared.procid.ProcId.{ProcId, TheVariants.PID}
pub use Rattle.syslog_pieces.specs.declared.procid.ProcId.TheVariants.{Name}
pub use Rattle.syslog_pieces.specs.declared.timestamp.OffsetTimestamp.{OffsetTimestamp}
pub use Rattle.syslog_text.specs.Pieces.Class.{Text, Ends, Each, Front}
pub use Rattle.syslog_pieces.specs.ProcId.{NamesProcess, named_process, process_text, IsBoundedProcess, procid_text}
pub use Rattle.syslog_elements.specs.StructuredData.Element.{ElementValue, elements_text, joined_elements, element_text}
pub use Rattle.syslog_elements.specs.StructuredData.Element.{param_text}
pub use Rattle.syslog_text.specs.Text.{colon, dash, is_blank, name_text}
pub use Rattle.syslog_strict.specs.Conversion.{converted, converted_stamp, cut_stamp, has_text, in_utc, is_four_digits}
pub use Rattle.syslog_strict.specs.Conversion.{micros, cleaned, converted_element, converted_elements, converted_host}
pub use Rattle.syslog_strict.specs.Conversion.{converted_name, converted_param, converted_process, converted_word}
pub use Rattle.syslog_strict.specs.Conversion.{escaped_from, is_among, firsts, joined, named, params_of}
pub use Rattle.syslog_strict.specs.Conversion.{without_last_colon, without_lone_colon, kept_char, no_colon}
pub use Rattle.syslog_strict.specs.Grammar.{AreDistinct, IsSyslogMsg, ids_of, is_escaped, is_printusascii, is_sd_char}
pub use Rattle.syslog_strict.specs.{Ids.HasSeen, Joined.HasJoined, Joined.joined_text, Joined.text_or_none}
pub use Rattle.syslog_strict.specs.Pushing.{text_in, front_text}
