-- The names that most proofs about texts cite, passed on from one place. Declares nothing.
pub use Rattle.std.proofs.Common.{append_assoc, length-take, get_or-drop, [], length-drop, get_or-take, append-nil}
pub use Rattle.std.proofs.Common.{replicate, add-zero, add-one, bit_and, Option, nat_eq, length, get_or, Result, IfSome}
pub use Rattle.std.proofs.Common.{nat_lt, negsuc, bit_or, false, arith, rules, ◌||◌, List, ◌++◌, Some, None, refl, Bool}
pub use Rattle.std.proofs.Common.{true, cond, take, zero, ◌&&◌, ℕ, Fits, drop, ◌≡◌, inl, inr, ◌∷◌, sym, ◌≢◌, not, ◌⊎◌}
pub use Rattle.std.proofs.Common.{◌∙◌, map, ◌+◌, ◌-◌, ℤ, ◌≤◌, ◌<◌, suc, Err, pos, ◌%◌, ◌^◌, ◌*◌, ◌/◌, eqb, ap, Ok, w8}
pub use Rattle.std.proofs.Math.Seq.{drop-append_seam, take-append_seam}
pub use Rattle.std.proofs.lemmas.Bool.{and_parts, and_from, agree_below, agree_below_at, and_left, cases_Bool, cases_lt}
pub use Rattle.std.proofs.lemmas.Bool.{eqb-true, lt-ltb, ltb-true, not-false, not-true}
pub use Rattle.std.proofs.lemmas.Bool.Decides.{eqb_tells, nat_tests}
pub use Rattle.std.proofs.lemmas.Fmt.{decimal_digit, decimal_nonempty, digits_value-decimal}
pub use Rattle.std.proofs.lemmas.List.{length-append, take_all, length-map, map-append, drop_all, take-append-drop}
pub use Rattle.std.proofs.lemmas.List.{take_more, drop_more, get_or_append_left, same_from_push}
pub use Rattle.std.proofs.lemmas.List.Concat.{flat_map-append}
pub use Rattle.std.proofs.lemmas.Str.{IsCharBoundary-before_ascii, IsCharBoundary-after_ascii, IsCharBoundary-at_seam}
pub use Rattle.std.proofs.lemmas.Str.{IsCharBoundary-start, IsUtf8-from_ascii, length-le-encodes, digit_value_digit}
pub use Rattle.std.proofs.lemmas.Str.{chars_past_char, encodes-IsAscii, encodes-append, chars-append, byte_from_char}
pub use Rattle.std.proofs.lemmas.Str.{char_from_byte, encodes-chars, chars-IsAscii, chars-encodes, scalars-chars}
pub use Rattle.std.proofs.lemmas.Str.{IsUtf8-drop, IsUtf8-take, chars-nil}
pub use Rattle.std.proofs.lemmas.Str.Ascii.{IsAscii-cons, IsAscii-nil}
pub use Rattle.std.specs.Bool.{one_answer, beq}
pub use Rattle.std.specs.Borrow.{Bor}
pub use Rattle.std.specs.Char.{digit_value, is_ascii_digit, is_not_whitespace, is_whitespace}
pub use Rattle.std.specs.Fmt.{decimal, digit_glyph, digits_onto, signed_decimal}
pub use Rattle.std.specs.List.{flat_map}
pub use Rattle.std.specs.Prelude.{◌↔◌, IsSomeAnd, IsTrue, slice_index}
pub use Rattle.std.specs.Result.{OkIff, result_ok}
pub use Rattle.std.specs.Str.{chars, IsUtf8, encode_utf8_all, IsAscii, IsCharBoundary, NoCharPasses, NonePass, bytes_eq}
pub use Rattle.std.specs.Str.Parse.{ParsesUnsigned, digits_value}
pub use Rattle.syslog_text.specs.Text.Digits.{pad2, pad3}
pub use denote.Enum.Declared.{tag_of}
pub use Rattle.syslog_text.specs.declared.text.CharClass.TheVariants.{Visible, Digit}
pub use Rattle.syslog_text.specs.Bodies.Scan.{visible_byte, SplitsRun, EndsRun, IsRunIn, byte_in, past_in, IsBare}
pub use Rattle.syslog_text.specs.Bodies.Scan.{IsRun, first_set}
pub use Rattle.syslog_text.specs.Pieces.Class.{Text, Class, run, some_run, exactly, Each, Ends, Front, NoFront}
pub use Rattle.syslog_text.specs.Pieces.Class.{IsDeterministic, texted, spaced}
pub use Rattle.syslog_text.specs.Pieces.View.{shown, Reads, seen, text_eq}
pub use Rattle.syslog_text.specs.Text.{is_blank, dash, EndsInColon, IsHost, Names, colon, host, is_tag_char, name_text}
pub use Rattle.syslog_text.specs.Text.{number, tag_word, trimmed, word}
pub use Rattle.syslog_text.specs.Text.Canonical.{IsCanonicalHost, IsCanonicalTag, IsCanonicalWord, IsVisible}
pub use Rattle.syslog_text.specs.Text.CharClass.{has}
pub use Rattle.syslog_text.specs.declared.text.CharClass.{CharClass}
pub use Rattle.syslog_text.specs.Bodies.Looks.{BeginsVisibly, BeginsWithGap, IsSmallNumber}
pub use Rattle.syslog_text.proofs.PieceLemmas.Class.{◌also◌, heads, each_map, false_is, front_same, no_front_no}
pub use Rattle.syslog_text.proofs.PieceLemmas.Class.{each_append, optional_some, no_spaced_piece, no_spaced_space}
pub use Rattle.syslog_text.proofs.PieceLemmas.Class.{spaced_front, optional_none, rest_same, run_same}
