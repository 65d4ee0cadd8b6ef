-- The names that most proofs about structured data cite, passed on from one place. Declares nothing.
pub use Rattle.std.proofs.Common.{append_assoc, string_bytes, [], length-drop, append-nil, count_by, Option, nat_eq}
pub use Rattle.std.proofs.Common.{length, get_or, Result, sum_by, subst, false, arith, rules, List, ◌++◌, Some, None}
pub use Rattle.std.proofs.Common.{refl, Bool, true, cond, take, zero, ◌&&◌, IfOk, ℕ, drop, ◌≡◌, inl, inr, ◌∷◌, sym, ◌≢◌}
pub use Rattle.std.proofs.Common.{◌⊎◌, ◌∙◌, map, ◌+◌, ◌-◌, ◌≤◌, ◌<◌, suc, Err, min, ap, Ok}
pub use Rattle.std.proofs.{Math.Seq.drop-append_seam, lemmas.Result.err_from_is_err_and}
pub use Rattle.std.proofs.lemmas.Bool.{and_parts, and_from, cases_Bool, eqb-true, ne_eqb}
pub use Rattle.std.proofs.lemmas.Bool.Decides.{eqb_tells, nat_tests}
pub use Rattle.std.proofs.lemmas.List.{length-append, append_cancel_right, nil_from_length, take_all, length-map}
pub use Rattle.std.proofs.lemmas.List.{map-append, take-append-drop, take_more}
pub use Rattle.std.{proofs.lemmas.List.Concat.flat_map-append, specs.Fmt.HasWritten, specs.Fmt.IsPlainFormatter}
pub use Rattle.std.proofs.lemmas.Str.{IsUtf8-string_bytes, IsUtf8-from_ascii, length-le-encodes, chars_past_char}
pub use Rattle.std.proofs.lemmas.Str.{encodes-append, chars-append, encodes-chars, IsUtf8-append, chars-nil}
pub use Rattle.std.{proofs.Math.Logic.∥∥₁_elim, proofs.Props.props, specs.Bool.one_answer, specs.Borrow.Bor}
pub use Rattle.std.{proofs.Output.has_written_of_eq, proofs.lemmas.Grind.put_two, specs.Char.is_not_whitespace}
pub use Rattle.std.specs.List.{flat_map, AllByRecursion, list_all, list_any, AllByRecursion-prop}
pub use Rattle.std.specs.Prelude.{◌↔◌, is_none, is_ok, IsTrue, String}
pub use Rattle.std.specs.Str.{chars, IsUtf8, encode_utf8_all, IsCharBoundary}
pub use Rattle.std.proofs.lemmas.Iterator.Consumers.{YieldsList-end, YieldsList-from_first}
pub use Rattle.std.proofs.lemmas.List.Sums.{sum_by-append, sum_by-cons, sum_by_push}
pub use Rattle.std.proofs.lemmas.List.Folds.{list_all-map, list_all_more, list_all_at}
pub use denote.Shadow.{shadow}
pub use denote.Text.{Utf8}
pub use mathlib.Core.HLevel.{is_prop→PathP, Σ_prop, ⊥_prop}
pub use Rattle.syslog_elements.specs.Bodies.Closing.{opening, quoted, start, id_alone, inside_row, opening_row}
pub use Rattle.syslog_elements.specs.Bodies.Closing.{start_row, quoted_row, inside, closing, byte_count, IsDead}
pub use Rattle.syslog_elements.specs.Bodies.Closing.{last_char, name_alone, tail_row}
pub use Rattle.syslog_text.specs.{Bodies.Scan.SplitsRun, Text.is_blank, Text.dash}
pub use Rattle.syslog_elements.specs.{Bodies.Verbatim.bare_param_text, StructuredData.Rfc3164List.elements_or}
pub use Rattle.syslog_text.specs.Pieces.Class.{Text, Class, Values, Row, run, some_run, exactly, optional, Each, Ends}
pub use Rattle.syslog_text.specs.Pieces.Class.{Front, NoFront, IsDeterministic, join, mapped, texted, Divides}
pub use Rattle.syslog_text.specs.Pieces.Lists.{IsMany, IsMore, IsList, list_before, many, more_before, HasRead}
pub use Rattle.syslog_text.specs.Pieces.View.{shown, text_of}
pub use Rattle.syslog_elements.specs.StructuredData.{value, param_row, param, element_row, element_of, element, item}
pub use Rattle.syslog_elements.specs.StructuredData.{strict, forgiving, param_of, IsValueUnit, IsValue, bracketed}
pub use Rattle.syslog_elements.specs.StructuredData.Canonical.{IsCanonicalParam, IsCanonicalElement, BeginsUnblank}
pub use Rattle.syslog_elements.specs.StructuredData.Element.{param_value, element_value, elements_text, joined_elements}
pub use Rattle.syslog_elements.specs.StructuredData.Element.{ElementValue, param_text, element_text, element_texts}
pub use Rattle.syslog_elements.specs.StructuredData.Equal.{param_eq, counts_agree, param_count, same_params, element_eq}
pub use Rattle.syslog_elements.specs.StructuredData.Escapes.{TextUnit, pair, single, unit_text, escaped, IsUnescaped}
pub use Rattle.syslog_elements.specs.StructuredData.Rfc3164List.{full_element, rfc3164_list, IsDashBefore, BeginsNoList}
pub use Rattle.syslog_text.specs.Text.CharClass.{is_name_char, is_id_char, is_unescaped_char, is_open_char, has}
pub use Rattle.syslog_text.specs.Text.CharClass.{is_bare_char, is_inert_char}
pub use Rattle.syslog_elements.specs.declared.structured_data.{rfc3164_list.DashRule.DashRule, walk.Walked.Walked}
pub use Rattle.syslog_elements.specs.StructuredData.Recognised.{OneMeaning, one_value, one_value-is}
pub use Rattle.syslog_elements.specs.StructuredData.Visited.{IsWalked, Visits, element_seen, elements_left}
pub use Rattle.syslog_elements.specs.StructuredData.Visited.{list_elements, params_left}
pub use Rattle.syslog_text.proofs.PieceLemmas.Class.{◌also◌, append_more, Meets, row_of, ◌then◌, no_row, ◌past◌}
pub use Rattle.syslog_text.proofs.PieceLemmas.Class.{IsAlone, heads, all_map, each_map, meets_on, row_goes, false_is}
pub use Rattle.syslog_text.proofs.PieceLemmas.Class.{no_truth, front_same, texted_det, mapped_det, all_append}
pub use Rattle.syslog_text.proofs.PieceLemmas.Class.{meets_here, no_front_no, exactly_det, each_after, row_none_here}
pub use Rattle.syslog_text.proofs.PieceLemmas.Class.{optional_some, rows_none_here, AllDeterministic, some_run_det}
pub use Rattle.syslog_text.proofs.PieceLemmas.Class.{run_det, mapped_front, optional_none, mapped_meets, row_det}
pub use Rattle.syslog_text.proofs.PieceLemmas.Class.{nil_front, no_mapped, meets_none, row_pieces, row_head, rows_join}
pub use Rattle.syslog_text.proofs.PieceLemmas.Class.{match_map, row_first, rows_step}
pub use Rattle.syslog_text.proofs.PieceLemmas.Lists.{has_read_more, many_here, no_many_no, many_cons, list_here}
pub use Rattle.syslog_text.proofs.PieceLemmas.Lists.{more_here, list_goes, many_none, more_goes, many_det, no_list}
pub use Rattle.syslog_text.proofs.PieceLemmas.Lists.{no_more, begins, Leaves}
