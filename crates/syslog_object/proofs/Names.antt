-- The names that two files of proofs cite, passed on from one place. Declares nothing.
pub use Rattle.std.proofs.Common.{get_or, append-nil, arith, append_assoc, nat_lt, Result, length, Option, bytes_eq, []}
pub use Rattle.std.proofs.Common.{refl, Bool, subst, OnOk, ◌++◌, false, drop, cond, List, ◌==◌, take, Some, None, codes}
pub use Rattle.std.proofs.Common.{◌∙◌, ◌≤◌, ◌∷◌, not, map, ◌<◌, ◌-◌, inr, ◌≡◌, true, Err, suc, inl, ◌||◌, Ok, ◌+◌, sym}
pub use Rattle.std.proofs.Common.{ℕ, ap, rules}
pub use Rattle.std.proofs.lemmas.{Bool.cases_Bool, Result.on_ok_weaker, Str.encodes-chars}
pub use Rattle.std.specs.{Bool.OnTrue, Borrow.Bor, List.list_any, List.filter, Option.option_map}
pub use Rattle.std.specs.Prelude.{encode_utf8_all}
pub use Rattle.std.proofs.lemmas.List.{map-append, drop_more, nil_from_length, length-append}
pub use Rattle.json.{proofs.Printed.Plain.plain_from_lanes, specs.Json.Json, specs.Json.string, specs.Print.quoted}
pub use Rattle.json.specs.{Print.escape, Run.is_plain, Value.items_of, Written.PlainBetween}
pub use Rattle.syslog_loose.specs.{Line.line_value, Message.MessageValue, declared.message.Protocol.Protocol}
pub use Rattle.syslog_text.specs.{Pieces.Class.Text, Pieces.View.seen}
pub use Rattle.syslog_pieces.specs.{ProcId.procid_text}
pub use Rattle.syslog_elements.specs.StructuredData.{Element.ElementValue, Visited.list_elements}
pub use Rattle.syslog_elements.specs.StructuredData.Visited.{params_left, element_seen}
pub use Rattle.syslog_object.specs.Gathered.{values_at, first_keys, one_or_all, gathered}
pub use Rattle.syslog_object.specs.Object.{element_pair, message_json, structured_json, version_json, timestamp_json}
pub use Rattle.syslog_object.specs.Object.{text_json, unescaped, Field, element_json, param_pair}
pub use Rattle.syslog_object.specs.Parts.{facility_fields, protocol_fields, severity_fields, members_after, AreDistinct}
pub use Rattle.syslog_object.specs.Parts.{compact_text, items_text, front_text, text_field, back_fields, object_text}
pub use Rattle.syslog_object.specs.Parts.{IsNewKey, rest_text, field_text}
pub use Rattle.std.proofs.Common.{zero, ◌%◌, ◌^◌, ◌*◌, w64, ◌⊎◌}
pub use Rattle.std.specs.Int.{bit_at}
