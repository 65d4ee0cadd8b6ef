-- The names that two files of proofs cite, passed on from one place. Declares nothing.
pub use Rattle.std.proofs.Common.{slice_get, append_assoc, ap, length, append-nil, rules, length-append, Result, Option}
pub use Rattle.std.proofs.Common.{Some, ◌≡◌, ◌≤◌, Err, ◌+◌, sym, None, to_z, of_z, List, arith, take, subst, ◌++◌, refl}
pub use Rattle.std.proofs.Common.{ℕ, ◌∙◌, map, inr, inl, ◌<◌, Ok, ℤ, ◌-◌, ◌⊎◌, [], w32, ◌∷◌}
pub use Rattle.std.proofs.lemmas.Str.{IsUtf8-string_bytes}
pub use Rattle.std.specs.Str.{encode_utf8_all, IsUtf8}
pub use Rattle.syslog_loose.proofs.ReadingLemmas.{in_year_map, in_year_told}
pub use Rattle.syslog_loose.specs.Line.{line_value}
pub use Rattle.syslog_loose.specs.Message.{MessageValue}
pub use Rattle.syslog_loose.specs.DateForm.{ShowsNoDate}
pub use Rattle.syslog_loose.specs.Reckoning.{dating_in}
pub use Rattle.syslog_loose.specs.declared.fault.ParseFault.{ParseFault}
pub use Rattle.syslog_loose.specs.declared.variant.Variant.{Variant}
pub use Rattle.syslog_pieces.proofs.Names.{chars-nil}
pub use Rattle.syslog_text.specs.Pieces.Class.{Text}
pub use Rattle.syslog_text.specs.Pieces.View.{shown}
pub use Rattle.syslog_elements.specs.StructuredData.Element.{param_value}
pub use Rattle.syslog_elements.specs.StructuredData.Escapes.{pair_meaning}
pub use Rattle.syslog_elements.specs.StructuredData.Visited.{element_seen, list_elements, params_left}
pub use Rattle.syslog_pieces.specs.Timestamp.Zone.{Dating}
pub use Rattle.syslog_pieces.specs.declared.timestamp.OffsetTimestamp.{OffsetTimestamp}
pub use Rattle.syslog_c.specs.Fields.{IsElement, IsBegun, IsParam, IsStamp, all_params}
pub use Rattle.syslog_c.specs.Line.{OnLine}
pub use Rattle.syslog_c.specs.Options.{AreRules}
pub use Rattle.syslog_c.specs.Room.{TakesText}
pub use Rattle.syslog_c.specs.Reported.{ReadsInto}
pub use Rattle.syslog_c.specs.declared.fields.Stamp.{Stamp}
pub use Rattle.syslog_c.specs.declared.options.Options.{Options}
pub use Rattle.syslog_c.specs.declared.outcome.Outcome.{Outcome}
pub use Rattle.syslog_c.specs.declared.outcome.Outcome.TheVariants.{NoReading}
pub use Rattle.syslog_c.specs.declared.rules.Rules.{Rules}
