-- The names that two files of proofs cite, passed on from one place. Declares nothing.
pub use Rattle.std.proofs.Common.{ap, ◌∙◌, inl, inr, rules, w32, List, Some, refl, subst, of_z, sym, Option, ◌≡◌, to_z}
pub use Rattle.std.proofs.Common.{ℕ, []}
pub use Rattle.std.specs.Str.{chars}
pub use Rattle.json.specs.Json.{Json}
pub use Rattle.syslog_loose.specs.Line.{line_value}
pub use Rattle.syslog_object.specs.Object.{message_json}
pub use Rattle.syslog_object.specs.Written.{IsTextOf}
pub use Rattle.syslog_text.specs.Pieces.Class.{Text}
