-- The names that two files of proofs cite, passed on from one place. Declares nothing.
pub use Rattle.std.proofs.Common.{Bool, IsTrue, length, MatchOption, append_assoc, append-nil, ℤ, get_or, to_z, true}
pub use Rattle.std.proofs.Common.{Some, false, rules, subst, Option, arith, Result, Bor, ◌≢◌, w32, not, sym, map}
pub use Rattle.std.proofs.Common.{◌++◌, of_z, drop, List, None, refl, ℕ, ap, [], ◌∙◌, ◌∷◌, pos, ◌≤◌, inr, ◌<◌, ◌≡◌}
pub use Rattle.std.proofs.Common.{inl, Ok, Err}
pub use Rattle.std.proofs.lemmas.Result.{MatchResult-weaker}
pub use Rattle.std.proofs.lemmas.Str.Parse.{numerals_by_value, tells_by_index, digits_value_short}
pub use Rattle.std.specs.Fmt.InlineText.{inline_text}
pub use Rattle.std.specs.Int.{IsInRange}
pub use Rattle.syslog_command_line.specs.Arguments.{end_word, NamesDate, IsYear, NamesOffset}
