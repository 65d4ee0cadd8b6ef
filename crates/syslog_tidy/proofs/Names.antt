-- The names that two files of proofs cite, passed on from one place. Declares nothing.
pub use Rattle.std.proofs.Common.{◌++◌, zero, length, arith, true, suc, refl, subst, sym, ◌∷◌, rules, append-nil, List}
pub use Rattle.std.proofs.Common.{[], ap, ℤ, ℕ, inr, ◌∙◌, ◌≡◌, inl}
pub use Rattle.std.proofs.lemmas.Int.{to_z-of_z}
pub use Rattle.std.proofs.lemmas.Str.{encodes-chars}
pub use Rattle.std.specs.Str.{chars}
pub use Rattle.syslog_lines.proofs.AnswerLemmas.{IfErr-passed}
pub use Rattle.syslog_lines.specs.Output.{is_skipped, Written, Omitted, Answer, AreAnswers}
pub use Rattle.syslog_loose.proofs.ReadingLemmas.{in_this_year}
pub use Rattle.syslog_loose.specs.Reading.{IsRead, in_utc}
pub use Rattle.syslog_loose.specs.Settling.{IsFirstSettled, IsRound}
pub use Rattle.syslog_loose.specs.declared.variant.Variant.TheVariants.{Either}
pub use Rattle.syslog_tidy.specs.Arguments.{refused_word, changed_word}
pub use Rattle.syslog_tidy.specs.Filters.{tidying}
