-- What the call wrote for a line, by the dating of the line, and what the filter gives for a line that is not UTF-8.
use Rattle.std.proofs.Common.{◌≡◌, ◌⊎◌, inl, inr, ℕ, Bool, List, Option, Some, Result, Ok, Err, IsTrue, refl, subst}
use Rattle.std.proofs.Common.{sym, ◌∙◌}
use Rattle.std.specs.declared.alloc.AllocError.{AllocError}
use Rattle.std.specs.Prelude.{◌↔◌, IfOk, IsUtf8, MatchResult}
use Rattle.syslog_text.specs.Pieces.Class.{Text}
use Rattle.syslog_choice.specs.Chosen.{IsChosen}
use Rattle.syslog_choice.specs.declared.Choice.{Choice}
use Rattle.syslog_dialects.proofs.SentReadingLemmas.{read_not_unsent, read_once}
use Rattle.syslog_dialects.specs.SentReading.{IsReadSent, IsUnsent}
use Rattle.syslog_sent.specs.declared.dialect.Dialect.{Dialect}
use Rattle.syslog_dialects.specs.declared.visit.SentLine.{SentLine}
use Rattle.syslog_loose.proofs.ReadingLemmas.{in_year_map, invalid_or_memory}
use Rattle.syslog_loose.proofs.ReckoningLemmas.{one_dating}
use Rattle.syslog_loose.specs.Dates.{IsDated}
use Rattle.syslog_loose.specs.Line.{line_value}
use Rattle.syslog_loose.specs.Message.{MessageValue}
use Rattle.syslog_loose.specs.declared.fault.ParseFault.{ParseFault}
use Rattle.syslog_loose.specs.declared.fault.ParseFault.TheVariants.{Invalid}
use Rattle.syslog_loose.specs.declared.variant.Variant.TheVariants.{Either}
use Rattle.syslog_lines.specs.Output.{AddsAnswer}
use Rattle.syslog_strict.specs.{Call.Copies, Call.NoSyslogMsg, Grammar.IsSyslogMsg}
use Rattle.syslog_strict_sent.specs.Converted.{ConvertsSent, IsSentText}
use Rattle.syslog_utf8.specs.Decoded.{decoded}
use Rattle.syslog_5424.specs.Conversions.{IsAskedFor, IsRefused, IsWritten, conversions}
use Rattle.syslog_5424.specs.declared.filter.Conversions.{Conversions}

module _ (filter : Conversions) (input text : Text) where
  -- the text of a conversion is in the grammar
  strict_dated : IsDated filter.dates Either input
      (λ dating. IsSentText filter.dates dating filter.dialects Either input text) → IsSyslogMsg text
  strict_dated h = (h.holds h.answered (λ date asks. refl)).is.strict

  -- no year decides whether the text is in the grammar
  not_strict : IsDated filter.dates Either input (λ dating. NoSyslogMsg input) → NoSyslogMsg input
  not_strict h = h.holds h.answered (λ date asks. refl)

  -- a text that is written is not refused
  pub written_not_refused : IsWritten filter input text → IsRefused filter input → ⊥
  written_not_refused (inl (valid, same)) refused = refused.0 valid
  written_not_refused (inr (other, converted)) refused =
      let (dating, is, none) =
      one_dating {Holds = λ d. IsSentText filter.dates d filter.dialects Either input text}
      {More = λ d. IsUnsent filter.dates d filter.dialects Either input}
      filter.dates Either input converted refused.1 in
      read_not_unsent filter.dates dating filter.dialects Either input is.dialect is.message is.read none

  pub told : (r : Result (Unit {0}) ParseFault) → Copies input r text ⊎ IsDated filter.dates Either input
      (λ dating. ConvertsSent filter.dates dating filter.dialects Either input r text)
      → MatchResult r (λ _. IsSyslogMsg text × IsWritten filter input text)
      (λ fault. (fault ≡ Invalid) ↔ IsRefused filter input)
  told (Ok x) (inl (valid, e)) = (rw e valid, inl (valid, e))
  told (Ok x) (inr h) =
      let converted = in_year_map (λ year is. is.1) h in
      (strict_dated converted, inr (not_strict (in_year_map (λ year is. is.0) h), converted))
  told (Err fault) (inl (valid, memory)) = (
    λ invalid. absurd (invalid_or_memory (sym memory ∙ invalid)),
    λ refused. absurd (refused.0 valid),
  )
  told (Err fault) (inr h) = (
    λ e. (not_strict (in_year_map (λ year is. is.0) h), in_year_map (λ year is. is.1.0 e) h),
    λ refused.
        let (dating, is, none) =
        one_dating {Holds = λ d. ConvertsSent filter.dates d filter.dialects Either input (Err fault) text}
        {More = λ d. IsUnsent filter.dates d filter.dialects Either input} filter.dates Either input h refused.1 in
        is.1.1 none,
  )

-- whether the line is asked for, by what its reading gives
module _ (filter : Conversions) (choice : Choice) (input : Text) (given : filter.choice ≡ Some choice) where
  pub asked_chosen : (it : SentLine) (r : Bool)
      → IsDated filter.dates Either input
      (λ dating. IsReadSent filter.dates dating filter.dialects Either input it.dialect (line_value it.line))
      → (IsTrue r ↔ IsChosen choice (line_value it.line)) → IsTrue r ↔ IsAskedFor filter input
  asked_chosen it r read chosen = (
    λ yes. rw given (in_year_map (λ year is. (it.dialect, line_value it.line, is, chosen.0 yes)) read),
    λ asked.
        let (dating, is, (dialect, m, other, has)) =
        one_dating
        {Holds = λ d. IsReadSent filter.dates d filter.dialects Either input it.dialect (line_value it.line)}
        {More = λ d. (dialect : Option Dialect) × (m : MessageValue)
        × IsReadSent filter.dates d filter.dialects Either input dialect m × IsChosen choice m}
        filter.dates Either input read (rw given at asked) in
        let once =
        read_once filter.dates dating filter.dialects Either input it.dialect dialect (line_value it.line) m is other in
        chosen.1 (subst (λ (n : MessageValue). IsChosen choice n) once.1 has),
  )

  pub none_asked : IsDated filter.dates Either input
      (λ dating. IsUnsent filter.dates dating filter.dialects Either input) → IsAskedFor filter input → ⊥
  none_asked none asked =
      let (dating, is, (dialect, m, other, has)) =
      one_dating {Holds = λ d. IsUnsent filter.dates d filter.dialects Either input}
      {More = λ d. (dialect : Option Dialect) × (m : MessageValue)
      × IsReadSent filter.dates d filter.dialects Either input dialect m × IsChosen choice m}
      filter.dates Either input none (rw given at asked) in
      read_not_unsent filter.dates dating filter.dialects Either input dialect m other is

-- what a line gives that is not UTF-8: what the text gives that it is taken for
pub taken_answer : (filter : Conversions) (line text old new : List ℕ) (r : Result Bool AllocError) → ¬ (IsUtf8 line)
    → text ≡ decoded filter.latin1 line → IsUtf8 text
    → IfOk r (λ is_answered. AddsAnswer (conversions filter) text old new is_answered)
    → IfOk r (λ is_answered. AddsAnswer (conversions filter) line old new is_answered)
taken_answer filter line text old new (Err refused) invalid is utf8 h = tt
taken_answer filter line text old new (Ok b) invalid is utf8
    (answer, (taken, inl (valid, same), conversion), added, counted) =
    (answer, (taken, inr (invalid, same ∙ is), conversion), added, counted)
taken_answer filter line text old new (Ok b) invalid is utf8
    (answer, (taken, inr (other, same), conversion), added, counted) =
    absurd (other utf8)
