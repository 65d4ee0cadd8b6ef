-- What `syslog_to_rfc5424` leaves, in the words of the call of `syslog_strict_sent`.
use Rattle.std.specs.Prelude.{◌≡◌, ◌⊎◌, ℕ, List, Result, MatchResult}
use Rattle.std.specs.Str.{chars, IsUtf8}
use Rattle.syslog_text.specs.Pieces.Class.{Text}
use Rattle.syslog_loose.specs.declared.fault.ParseFault.{ParseFault}
use Rattle.syslog_strict.specs.Call.{Copies}
use Rattle.syslog_strict_sent.specs.Converted.{ConvertsSent}
use Rattle.syslog_c.specs.Line.{OnLine}
use Rattle.syslog_c.specs.Options.{IsTaken}
use Rattle.syslog_c.specs.Room.{IsLeft, IsLeftFor, Puts}
use Rattle.syslog_c.specs.declared.options.Options.{Options}
use Rattle.syslog_c.specs.declared.outcome.Outcome.{Outcome}

-- the text is in the buffer, or its length alone is there; or the fault is the outcome, and the buffer is as it was
abbrev pub PutsResult : Result (Unit {0}) ParseFault → Text → List ℕ → List ℕ → ℕ → Outcome → Type 0
PutsResult result text old new needed outcome = MatchResult result
    (λ _. (bytes : List ℕ) × IsUtf8 bytes × (chars bytes ≡ text) × Puts bytes old new needed outcome)
    (λ fault. IsLeftFor fault old new needed outcome)

-- so it is for some result and text of which this holds
abbrev pub PutsSome : (Result (Unit {0}) ParseFault → Text → Type 0) → List ℕ → List ℕ → ℕ → Outcome → Type 0
PutsSome Holds old new needed outcome = (result : Result (Unit {0}) ParseFault) × (text : Text) × Holds result text
    × PutsResult result text old new needed outcome

-- the line is copied, as the call says, or read by the rules and converted
abbrev pub PutsStrict : Options → List ℕ → List ℕ → List ℕ → ℕ → Outcome → Type 0
PutsStrict options line old new needed outcome =
    (IsTaken options × IsUtf8 line × PutsSome (Copies (chars line)) old new needed outcome)
    ⊎ OnLine options line outcome (IsLeft old new needed)
    (λ rules dating input. PutsSome (ConvertsSent rules.dates dating rules.dialects rules.variant input)
    old new needed outcome)
