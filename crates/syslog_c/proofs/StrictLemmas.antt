-- A line that is copied or converted.
use Rattle.syslog_c.proofs.Words.{List, ParseFault, in_year_map, Options, Outcome, Rules}
use Rattle.syslog_c.proofs.Words.{ℕ, ◌⊎◌, inl, inr, subst, Text, Result, ◌≡◌, IsUtf8, AreRules}
use Rattle.std.specs.Str.{chars}
use Rattle.syslog_loose.specs.Dates.{IsDated}
use Rattle.syslog_strict.specs.Call.{Copies}
use Rattle.syslog_strict_sent.specs.Converted.{ConvertsSent}
use Rattle.syslog_c.proofs.LineLemmas.{tried_line}
use Rattle.syslog_c.specs.Strict.{PutsResult, PutsSome, PutsStrict}

-- what the call gives for the text that the line's bytes are, once it is put into the buffer
pub strict_put : (options : Options) (line bytes : List ℕ) (rules : Rules) (result : Result (Unit {0}) ParseFault)
    (text : Text) (old new : List ℕ) (needed : ℕ) (outcome : Outcome)
    → AreRules options rules → (bytes ≡ line) × IsUtf8 line
    → Copies (chars bytes) result text ⊎ IsDated rules.dates rules.variant (chars bytes)
    (λ dating. ConvertsSent rules.dates dating rules.dialects rules.variant (chars bytes) result text)
    → PutsResult result text old new needed outcome → PutsStrict options line old new needed outcome
strict_put options line bytes rules result text old new needed outcome are (same, utf8) (inl copies) puts =
    inl (
      (rules, are),
      utf8,
      (
        result,
        text,
        subst (λ (bs : List ℕ). Copies (chars bs) result text) same copies,
        puts,
      ),
    )
strict_put options line bytes rules result text old new needed outcome are utf8 (inr converts) puts =
    inr (inr (inr (tried_line
    (λ r dating input. PutsSome (ConvertsSent r.dates dating r.dialects r.variant input) old new needed outcome)
    options line bytes rules are utf8 (in_year_map (λ year h. (result, text, h, puts)) converts))))
