-- How a call over a line ends.
use Rattle.std.specs.Prelude.{◌≡◌, ◌⊎◌, ℕ, List}
use Rattle.std.specs.Str.{chars, IsUtf8}
use Rattle.syslog_text.specs.Pieces.Class.{Text}
use Rattle.syslog_pieces.specs.Timestamp.Zone.{Dating}
use Rattle.syslog_loose.specs.Dates.{IsDated}
use Rattle.syslog_loose.specs.Reading.{IsUnreadable}
use Rattle.syslog_loose.specs.declared.variant.Variant.{Variant}
use Rattle.syslog_c.specs.Options.{AreRules, IsTaken}
use Rattle.syslog_c.specs.declared.options.Options.{Options}
use Rattle.syslog_c.specs.declared.outcome.Outcome.{Outcome}
use Rattle.syslog_c.specs.declared.outcome.Outcome.TheVariants.{NoReading, NotUtf8, BadArgument}
use Rattle.syslog_c.specs.declared.rules.Rules.{Rules}

-- The line is read by the options, and this holds of their rules, of how its dates are taken, and of its text.
pub record IsTried (options : Options) (line : List ℕ) (Holds : Rules → Dating → Text → Type 0) : Type 0 where
  pub rules : Rules
  pub are : AreRules options rules
  pub utf8 : IsUtf8 line
  pub holds : IsDated rules.dates rules.variant (chars line) (λ dating. Holds rules dating (chars line))

-- The options mean nothing, or the line is not UTF-8, and all is left; or the line is read by the options, and then
-- this holds.
abbrev pub OnLine : Options → List ℕ → Outcome → Type 0 → (Rules → Dating → Text → Type 0) → Type 0
OnLine options line outcome IsLeft Holds =
    ((outcome ≡ BadArgument) × (IsTaken options → ⊥) × IsLeft)
    ⊎ (((outcome ≡ NotUtf8) × IsTaken options × (IsUtf8 line → ⊥) × IsLeft)
    ⊎ IsTried options line Holds)

-- why there is no message: the text does not parse
abbrev pub Refuses : Variant → Dating → Text → Outcome → Type 0
Refuses variant dating text outcome = (outcome ≡ NoReading) × IsUnreadable variant dating text
