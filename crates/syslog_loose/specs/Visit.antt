-- What is made of a text by way of its line.
use Rattle.std.specs.Prelude.{◌≡◌, ◌≢◌, ◌⊎◌}
use Rattle.syslog_loose.specs.Words.{ℕ, List, [], Option, MatchOption, Result, MatchResult, Bor, Text, shown}
use Rattle.syslog_loose.specs.Words.{ElementValue, list_elements, Visits, Dating}
use Rattle.syslog_loose.specs.{Line.line_value, declared.line.Line.Line, declared.message.Message.Message}
use Rattle.syslog_loose.specs.Message.{message_value, with_elements}
use Rattle.syslog_loose.specs.declared.{fault.ParseFault.ParseFault, variant.Variant.Variant}
use Rattle.syslog_loose.specs.declared.fault.ParseFault.TheVariants.{Invalid, Memory}
use Rattle.syslog_loose.specs.{LineTexts.IsLine3164, LineTexts.IsLine5424, Reading.IsOnlyRead, Reading.IsUnreadable}

-- The line means the one message as which the text is read, and each of its texts is a piece of the text.
pub record IsLineOf (variant : Variant) (dating : Dating) (text : Text) (line : Line) : Type 0 where
  pub only : IsOnlyRead variant dating text (line_value line)
  pub shows : IsLine5424 text line ⊎ IsLine3164 dating text line

-- What a visitor makes of a line of this kind, and that another visitor was given its elements. Where there is none,
-- nothing is made, the first stays as it was, and the other was given no element.
abbrev pub MadeOf : {V A E : Type 0} → (V → Line → A → V → Type 0) → (E → E → List ElementValue → Type 0)
    → Type 0 → (Line → Type 0) → V → E → Option A → V → E → Type 0
MadeOf makes was_given IsNone IsOne old before result new after = MatchOption result
    (IsNone × (new ≡ old) × Visits was_given before [] after)
    (λ made. (line : Line) × IsOne line × makes old line made new
    × Visits was_given before (list_elements line.list) after)

-- what is made of the line of the one message as which the text is read
abbrev pub Made : {V A E : Type 0} → (V → Line → A → V → Type 0) → (E → E → List ElementValue → Type 0)
    → Variant → Dating → Text → V → E → Option A → V → E → Type 0
Made makes was_given variant dating text =
    MadeOf makes was_given (IsUnreadable variant dating text) (IsLineOf variant dating text)

-- What a reading call returns where this message was made and these elements were collected: the message with them, or
-- `Memory`, only where there are some; and `Invalid` where none was made.
abbrev pub IsCompleted : Option (Message (Bor (List ℕ))) → List ElementValue
    → Result (Message (Bor (List ℕ))) ParseFault → Type 0
IsCompleted made es result = MatchOption made
    (MatchResult result (λ _. ⊥) (λ fault. fault ≡ Invalid))
    (λ m. MatchResult result (λ n. message_value (λ s. shown s) n ≡ with_elements (message_value (λ s. shown s) m) es)
    (λ fault. (fault ≡ Memory) × (es ≢ [])))
