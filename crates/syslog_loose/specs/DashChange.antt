-- What the rule of the dash changed: how texts are read if a dash is a list of RFC 3164 before any text, as in the Rust
-- crate, and which texts are read differently now. (This project's own.)
use Rattle.std.specs.Prelude.{◌≡◌, ◌≢◌, ◌∷◌, ◌++◌, false}
use Rattle.syslog_loose.specs.Words.{ℕ, List, [], length, Option, Some, None, Text, Class, rfc3164_list, is_blank, dash}
use Rattle.syslog_loose.specs.Words.{Dating, DashRule, join}
use Rattle.syslog_elements.specs.declared.structured_data.rfc3164_list.DashRule.TheVariants.{BeforeAnything}
use Rattle.syslog_loose.specs.{Reading.IsReadUnder, Reading.dash_rule, declared.variant.Variant.Variant}
use Rattle.syslog_loose.specs.declared.variant.Variant.TheVariants.{Either, RFC3164, RFC5424}
use Rattle.syslog_loose.specs.{Canonical.IsCanonical, Message.MessageValue, Rfc3164.IsRead3164, Rfc5424.IsNot5424}

-- ---- how it was

-- the list of RFC 3164
abbrev pub old_list : Class
old_list = rfc3164_list BeforeAnything

-- the text was read as the message, as RFC 3164
abbrev pub WasRead3164 : Dating → Text → MessageValue → Type 0
WasRead3164 dating text m = IsRead3164 BeforeAnything dating text m

-- the text was read as the message
abbrev pub WasRead : Variant → Dating → Text → MessageValue → Type 0
WasRead variant dating text m = IsReadUnder BeforeAnything variant dating text m

-- there was no message as which the text was read
abbrev pub WasUnreadable : Variant → Dating → Text → Type 0
WasUnreadable variant dating text = (m : MessageValue) → WasRead variant dating text m → ⊥

-- the message met the written condition
abbrev pub WasCanonical : MessageValue → Type 0
WasCanonical m = IsCanonical BeforeAnything m

-- ---- what changed

-- the reading of the text under this rule: the message as which it is read, or none where there is no such message
abbrev pub IsReadingUnder : DashRule → Variant → Dating → Text → Option MessageValue → Type 0
IsReadingUnder rule variant dating text (Some m) = IsReadUnder rule variant dating text m
IsReadingUnder rule variant dating text None = (m : MessageValue) → IsReadUnder rule variant dating text m → ⊥

-- the readings of the text under the old rule and the new one differ: they are two messages, or one alone is none
pub record ReadsDifferently (variant : Variant) (dating : Dating) (text : Text) : Type 0 where
  pub before : Option MessageValue
  pub now : Option MessageValue
  pub was_read : IsReadingUnder BeforeAnything variant dating text before
  pub is_read : IsReadingUnder dash_rule variant dating text now
  pub differ : before ≢ now

-- a dash before a character that is no blank
pub record BeginsDashChange (text : Text) : Type 0 where
  pub next : ℕ
  pub after : Text
  pub is : text ≡ 45 ∷ (next ∷ after)
  pub no_blank : is_blank next ≡ false

-- The text is read as RFC 3164 with the old list: the ninth of its eleven pieces, which is the list's, is `-`. What
-- follows that piece begins with a character that is no blank.
pub record HasDashChange3164 (dating : Dating) (text : Text) : Type 0 where
  pub message : MessageValue
  pub read : WasRead3164 dating text message
  pub before : List Text
  pub list : Text
  pub after : List Text
  pub pieces : read.division.pieces ≡ before ++ (list ∷ after)
  pub place : length before ≡ 8
  pub is_list : old_list.Is list (join after) []
  pub is_dash : list ≡ dash
  pub next : ℕ
  pub more : Text
  pub follows : join after ≡ next ∷ more
  pub no_blank : is_blank next ≡ false

-- the same for a text that the variant reads as RFC 3164
abbrev pub HasDashChange : Variant → Dating → Text → Type 0
HasDashChange RFC5424 dating text = ⊥
HasDashChange RFC3164 dating text = HasDashChange3164 dating text
HasDashChange Either dating text = IsNot5424 text × HasDashChange3164 dating text
