-- What a message that was read as RFC 3164 may lack of the written condition: five quirks, and no more. So the messages
-- that have one are read as another message, or not at all, when they are printed. (This project's own.)
use Rattle.std.specs.{Char.is_not_whitespace, Prelude.◌≡◌, Prelude.◌≢◌, Prelude.◌⊎◌, Prelude.◌<◌, Prelude.◌&&◌}
use Rattle.syslog_loose.specs.Words.{⊤, ℕ, nat_eq, not, Bool, [], length, Option, Some, None, IfSome, IsSome}
use Rattle.syslog_loose.specs.Words.{AllByRecursion, Text, Each, Ends, BeginsNoList, is_blank, is_tag_char, dash}
use Rattle.syslog_loose.specs.Words.{EndsInColon, is_label_char, ShowsMonthDate, IsCanonicalStamp, Dating, ProcId, PID}
use Rattle.syslog_loose.specs.Words.{Name, DashRule, OffsetTimestamp, MonthDate, IsMonthStamp}
use Rattle.syslog_loose.specs.{Message.MessageValue, TagForm.IsNoForm, declared.message.Protocol.TheVariants.RFC3164}
use Rattle.syslog_loose.specs.Canonical.{IsVisible, IsNoI32Text, IsCanonicalElement, EndsVisibly}

-- ---- the quirks

abbrev pub is_no_colon : ℕ → Bool
is_no_colon c = not (nat_eq c 58)

-- the process is a number, or its name has no colon
abbrev pub HasNoColon : ProcId Text → Type 0
HasNoColon (PID n) = ⊤
HasNoColon (Name t) = Each is_no_colon t

-- the host is neither the text of an absent one nor taken for the one after the names, and no name of a process is cut
pub record HasQuietNames (host : Option Text) (process : Option (ProcId Text)) : Type 0 where
  pub no_dash : IfSome host (λ h. h ≢ dash)
  pub no_last_colon : IfSome host (λ h. EndsInColon h → ⊥)
  pub no_colon : IfSome process HasNoColon

-- The message has none of the quirks, which are these:
--
-- 1. a timestamp that its printed text does not have
-- 2. a host `-`, which is the text of an absent one
-- 3. a host that ends in a colon, which is taken for the one after the names
-- 4. a process name with a colon, at which the name before it is cut
-- 5. no element, and a message part that begins with a list
pub record HasNoQuirk (rule : DashRule) (m : MessageValue) : Type 0 where
  pub timestamp : IfSome m.timestamp IsCanonicalStamp
  pub names : HasQuietNames m.hostname m.procid
  pub no_list : m.structured_data ≡ [] → BeginsNoList rule m.msg

-- it has none of the quirks before its message part
pub record HasNoNameQuirk (m : MessageValue) : Type 0 where
  pub timestamp : IfSome m.timestamp IsCanonicalStamp
  pub names : HasQuietNames m.hostname m.procid

-- ---- all else

-- `-`, or a text that ends in a colon
abbrev pub IsOddHost : Text → Type 0
IsOddHost h = (h ≡ dash) ⊎ EndsInColon h

-- neither white space nor `]`
abbrev pub is_inner_char : ℕ → Bool
is_inner_char c = is_not_whitespace c && not (nat_eq c 93)

-- a name is nonempty, no text of a number, and without white space and `]`
abbrev pub IsInnerProcess : ProcId Text → Type 0
IsInnerProcess (PID n) = ⊤
IsInnerProcess (Name t) = (0 < length t) × Each is_inner_char t × IsNoI32Text t

-- the condition on the names, except that a process name may have colons
abbrev pub AreNamesButQuirks : Option Text → Option Text → Option (ProcId Text) → Type 0
AreNamesButQuirks host None None = IfSome host IsNoForm
AreNamesButQuirks host None (Some process) = ⊥
AreNamesButQuirks host (Some app) None = (0 < length app) × Each is_tag_char app × (app ≢ dash) × IsNoForm app
AreNamesButQuirks host (Some app) (Some process) = Each is_label_char app × IsInnerProcess process

-- The message meets the condition for RFC 3164, except for its facility and severity and for the quirks. A host that is
-- `-` or ends in a colon comes with no app name, and a process name with a colon comes with no host.
pub record HasQuirksAlone (m : MessageValue) : Type 0 where
  pub protocol : m.protocol ≡ RFC3164
  pub hostname : IfSome m.hostname IsVisible
  pub odd_host : IfSome m.hostname (λ h. IsOddHost h → m.appname ≡ None)
  pub names : AreNamesButQuirks m.hostname m.appname m.procid
  pub colon_process : IfSome m.procid HasNoColon ⊎ (m.hostname ≡ None)
  pub msgid : m.msgid ≡ None
  pub elements : AllByRecursion IsCanonicalElement m.structured_data
  pub parameters : AllByRecursion (λ e. 0 < length e.params) m.structured_data
  pub msg_front : Ends is_blank m.msg
  pub msg_end : EndsVisibly m.msg

-- the message meets the condition except for the quirks
pub record IsNearlyCanonical (m : MessageValue) : Type 0 where
  pub facility : IsSome m.facility
  pub severity : IsSome m.severity
  pub rest : HasQuirksAlone m

-- the timestamp is that of a month date that the text shows
abbrev pub IsOfMonthDate : Dating → Text → OffsetTimestamp → Type 0
IsOfMonthDate dating text s = (date : MonthDate) × ShowsMonthDate text date × IsMonthStamp dating date s
