-- Rounds: a text is read and printed, and what was printed is read and printed again, until it no longer changes. And
-- the weight of a message of RFC 3164, which falls from round to round until then. (All of it is this project's own.)
use Rattle.std.specs.Prelude.{◌≡◌, ◌⊎◌, ◌+◌, ◌<◌, ◌≤◌, if◌then◌else◌}
use Rattle.syslog_loose.specs.Words.{ℕ, zero, suc, List, [], length, nat_eq, Option, IfSome, Result, Ok, Err}
use Rattle.syslog_loose.specs.Words.{MatchResult, String, string_bytes, Global, option_map_or, chars, bytes_eq, Text}
use Rattle.syslog_loose.specs.Words.{ElementValue, BeginsNoList, dash, IsCanonicalStamp, Dating, ProcId, PID, Name}
use Rattle.syslog_loose.specs.Words.{DashRule, list_any, suffix_len}
use Rattle.syslog_loose.specs.{Message.MessageValue, Printed.printed, declared.variant.Variant.Variant}
use Rattle.syslog_loose.specs.{Reading.IsRead, Reading.IsUnreadable, declared.fault.ParseFault.ParseFault}
use Rattle.syslog_loose.specs.declared.fault.ParseFault.TheVariants.{Invalid, Memory}

-- ---- rounds

-- the next round of the text: the printed text of the message as which it is read
pub record IsNext (variant : Variant) (dating : Dating) (text next : Text) : Type 0 where
  pub message : MessageValue
  pub read : IsRead variant dating text message
  pub is_printed : next ≡ printed message

-- Round 0 of the text is the text, and round n + 1 is the next round of round n.
abbrev pub IsRound : Variant → Dating → Text → ℕ → Text → Type 0
IsRound variant dating text zero u = u ≡ text
IsRound variant dating text (suc n) u = (before : Text) × IsRound variant dating text n before
    × IsNext variant dating before u

-- the text has no round n: it or a round before n has no message
abbrev pub IsMissing : Variant → Dating → Text → ℕ → Type 0
IsMissing variant dating text n = (u : Text) → IsRound variant dating text n u → ⊥

-- the next round of the text is the text itself
abbrev pub IsSettled : Variant → Dating → Text → Type 0
IsSettled variant dating text = IsNext variant dating text text

-- none of the rounds 1 to n is settled
abbrev pub NoneSettled : Variant → Dating → Text → ℕ → Type 0
NoneSettled variant dating text n = (k : ℕ) (u : Text) → k < n → IsRound variant dating text (suc k) u
    → IsNext variant dating u u → ⊥

-- this is round n of the text, and of the rounds 1 to n - 1 none is settled
pub record Reaches (variant : Variant) (dating : Dating) (text : Text) (n : ℕ) (u : Text) : Type 0 where
  pub round : IsRound variant dating text n u
  pub none : (k : ℕ) (x : Text) → suc k < n → IsRound variant dating text (suc k) x → IsNext variant dating x x → ⊥

-- this is the first settled round of the text, from round 1 on
pub record IsFirstSettled (variant : Variant) (dating : Dating) (text u : Text) : Type 0 where
  pub before : ℕ
  pub round : IsRound variant dating text (suc before) u
  pub settled : IsNext variant dating u u
  pub none_before : NoneSettled variant dating text before

-- ---- what `settle` returns

-- this is the first settled round of the text, and one of the rounds 1 to n + 1 where the text has n characters
pub record SettlesAs (variant : Variant) (dating : Dating) (text u : Text) : Type 0 where
  pub first : IsFirstSettled variant dating text u
  pub soon : first.before ≤ length text

-- `Invalid` only where one of the rounds 1 to n + 2 of a text of n characters is missing and none is settled. `Memory`
-- only to a text that has a round 1: each round is printed into memory, so it may come at any of them.
abbrev pub IsSettlingFault : Variant → Dating → Text → ParseFault → Type 0
IsSettlingFault variant dating text Invalid = IsMissing variant dating text (length text + 2)
    × ((u : Text) → IsFirstSettled variant dating text u → ⊥)
IsSettlingFault variant dating text Memory = IsUnreadable variant dating text → ⊥

-- the first settled round, or a fault
abbrev pub Settles : Variant → Dating → Text → Result (String Global) ParseFault → Type 0
Settles variant dating text result = MatchResult result (λ u. SettlesAs variant dating text (chars (string_bytes u)))
    (λ fault. IsSettlingFault variant dating text fault)

-- the result of a call that leaves its text in a place of the caller's
abbrev pub answer_in : {A : Type 0} → Result A ParseFault → String Global → Result (String Global) ParseFault
answer_in (Ok _) text = Ok text
answer_in (Err fault) text = Err fault

-- ---- the weight of a message of RFC 3164: a sum of one term for each exception

-- the term is nothing where this holds, and n where it does not
abbrev pub Costs : Type 0 → ℕ → ℕ → Type 0
Costs Holds n w = (Holds × (w ≡ 0)) ⊎ ((Holds → ⊥) × (w ≡ n))

-- how many colons the text ends in
abbrev pub end_colons : Text → ℕ
end_colons text = suffix_len (λ c. nat_eq c 58) text

-- nothing for no colon, otherwise one more than the colons
abbrev pub colons_weight : ℕ → ℕ
colons_weight zero = 0
colons_weight (suc n) = suc n + 1

-- the terms for a host: one for `-`, and that for the colons that it ends in
abbrev pub host_weight : Text → ℕ
host_weight host = (if bytes_eq host dash then 1 else 0) + colons_weight (end_colons host)

-- the term for a process: one for a name with a colon
abbrev pub process_weight : ProcId Text → ℕ
process_weight (PID n) = 0
process_weight (Name t) = if list_any (λ c. nat_eq c 58) t then 1 else 0

-- the terms for the host and the process
abbrev pub names_weight : Option Text → Option (ProcId Text) → ℕ
names_weight host process = option_map_or host_weight host 0 + option_map_or process_weight process 0

-- the term for the message part: its characters, where it begins with a list although there is no element
abbrev pub ListWeighs : DashRule → List ElementValue → Text → ℕ → Type 0
ListWeighs rule elements msg w = Costs (elements ≡ [] → BeginsNoList rule msg) (length msg) w

-- the message weighs w: one for a timestamp that its printed text does not have, and the other terms
pub record Weighs (rule : DashRule) (m : MessageValue) (w : ℕ) : Type 0 where
  pub stamp : ℕ
  pub taken : ℕ
  pub stamp_is : Costs (IfSome m.timestamp IsCanonicalStamp) 1 stamp
  pub taken_is : ListWeighs rule m.structured_data m.msg taken
  pub total : w ≡ stamp + (names_weight m.hostname m.procid + taken)
