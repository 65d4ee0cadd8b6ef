-- The priority, and its two parts.
use Rattle.syslog_pieces.proofs.Names.{◌≡◌, ◌≤◌, ◌<◌, ◌/◌, ◌%◌, ℕ, Bool, true, false, nat_eq, List, [], ◌∷◌, Option}
use Rattle.syslog_pieces.proofs.Names.{Some, None, MatchOption, refl, sym, ap, ◌∙◌, arith, slice_get, agree_below}
use Rattle.syslog_pieces.proofs.Names.{agree_below_at, eqb-true, Text, Front, NoFront, IsDeterministic, Row, Values}
use Rattle.syslog_pieces.proofs.Names.{number, priority, priority_row, AllDeterministic, exactly_det, row_det, no_row}
use Rattle.std.proofs.lemmas.Option.{slice_get_past}
use Rattle.syslog_pieces.specs.Pri.{facility_number, severity_number, facilities, severities, facility_of, severity_of}
use Rattle.syslog_pieces.specs.Pri.{composed}
use Rattle.syslog_pieces.specs.declared.pri.SyslogFacility.{SyslogFacility}
use Rattle.syslog_pieces.specs.declared.pri.SyslogSeverity.{SyslogSeverity}
use Rattle.syslog_text.proofs.PieceLemmas.Class.{Fails}
use Rattle.syslog_text.proofs.TextLemmas.Words.{one_digit, two_digits, three_digits, number_det}

pub priority_row_det : AllDeterministic priority_row
priority_row_det = (exactly_det (60 ∷ []), (number_det 255, (exactly_det (62 ∷ []), tt)))

pub priority_det : IsDeterministic priority
priority_det p q p' q' n n' e h h' =
    let r = row_det priority_row priority_row_det p q p' q' (tt, (n, (tt, tt))) (tt, (n', (tt, tt))) e h h' in
    let t = r.1 in (r.0, ap (λ (x : Values priority_row). x.1.0) t)

pub as_priority : {text q : Text} {n : ℕ} → Front (Row priority_row) text q (tt, (n, (tt, tt)))
    → Front priority text q n
as_priority f = record { piece = f.piece; whole = f.whole; is = f.is }

-- no priority begins a text where a piece of one is not there
pub no_priority : {text : Text} → Fails priority_row text → NoFront priority text
no_priority f p q v e h = no_row priority_row priority_row_det f p q (tt, (v, (tt, tt))) e h

-- ---- each facility, and each severity, is at the place of its number
facility_placed : (f : SyslogFacility) → slice_get facilities (facility_number f) ≡ Some f
facility_placed f = grind arith

severity_placed : (s : SyslogSeverity) → slice_get severities (severity_number s) ≡ Some s
severity_placed s = grind arith

pub facility_told : (n : ℕ) (r : Option SyslogFacility) → MatchOption r (24 ≤ n) (λ f. facility_number f ≡ n)
    → r ≡ slice_get facilities n
facility_told n None h = sym (slice_get_past facilities n h)
facility_told n (Some f) h = sym (ap (slice_get facilities) (sym h) ∙ facility_placed f)

-- ---- a number below the list's length is that of the value at its place
module _ {F : Type 0} (number : F → ℕ) (fs : List F) where
  abbrev is_placed : Option F → ℕ → Bool
  is_placed None n = false
  is_placed (Some f) n = nat_eq (number f) n

  placed : (o : Option F) (n : ℕ) → is_placed o n ≡ true → (f : F) × (o ≡ Some f) × (number f ≡ n)
  placed None n h = cc
  placed (Some f) n h = (f, refl, eqb-true (number f) n h)

  numbered : (k n : ℕ) → agree_below (λ i. is_placed (slice_get fs i) i) (λ i. true) k ≡ true → n < k
      → (f : F) × (slice_get fs n ≡ Some f) × (number f ≡ n)
  numbered k n h l = placed (slice_get fs n) n (agree_below_at (λ i. is_placed (slice_get fs i) i) (λ i. true) k n h l)

pub priority_composed : (pri : ℕ) → pri < 192 → (f : SyslogFacility) × (s : SyslogSeverity)
    × (facility_of pri ≡ Some f) × (severity_of pri ≡ Some s) × (composed f s ≡ pri)
priority_composed pri h =
    let (f, there, number) = numbered facility_number facilities 24 (pri / 8) refl (omega arith) in
    let (s, told, left) = numbered severity_number severities 8 (pri % 8) refl (omega arith) in
    (f, s, there, told, omega arith)

-- and each priority has a severity
pub severity_there : (pri : ℕ) → (s : SyslogSeverity) × (severity_of pri ≡ Some s)
severity_there pri =
    let (s, told, left) = numbered severity_number severities 8 (pri % 8) refl (omega arith) in (s, told)

-- ---- and the parts of a composed priority are those that it is composed of
pub facility_low : (f : SyslogFacility) → facility_number f < 24
facility_low f = grind arith

pub severity_low : (s : SyslogSeverity) → severity_number s < 8
severity_low s = grind arith

pub facility_composed : (f : SyslogFacility) (s : SyslogSeverity) → facility_of (composed f s) ≡ Some f
facility_composed f s = let low = severity_low s in let e : composed f s / 8 ≡ facility_number f = omega arith in
    ap (slice_get facilities) e ∙ facility_placed f

pub severity_composed : (f : SyslogFacility) (s : SyslogSeverity) → severity_of (composed f s) ≡ Some s
severity_composed f s = let low = severity_low s in let e : composed f s % 8 ≡ severity_number s = omega arith in
    ap (slice_get severities) e ∙ severity_placed s

-- ---- what is printed

-- what the printer of a priority rests on
pub ruleset decimals = (one_digit, two_digits, three_digits)
