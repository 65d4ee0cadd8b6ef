-- A text has one front of each class of a line of Cisco's.
use Rattle.syslog_dated_forms.proofs.Names.{[], ◌&&◌, ◌++◌, ◌also◌, ◌before◌, ◌otherwise◌, ◌then◌, ◌∙◌, ◌∷◌, ◌≡◌}
use Rattle.syslog_dated_forms.proofs.Names.{address, AllDeterministic, and_parts, any_date, ap}
use Rattle.syslog_dated_forms.proofs.Names.{are_address_chars, arith, bare_word, begins_host}
use Rattle.syslog_dated_forms.proofs.Names.{begins_mnemonic, BeginsWith, cisco_forms, cisco_row, CiscoAsa, CiscoIos}
use Rattle.syslog_dated_forms.proofs.Names.{CiscoNxOs, context_row, counter_row, date_row, dell_row, drop, Each}
use Rattle.syslog_dated_forms.proofs.Names.{exactly, exactly_det, false, Finds, first, found, Front, front_of}
use Rattle.syslog_dated_forms.proofs.Names.{front_same, front_year, front_year_row, get_or, has_pair, host_det, host_of}
use Rattle.syslog_dated_forms.proofs.Names.{inl, inr, is_address_char, is_blank, IsAsa}
use Rattle.syslog_dated_forms.proofs.Names.{IsDeterministic, IsNxOs, IsOfNone, label, label_row}
use Rattle.syslog_dated_forms.proofs.Names.{length, mapped_front, mark, may_begin, message_row}
use Rattle.syslog_dated_forms.proofs.Names.{nat_tests, no_row_division, no_such_front, no_such_meaning, NoDivision}
use Rattle.syslog_dated_forms.proofs.Names.{NoFront, not, Option, optional, origin}
use Rattle.syslog_dated_forms.proofs.Names.{refl, Row, row_det, row_none_here, row_of, run}
use Rattle.syslog_dated_forms.proofs.Names.{says_once, second_front, Sent, sent_value, SentDate, Some}
use Rattle.syslog_dated_forms.proofs.Names.{start, subst, such_det, such_front}
use Rattle.syslog_dated_forms.proofs.Names.{such_that, sym, task_row, Text, true, unit, unit_row, Values, word_origin}
use Rattle.syslog_dated_forms.proofs.Names.{ℕ}
use Rattle.syslog_dated_forms.proofs.Names.{of_forms}
use Rattle.std.proofs.Common.{append_assoc}
use Rattle.std.proofs.lemmas.Bool.{not-true, or_parts}
use Rattle.std.specs.Prelude.{nat_eq}
use Rattle.syslog_dated_forms.specs.Address.{is_hex}
use Rattle.syslog_text.specs.Text.{IsHost}
use Rattle.syslog_text.proofs.PieceLemmas.Rules.{exactly_apart, or_det}
use Rattle.syslog_dated_forms.specs.Cisco.{IsDated, cisco_sent}

some_is : (s t : Text) → Some s ≡ Some t → s ≡ t
some_is s t e = cc

-- an address is its piece
pub address_is : (p q t : Text) → IsHost p q (Some t) → t ≡ p
address_is p q t (some, each, inl (no_colon, ends, is)) = is.0
address_is p q t (some, each, inr (s, follows, ends, same)) = some_is t p same

address_det : IsDeterministic address
address_det p q p' q' t t' e h h' =
    let r = host_det p q p' q' (Some t) (Some t') e h.0 h'.0 in (r.0, some_is t t' r.1)

pub origin_det : IsDeterministic origin
origin_det = search (address_det, of_forms) depth 32

pub counter_row_det : AllDeterministic counter_row
counter_row_det = search of_forms depth 32

pub label_row_det : AllDeterministic label_row
label_row_det = search (origin_det, of_forms) depth 32

pub label_det : IsDeterministic label
label_det = search (label_row_det, of_forms) depth 32

-- the character at a place of two texts that are one
pub at : (n : ℕ) {s t : Text} → s ≡ t → get_or s n 0 ≡ get_or t n 0
at n e = ap (λ (x : Text). get_or x n 0) e

-- an address has two colons in a row, so it goes past other characters but a few at the front of a text
no_pair_before : (ws : Text) (x : ℕ) (rest p q : Text) → Each (λ c. not (nat_eq c 58)) ws → is_address_char x ≡ false
    → are_address_chars p ≡ true → p ++ q ≡ ws ++ (x ∷ rest) → has_pair p ≡ false
no_pair_before ws x rest [] q w n a e = refl
no_pair_before [] x rest (c ∷ p) q w n a e = let same : c ≡ x = at 0 e in
    absurd (let here = (and_parts (is_address_char c) (are_address_chars p) a).0 in
    let bad : true ≡ false = sym here ∙ rw same n in cc)
no_pair_before (d ∷ ws) x rest (c ∷ p) q w n a e =
    let same : c ≡ d = at 0 e in
    let later = no_pair_before ws x rest p q w.1 n (and_parts (is_address_char c) (are_address_chars p) a).1
    (ap (λ (t : Text). drop 1 t) e) in
    let here : nat_eq c 58 ≡ false = rw same (not-true (nat_eq d 58) w.0) in
    rw (here, later) refl

not_begun : (t p q : Text) → may_begin t ≡ false → are_address_chars p ≡ true → t ≡ p ++ q → has_pair p ≡ false
not_begun t [] q n a e = refl
not_begun [] (c ∷ p) q n a e = absurd (omega (arith, ap length e))
not_begun (d ∷ t) (c ∷ p) q n a e =
    let same : d ≡ c = at 0 e in
    let (colon_no, more) = or_parts (nat_eq d 58) (is_hex d && may_begin t) n in
    let parts = and_parts (is_address_char c) (are_address_chars p) a in
    let hex : is_hex d ≡ true = grind (arith, nat_tests, same, colon_no, parts.0) in
    let later = not_begun t p q (rw hex at more) parts.1 (ap (λ (x : Text). drop 1 x) e) in
    let here : nat_eq c 58 ≡ false = rw same at colon_no in
    rw (here, later) refl

-- where none may begin, there is no address
pub none_begun : {t : Text} → may_begin t ≡ false → NoFront address t
none_begun {t} n p q w e (is, h) =
    let same : w ≡ p = address_is p q w is in
    let (all, pair) = and_parts (are_address_chars w) (has_pair w) h in
    let bad = not_begun t p q n (rw same at all) e in
    let f : true ≡ false = sym (rw same at pair) ∙ bad in cc

-- where there is no address, a word is
pub word_is_origin : {t q w : Text} → NoFront address t → Front bare_word t q w → BeginsWith begins_host w
    → Front origin t q w
word_is_origin n f b = mapped_front (address otherwise word_origin) Text host_of
    (second_front n (such_front bare_word (BeginsWith begins_host) f b))

-- where so many characters are no colons, and the next one is of no address, no address is
pub no_address : (ws : Text) (x : ℕ) (rest : Text) → Each (λ c. not (nat_eq c 58)) ws → is_address_char x ≡ false
    → NoFront address (ws ++ (x ∷ rest))
no_address ws x rest w n p q t e (is, h) =
    let same : t ≡ p = address_is p q t is in
    let (all, pair) = and_parts (are_address_chars t) (has_pair t) h in
    let bad = no_pair_before ws x rest p q w n (rw same at all) (sym e) in
    let f : true ≡ false = sym (rw same at pair) ∙ bad in cc

pub task_row_det : AllDeterministic task_row
task_row_det = search of_forms depth 32

mark_det : IsDeterministic mark
mark_det = or_det (exactly_det _) (exactly_det _) (exactly_apart 42
    (exactly (46 ∷ [])) (λ p q v h. (46, [], h, omega arith)))

pub front_year_row_det : AllDeterministic front_year_row
front_year_row_det = search of_forms depth 32

pub date_row_det : AllDeterministic date_row
date_row_det = search of_forms depth 32

pub dell_row_det : AllDeterministic dell_row
dell_row_det = search of_forms depth 32

pub context_row_det : AllDeterministic context_row
context_row_det = search of_forms depth 32

pub unit_row_det : AllDeterministic unit_row
unit_row_det = search of_forms depth 32

unit_det : IsDeterministic unit
unit_det p q p' q' v v' e h h' = row_det unit_row unit_row_det p q p' q' v v' e h.0 h'.0

pub unit_front : {t q : Text} {v : Values unit_row} → Front (Row unit_row) t q v → BeginsWith begins_mnemonic q
    → Front unit t q v
unit_front f begins = front_of f.piece f.whole (f.is, begins)

pub no_unit : {t : Text} → NoFront (Row unit_row) t → NoFront unit t
no_unit n p q v e h = n p q v e h.0

-- where something else follows
pub not_unit : {t q : Text} {v : Values unit_row} → Front (Row unit_row) t q v → (BeginsWith begins_mnemonic q → ⊥)
    → NoFront unit t
not_unit f n p q v e h = n (subst (λ (x : Text). BeginsWith begins_mnemonic x)
    (front_same (Row unit_row) (row_det unit_row unit_row_det) (front_of p e h.0) f).0 h.1)

pub message_row_det : AllDeterministic message_row
message_row_det = search of_forms depth 32

pub cisco_row_det : AllDeterministic cisco_row
cisco_row_det = search (mark_det, unit_det, origin_det, label_det, date_row_det, of_forms) depth 60

pub asa_row_det : AllDeterministic (such_that (Row cisco_row) IsAsa ∷ [])
asa_row_det = such_det (Row cisco_row) IsAsa (row_det cisco_row cisco_row_det) also tt

pub nx_os_row_det : AllDeterministic (such_that (Row cisco_row) IsNxOs ∷ [])
nx_os_row_det = such_det (Row cisco_row) IsNxOs (row_det cisco_row cisco_row_det) also tt

-- ---- the forms of lines with a date: by whether such a line is there, and of which system it is

module _ {t : Text} (none : NoFront (Row cisco_row) t) where
  pub none_cisco : IsOfNone cisco_forms t
  none_cisco = (
    no_row_division (such_that (Row cisco_row) IsAsa ∷ [])
        (row_none_here (such_that (Row cisco_row) IsAsa) [] (no_such_front (Row cisco_row) IsAsa none)),
    (
      no_row_division (such_that (Row cisco_row) IsNxOs ∷ [])
          (row_none_here (such_that (Row cisco_row) IsNxOs) [] (no_such_front (Row cisco_row) IsNxOs none)),
      (no_row_division cisco_row none, tt),
    ),
  )

module _ {t : Text} {vs : Values cisco_row} (f : Front (Row cisco_row) t [] vs) (sent : Sent)
    (e : sent_value sent ≡ cisco_sent vs) where
  not_such : (P : Values cisco_row → Type 0) → (P vs → ⊥) → NoDivision (such_that (Row cisco_row) P ∷ []) t
  not_such P n = no_row_division (such_that (Row cisco_row) P ∷ []) (row_none_here (such_that (Row cisco_row) P) []
      (no_such_meaning (Row cisco_row) P (row_det cisco_row cisco_row_det) f n))

  such_front_row : (P : Values cisco_row → Type 0) → P vs → Front (Row (such_that (Row cisco_row) P ∷ [])) t [] (vs, tt)
  such_front_row P is = row_of (such_that (Row cisco_row) P ∷ []) (such_front (Row cisco_row) P f is then refl)

  pub in_asa : IsAsa vs → Finds cisco_forms t (Some (CiscoAsa, sent))
  in_asa is = found cisco_forms (first sent (says_once CiscoAsa (such_that (Row cisco_row) IsAsa ∷ [])
      (λ v. cisco_sent v.0) asa_row_det (such_front_row IsAsa is) e))

  pub in_nx_os : (IsAsa vs → ⊥) → IsNxOs vs → Finds cisco_forms t (Some (CiscoNxOs, sent))
  in_nx_os no_asa is = found cisco_forms (not_such IsAsa no_asa before first sent (says_once CiscoNxOs
      (such_that (Row cisco_row) IsNxOs ∷ []) (λ v. cisco_sent v.0) nx_os_row_det (such_front_row IsNxOs is) e))

  pub in_ios : (IsAsa vs → ⊥) → (IsNxOs vs → ⊥) → Finds cisco_forms t (Some (CiscoIos, sent))
  in_ios no_asa no_nx_os = found cisco_forms (not_such IsAsa no_asa before not_such IsNxOs no_nx_os before
      first sent (says_once CiscoIos cisco_row cisco_sent cisco_row_det f e))

-- ---- a line whose date was read already

-- where what comes before the date leaves as much of the text as the blanks before it
pub dated_here : {t u s a r : Text} {host : Option Text} {y : Option ℕ} {date : SentDate} → Front (run is_blank) t u tt
    → Front any_date u r date → Front start t s host → Front (optional front_year) s a y
    → ((p q : Text) → p ++ a ≡ q ++ u → a ≡ u) → IsDated t host y date r
dated_here {u = u} {s = s} {a = a} {r = r} {date = date} gap d f g one =
    let whole : (f.piece ++ g.piece) ++ a ≡ gap.piece ++ u =
    append_assoc f.piece g.piece a ∙ ap (λ (x : Text). f.piece ++ x) (sym g.whole) ∙ sym f.whole ∙ gap.whole in
    let same = one (f.piece ++ g.piece) gap.piece whole in
    record {
      started = s;
      at_date = a;
      front = f;
      year = g;
      dated = subst (λ (x : Text). Front any_date x r date) (sym same) d;
    }
