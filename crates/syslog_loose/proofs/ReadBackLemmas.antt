-- The printed text of a message, read under `Either` or the message's own variant; that it shows no month date; and its
-- characters.
use Rattle.syslog_loose.proofs.Names.{Text, skip_leading_whitespace, drop_trailing_whitespace, printed_stamp-characters}
use Rattle.syslog_loose.proofs.Names.{ℕ, IsBoundedProtocol, is_not_whitespace, month_date_begins, printed_stamp-visible}
use Rattle.syslog_loose.proofs.Names.{MessageValue, encode_utf8_all, joined_elements, OffsetTimestamp, IsBoundedProcess}
use Rattle.syslog_loose.proofs.Names.{IncompleteDate, is_ascii_digit, AllByRecursion, decimal_digits, spaced_elements}
use Rattle.syslog_loose.proofs.Names.{Ok, encodes-chars, timestamp_text, ShowsMonthDate, digits_visible, division_front}
use Rattle.syslog_loose.proofs.Names.{Dating, ReadsProtocol, is_whitespace, process_texts, elements_text, element_texts}
use Rattle.syslog_loose.proofs.Names.{IsBounded, string_bytes, IsUnreadable, ElementValue, message_texts, optional_some}
use Rattle.syslog_loose.proofs.Names.{IsCanonical, AreInPieces, element_text, each_append, append_assoc, begins_apart}
use Rattle.syslog_loose.proofs.Names.{IsRead3164, Some, part_joined, priority_of, MatchResult, number_back, piece_front}
use Rattle.syslog_loose.proofs.Names.{dash_rule, IsRead5424, LOG_SYSLOG, HasNoQuirk, IsOnlyRead, ParseFault, param_text}
use Rattle.syslog_loose.proofs.Names.{unwrap_or, SEV_DEBUG, ℤ, nat_tests, text_list, each_front, each_after, month_date}
use Rattle.syslog_loose.proofs.Names.{Variant, DashRule, Protocol, flat_map, name_text, all_right, MonthDate, rows_step}
use Rattle.syslog_loose.proofs.Names.{each_map, all_left, tag_text, is_blank, AsksYear, priority, IsLetter, row_head}
use Rattle.syslog_loose.proofs.Names.{IsRead, RFC5424, printed, IsFixed, Answers, Invalid, decimal, trimmed, all_map}
use Rattle.syslog_loose.proofs.Names.{Either, Option, Result, String, IsUtf8, Global, InYear, Memory, negsuc, nat_eq}
use Rattle.syslog_loose.proofs.Names.{rules, ap, length, IfSome, IsPart, ProcId, nat_le, nat_lt, Begins, row_of, ◌then◌}
use Rattle.syslog_loose.proofs.Names.{◌⊎◌, refl, List, subst, IfOk, chars, ◌&&◌, ◌++◌, Bool, arith, Front, IsLow, shown}
use Rattle.syslog_loose.proofs.Names.{inl, inr, ◌≡◌, ◌∙◌, sym, ◌↔◌, Err, ◌<◌, ◌≤◌, true, None, join, Each, Name, rest}
use Rattle.syslog_loose.proofs.Names.{◌^◌, ◌∷◌, suc, pos, [], PID, Row, run}
use Rattle.syslog_loose.{proofs.SettlingLemmas.Falls.rfc3164_exact, specs.declared.variant.Variant.TheVariants.RFC3164}
use Rattle.syslog_loose.proofs.Rfc5424Lemmas.{read_completed, completed, priority_same, printed_is}
use Rattle.syslog_loose.proofs.Rfc3164Lemmas.{rfc3164_bounded, printed_3164_is, digit_range, quotes, shows_month_date}
use Rattle.syslog_loose.proofs.Rfc3164Lemmas.{to_stamp, to_stamp_det, told, printed_unlike}
use Rattle.syslog_loose.specs.Printed.{printed_3164, process_text, printed_5424}
use Rattle.syslog_loose.proofs.{CanonicalLemmas.near_completed, Rfc3164Lemmas.ReadBack.stamp_low}
use Rattle.syslog_loose.proofs.Rfc3164Lemmas.Near.{read_near, read_nearly, stamp_read}
use Rattle.syslog_loose.specs.ReadBack.{AnswersItself, FieldsAsRead, AnswersAgain}
use Rattle.syslog_loose.proofs.ReadingLemmas.{Found, value}
use Rattle.std.proofs.Math.Utf8.{scalar, scalars, low_scalar}
use Rattle.std.proofs.lemmas.Bool.{and_from, and_parts, cond_both}
use Rattle.syslog_loose.specs.OneLine.{is_no_feed, IsOneLine}
use Rattle.syslog_loose.proofs.PrintedLemmas.{priority_small, priority_front, priority_low, priority_trimmed}
use Rattle.syslog_loose.proofs.PrintedLemmas.{visible_no_blank, last_append, drop_after}
use Rattle.syslog_loose.specs.declared.message.Protocol.TheVariants as protocol
use Rattle.syslog_loose.proofs.Rfc5424Lemmas as rfc5424
use Rattle.syslog_loose.proofs.Rfc3164Lemmas as rfc3164

-- ---- the protocol, and bounds

pub read_as : (variant : Variant) (dating : Dating) (text : Text) (m : MessageValue) → IsRead variant dating text m
    → IsRead5424 text m ⊎ IsRead3164 dash_rule dating text m
read_as RFC5424 dating text m r = inl r
read_as RFC3164 dating text m r = inr r
read_as Either dating text m r = search rules

pub read_bounded : (variant : Variant) (dating : Dating) (text : Text) (m : MessageValue) → IsRead variant dating text m
    → IsBounded m
read_bounded variant dating text m r = elim (read_as variant dating text m r) [
  | inl s ↦ (let b = (read_completed dash_rule text m s).1 in record { protocol = b.protocol; procid = b.procid })
  | inr s ↦ rfc3164.rfc3164_bounded dash_rule dating text m s
]

-- ---- messages of RFC 3164 without a quirk print as texts that print again

pub printed_again : (m : MessageValue) → m.protocol ≡ protocol.RFC3164 → printed (completed m) ≡ printed m
unfolding printed_3164
printed_again m e =
    printed_3164_is (completed m) e ∙ rw (priority_same m.facility m.severity) (sym (printed_3164_is m e))

pub read_again : (rule : DashRule) (dating : Dating) (text : Text) (m : MessageValue) → IsRead3164 rule dating text m
    → HasNoQuirk rule m
    → IsCanonical rule (completed m) × IsBounded (completed m) × (printed (completed m) ≡ printed m)
read_again rule dating text m r none =
    let near = read_near rule dating text m r in
    let bounded = rfc3164_bounded rule dating text m r in (
      near_completed rule m (Some (unwrap_or m.facility LOG_SYSLOG)) (Some (unwrap_or m.severity SEV_DEBUG)) refl refl
          near none,
      record { protocol = bounded.protocol; procid = bounded.procid },
      printed_again m near.protocol,
    )

-- ---- only a canonical message is read back

module _ (dating : Dating) (m : MessageValue) (b : IsBounded m) where
  -- by whichever protocol, only a canonical message's printed text is read as the message
  read_is_canonical : (variant : Variant) → IsRead variant dating (printed m) m → IsCanonical dash_rule m
  read_is_canonical variant r = elim (read_as variant dating (printed m) m r) [
    | inl s ↦ rfc5424.read_is_canonical dash_rule s.values.1.0 m (ap (λ (x : MessageValue). x.protocol) s.means) s
    | inr s ↦ (rfc3164_exact dash_rule dating m (read_near dash_rule dating (printed m) m s).protocol b).0 s
  ]

  canonical_is_read : (variant : Variant) (p : Protocol) → m.protocol ≡ p → ReadsProtocol variant p
      → IsCanonical dash_rule m → IsRead variant dating (printed m) m
  canonical_is_read Either protocol.RFC3164 e h c = inr (printed_unlike m e, (rfc3164_exact dash_rule dating m e b).1 c)
  canonical_is_read Either (protocol.RFC5424 version) e h c = inl (rfc5424.canonical_read dash_rule version m e b c)
  canonical_is_read RFC3164 protocol.RFC3164 e h c = (rfc3164_exact dash_rule dating m e b).1 c
  canonical_is_read RFC3164 (protocol.RFC5424 version) e h c = absurd h
  canonical_is_read RFC5424 protocol.RFC3164 e h c = absurd h
  canonical_is_read RFC5424 (protocol.RFC5424 version) e h c = rfc5424.canonical_read dash_rule version m e b c

  pub printed_exact : (variant : Variant) → ReadsProtocol variant m.protocol → IsRead variant dating (printed m) m
      ↔ IsCanonical dash_rule m
  printed_exact variant h = (read_is_canonical variant, canonical_is_read variant m.protocol refl h)

  -- so the one message as which the printed text is read is the message itself exactly where that is canonical
  pub only_read_exact : (variant : Variant) (n : MessageValue) → ReadsProtocol variant m.protocol
      → IsOnlyRead variant dating (printed m) n → (n ≡ m) ↔ IsCanonical dash_rule m
  only_read_exact variant n h r =
      let exact = printed_exact variant h in ((λ e. exact.0 (rw e at r.read)), (λ c. sym (r.only m (exact.1 c))))

-- ---- no month date

-- what a text begins with that has a visible first character below all letters
abbrev pub BeginsLow : Text → Type 0
BeginsLow t = (c : ℕ) × (more : Text) × (t ≡ c ∷ more) × IsLow c × (is_not_whitespace c ≡ true)

low_more : (t q : Text) → Begins IsLow t → Each is_not_whitespace t → BeginsLow (t ++ q)
low_more [] q h visible = absurd h
low_more (c ∷ t) q h visible = (c, t ++ q, refl, h, visible.0)

digits_low : (t : Text) → 0 < length t → Each is_ascii_digit t → Begins IsLow t
digits_low [] long digits = absurd (omega arith)
digits_low (c ∷ t) long digits = (digit_range c digits.0).1

stamp_begins : (v : Option OffsetTimestamp) (q : Text) → BeginsLow (timestamp_text v ++ q)
stamp_begins None q = (45, q, refl, omega arith, refl)
stamp_begins (Some s) q = low_more (timestamp_text (Some s)) q (stamp_low s) (printed_stamp-visible s)

version_begins : (version : ℕ) (q : Text) → version < 2 ^ 32 → BeginsLow (decimal version ++ q)
version_begins version q l =
    let (long, digits, _, _, _) = number_back version 4294967295 [] (omega (arith, l)) (omega arith) tt in
    low_more (decimal version) q (digits_low (decimal version) long digits) (digits_visible (decimal version) digits)

-- no letter follows a priority and such blanks, once the text is trimmed
low_shows_none : (n : ℕ) (gap t : Text) → n ≤ 255 → Each is_blank gap → BeginsLow t → (date : MonthDate)
    → ShowsMonthDate (60 ∷ (decimal n ++ (62 ∷ (gap ++ t)))) date → ⊥
low_shows_none n gap t l blank (c, more, e, low, visible) date (p, q, division) =
    let left : Text = c ∷ drop_trailing_whitespace more in
    let kept : drop_trailing_whitespace (gap ++ t) ≡ gap ++ left =
    ap (λ (x : Text). drop_trailing_whitespace (gap ++ x)) e
    ∙ ap drop_trailing_whitespace (sym (append_assoc gap (c ∷ []) more))
    ∙ drop_after (gap ++ (c ∷ [])) more (last_append gap (c ∷ []) visible)
    ∙ append_assoc gap (c ∷ []) (drop_trailing_whitespace more) in
    let start : Front (Row to_stamp) _ left (Some n, (tt, tt)) =
    row_of to_stamp (optional_some priority (priority_front n (gap ++ left) l)
    then piece_front (run is_blank) gap left tt (blank, visible_no_blank c visible) then refl) in
    let (_, f, _) = row_head month_date (rest ∷ []) (rows_step to_stamp (month_date ∷ rest ∷ []) to_stamp_det
    {vs = (p, (tt, (date, (q, tt))))} start
    (rw (priority_trimmed n (gap ++ t), kept) at (division_front (to_stamp ++ (month_date ∷ rest ∷ [])) division))).1 in
    begins_apart {H = IsLow} {K = IsLetter} left (λ x a b. omega arith) low (subst (Begins IsLetter) (sym f.whole)
    (month_date_begins f.piece _ date f.is))

shows_none_as : (p : Protocol) (m : MessageValue) → m.protocol ≡ p → IsBoundedProtocol p → (date : MonthDate)
    → ShowsMonthDate (printed m) date → ⊥
unfolding printed_3164 printed_5424
shows_none_as protocol.RFC3164 m e l date shown =
    low_shows_none (priority_of m) (32 ∷ []) _ (priority_low m) (refl, tt) (stamp_begins m.timestamp _) date
    (rw (printed_3164_is m e) at shown)
shows_none_as (protocol.RFC5424 version) m e l date shown =
    low_shows_none (priority_of m) [] _ (priority_low m) tt (version_begins version _ l) date
    (rw (rfc5424.printed_is version m e) at shown)

-- the printed text of a message shows none, whether the message was read or not
pub printed_shows_none : (m : MessageValue) → IsBounded m → (date : MonthDate) → ShowsMonthDate (printed m) date → ⊥
printed_shows_none m b = shows_none_as m.protocol m refl b.protocol

-- so neither does that of a message that was read
pub read_shows_none : (variant : Variant) (dating : Dating) (text : Text) (m : MessageValue)
    → IsRead variant dating text m → (date : MonthDate) → ShowsMonthDate (printed m) date → ⊥
read_shows_none variant dating text m r = shows_none_as m.protocol m refl
    (read_bounded variant dating text m r).protocol

-- and it asks for no year
asks_shown : (variant : Variant) (text : Text) (date : MonthDate) → AsksYear variant text date
    → ShowsMonthDate text date
asks_shown RFC5424 text date asks = absurd asks
asks_shown variant text date asks = shows_month_date text date asks

pub printed_quiet : (variant : Variant) (dating : Dating) (text : Text) (m : MessageValue)
    → IsRead variant dating text m → (date : MonthDate) → AsksYear variant (printed m) date → ⊥
printed_quiet variant dating text m r date asks =
    read_shows_none variant dating text m r date (asks_shown variant (printed m) date asks)

-- ---- what the calls return

pub itself : (variant : Variant) (dating : Dating) (text : Text) (r : Result Found ParseFault)
    → Answers variant dating text r → AnswersItself variant text r
itself variant dating text (Ok found) a m b h e n = only_read_exact dating m b variant (value found) h (rw e at a)
itself variant dating text (Err Invalid) a m b h e n =
    (λ no. absurd no, λ c. absurd (a m (rw e ((printed_exact dating m b variant h).1 c))))
itself variant dating text (Err Memory) a m b h e n = absurd (n refl)

pub fields : (variant : Variant) (dating : Dating) (text : Text) (m : MessageValue) → IsRead variant dating text m
    → FieldsAsRead m.protocol dating text m
fields variant dating text m r = search (rules, read_as, rfc5424.read_canonical, read_nearly, stamp_read)

pub answered : {P : MessageValue → Type 0} (variant : Variant) (dating : Dating) (text : Text)
    → ((m : MessageValue) → IsRead variant dating text m → P m) → (r : Result Found ParseFault)
    → Answers variant dating text r → IfOk r (λ found. P (value found))
answered variant dating text f (Ok found) a = f (value found) a.read
answered variant dating text f (Err fault) a = tt

-- a message's printed text, where a canonical message of its protocol prints the same
read_like : (variant : Variant) (dating : Dating) (m n : MessageValue) → IsBounded n → IsCanonical dash_rule n
    → ReadsProtocol variant n.protocol → printed n ≡ printed m → IsRead variant dating (printed m) n
read_like variant dating m n b c h same = rw same at ((printed_exact dating n b variant h).1 c)

-- a fixed message's printed text is read as one that prints the same
pub fixed_again : (variant : Variant) (dating : Dating) (m : MessageValue) → IsFixed m → ReadsProtocol variant
    m.protocol → (n : MessageValue) × IsRead variant dating (printed m) n × (printed n ≡ printed m)
fixed_again variant dating m (inl (b, c)) h = (m, read_like variant dating m m b c h refl, refl)
fixed_again variant dating m (inr (inl (text, r))) h =
    let (c, b) = rfc5424.read_completed dash_rule text m r in
    let same = (rfc5424.read_again text m r).1 in
    (rfc5424.completed m, read_like variant dating m (rfc5424.completed m) b c h same, same)
fixed_again variant dating m (inr (inr (text, own, r, none))) h =
    let (c, b, same) = read_again dash_rule own text m r none in
    (rfc5424.completed m, read_like variant dating m (rfc5424.completed m) b c h same, same)

-- what `normalise` returns
abbrev Normalises : Variant → Dating → List ℕ → Result (String Global) ParseFault → Type 0
Normalises variant dating bytes r = MatchResult r (λ text. (m : MessageValue)
    × IsOnlyRead variant dating (chars bytes) m × (string_bytes text ≡ encode_utf8_all (printed m)))
    (λ fault. (fault ≡ Invalid) ↔ IsUnreadable variant dating (chars bytes))

again : (variant : Variant) (dating : Dating) (bytes : List ℕ) → IsUtf8 bytes → (r : Result (String Global) ParseFault)
    → Normalises variant dating bytes r → AnswersAgain variant (chars bytes) bytes r
again variant dating bytes u (Ok text) (found, only, written) m k h e n =
    let (other, r, same) = fixed_again variant dating m k h in
    written ∙ ap encode_utf8_all (ap printed (sym (only.only other (rw e r))) ∙ same ∙ sym e) ∙ encodes-chars bytes u
again variant dating bytes u (Err Invalid) told m k h e n =
    let (other, r, same) = fixed_again variant dating m k h in absurd (told.0 refl other (rw e r))
again variant dating bytes u (Err Memory) told m k h e n = absurd (n refl)

-- and in the year that the closure returned
pub again_in : (post : IncompleteDate → ℤ → Type 0) (variant : Variant) (dated : Option ℤ → Dating) (bytes : List ℕ)
    → IsUtf8 bytes → (r : Result (String Global) ParseFault)
    → InYear post variant (chars bytes) (λ year. Normalises variant (dated year) bytes r)
    → AnswersAgain variant (chars bytes) bytes r
again_in post variant dated bytes u r h =
    again variant (dated h.answered) bytes u r (h.holds h.answered (λ date asks. refl))

-- ---- the characters of a printed text

-- the characters of printable ASCII
abbrev pub is_ascii_print : ℕ → Bool
is_ascii_print c = nat_le 32 c && nat_lt c 127

in_print : (c : ℕ) → 32 ≤ c → c < 127 → is_ascii_print c ≡ true
in_print c l h = grind arith

-- Where the characters of a text pass a test that those of printable ASCII pass, so do those of the printed text of its
-- message.
module _ (test : ℕ → Bool) (ascii : (c : ℕ) → is_ascii_print c ≡ true → test c ≡ true) where
  abbrev Passes : Text → Type 0
  Passes text = Each test text

  number_line : (n : ℕ) → n < 2 ^ 64 → Passes (decimal n)
  number_line n h =
      each_map is_ascii_digit test (λ c d. let r = digit_range c d in ascii c (in_print c (omega arith) (omega arith)))
      (decimal n) (decimal_digits n h).1

  skip_line : (t : Text) → Passes t → Passes (skip_leading_whitespace t)
  skip_line [] h = h
  skip_line (c ∷ t) h =
      cond_both (is_whitespace c) (skip_leading_whitespace t) (c ∷ t) Passes (λ _. skip_line t h.1) (λ _. h)

  drop_line : (t : Text) → Passes t → Passes (drop_trailing_whitespace t)
  drop_line [] h = h
  drop_line (c ∷ t) h =
      cond_both (is_whitespace c && nat_eq (length (drop_trailing_whitespace t)) 0) []
      (c ∷ drop_trailing_whitespace t) Passes (λ _. tt) (λ _. (h.0, drop_line t h.1))

  part_line : (p t : Text) → Passes p → IsPart p t → Passes t
  part_line p t h (before, after, e) = each_front test t after (each_after test before (t ++ after) (subst Passes e h))

  -- ---- the parts of a printed text

  name_line : (name : Option Text) → AllByRecursion Passes (text_list name) → Passes (name_text name)
  name_line None h = (ascii 45 refl, tt)
  name_line (Some t) h = h.0

  process_line : (process : Option (ProcId Text)) → IfSome process IsBoundedProcess
      → AllByRecursion Passes (process_texts process) → Passes (process_text process)
  process_line None b h = (ascii 45 refl, tt)
  process_line (Some (PID (pos n))) b h = number_line n (omega (arith, b))
  process_line (Some (PID (negsuc n))) b h = (ascii 45 refl, number_line (suc n) (omega (arith, b)))
  process_line (Some (Name t)) b h = h.0

  tag_line : (app : Option Text) (process : Option (ProcId Text)) → IfSome process IsBoundedProcess → AllByRecursion
      Passes (text_list app) → AllByRecursion Passes (process_texts process) → Passes (tag_text app process)
  tag_line None process b h k = search ascii
  tag_line (Some a) None b h k = search (each_append test, ascii)
  tag_line (Some a) (Some p) b h k = search (each_append test, ascii, process_line (Some p) b k) depth 12

  timestamp_line : (stamp : Option OffsetTimestamp) → Passes (timestamp_text stamp)
  timestamp_line None = (ascii 45 refl, tt)
  timestamp_line (Some s) = search (rules, each_map, printed_stamp-characters)

  params_line : (ps : List (Text × Text)) → AllByRecursion Passes (flat_map (λ p. p.0 ∷ p.1 ∷ []) ps)
      → Passes (flat_map param_text ps)
  params_line [] h = tt
  params_line (p ∷ ps) h = search (each_append test, ascii, params_line ps h.1.1) depth 12

  element_line : (e : ElementValue) → AllByRecursion Passes (element_texts e) → Passes (element_text e)
  element_line e h = search (each_append test, ascii, params_line) depth 12

  joined_line : (es : List ElementValue) → AllByRecursion Passes (flat_map element_texts es)
      → Passes (joined_elements es)
  joined_line [] h = tt
  joined_line (e ∷ es) h =
      each_append test (element_text e) _ (element_line e (all_left Passes (element_texts e) _ h))
      (joined_line es (all_right Passes (element_texts e) _ h))

  elements_line : (es : List ElementValue) → AllByRecursion Passes (flat_map element_texts es)
      → Passes (elements_text es)
  elements_line [] h = (ascii 45 refl, tt)
  elements_line (e ∷ es) h = joined_line (e ∷ es) h

  spaced_line : (es : List ElementValue) → AllByRecursion Passes (flat_map element_texts es)
      → Passes (spaced_elements es)
  spaced_line [] h = tt
  spaced_line (e ∷ es) h = each_append test (joined_elements (e ∷ es)) _ (joined_line (e ∷ es) h) (ascii 32 refl, tt)

  -- ---- printed texts
  record AreLines (m : MessageValue) : Type 0 where
    host : AllByRecursion Passes (text_list m.hostname)
    app : AllByRecursion Passes (text_list m.appname)
    process : AllByRecursion Passes (process_texts m.procid)
    id : AllByRecursion Passes (text_list m.msgid)
    elements : AllByRecursion Passes (flat_map element_texts m.structured_data)
    msg : AllByRecursion Passes (m.msg ∷ [])

  -- the texts of a message that are in the pieces of a trimmed line are in that line
  are_lines : (text : Text) (ps : List Text) (m : MessageValue) → Passes text → trimmed text ≡ join ps
      → AreInPieces ps (message_texts m) → AreLines m
  are_lines text ps m h e k =
      let all : AllByRecursion Passes (message_texts m) =
      search (rules, drop_line, skip_line, all_map, part_line, part_joined) in
      search (all_left Passes, all_right Passes) depth 8

  priority_line : (m : MessageValue) → Passes (decimal (priority_of m))
  priority_line m = let small = priority_small m in number_line (priority_of m) (omega arith)

  printed_as : (p : Protocol) (m : MessageValue) → m.protocol ≡ p → IsBoundedProtocol p
      → IfSome m.procid IsBoundedProcess → AreLines m → Passes (printed m)
  unfolding printed_3164 printed_5424
  printed_as protocol.RFC3164 m e l b h = rw (printed_3164_is m e) (search (
    each_append test,
    ascii,
    priority_line m,
    timestamp_line,
    name_line,
    tag_line,
    spaced_line,
  ) depth 24)
  printed_as (protocol.RFC5424 version) m e l b h = rw (printed_is version m e) (search (
    rules,
    number_line,
    each_append,
    priority_line,
    timestamp_line,
    name_line,
    process_line,
    elements_line,
  ))

  pub printed_passes : (variant : Variant) (dating : Dating) (text : Text) (m : MessageValue)
      → IsRead variant dating text m → Passes text → Passes (printed m)
  printed_passes variant dating text m r h =
      let b = read_bounded variant dating text m r in
      let (ps, whole, each) : (ps : List Text) × (trimmed text ≡ join ps) × AreInPieces ps (message_texts m) =
      elim (read_as variant dating text m r) [
        | inl s ↦ (let q = rfc5424.quotes text m s in (q.read.division.pieces, q.read.division.whole, q.each))
        | inr s ↦ (let q = quotes dash_rule dating text m s in (q.read.division.pieces, q.read.division.whole, q.each))
      ] in
      printed_as m.protocol m refl b.protocol b.procid (are_lines text ps m h whole each)

-- ---- one line
pub printed_line : (variant : Variant) (dating : Dating) (text : Text) (m : MessageValue) → IsRead variant dating text m
    → IsOneLine text → IsOneLine (printed m)
printed_line = printed_passes is_no_feed (λ c h. grind (arith, nat_tests))

-- ---- characters, which the bytes of a text spell
scalar_print : (c : ℕ) → is_ascii_print c ≡ true → scalar c ≡ true
scalar_print c h = low_scalar c (let (low, high) = and_parts (nat_le 32 c) (nat_lt c 127) h in grind (arith, nat_tests))

each_scalar : (cs : Text) → scalars cs ≡ true → Each scalar cs
each_scalar [] h = tt
each_scalar (c ∷ cs) h = let (a, b) = and_parts (scalar c) (scalars cs) h in (a, each_scalar cs b)

scalars_each : (cs : Text) → Each scalar cs → scalars cs ≡ true
scalars_each [] h = refl
scalars_each (c ∷ cs) h = and_from (scalar c) (scalars cs) h.0 (scalars_each cs h.1)

pub printed_scalars : (variant : Variant) (dating : Dating) (text : Text) (m : MessageValue)
    → IsRead variant dating text m → scalars text ≡ true → scalars (printed m) ≡ true
printed_scalars variant dating text m r h =
    scalars_each (printed m) (printed_passes scalar scalar_print variant dating text m r (each_scalar text h))
