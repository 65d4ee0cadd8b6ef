-- Timestamps: converted, printed, in the grammar, and read back.
use Rattle.syslog_strict.proofs.Words.{cases_Bool, ◌≡◌, ℕ, ℤ, pos, ◌+◌, ◌*◌, ◌%◌, true, false, Option, Some, None, refl}
use Rattle.syslog_strict.proofs.Words.{sym, ap, ◌∙◌, arith, ◌+ℤ◌, nat_eq, IfSome, List, ◌++◌, MatchOption, [], ◌∷◌}
use Rattle.syslog_strict.proofs.Words.{append_assoc, inl, inr, negsuc, suc, ◌/◌, ◌<◌, ◌≤◌, subst, unsigned_abs}
use Rattle.syslog_strict.proofs.Words.{nat_tests, chars-append, chars-IsAscii, IsAscii-cons, IsAscii-nil, decimal}
use Rattle.syslog_strict.proofs.Words.{chars, IsAscii, IsUtf8, is_ascii_digit, option_and_then, signed_arith}
use Rattle.syslog_strict.proofs.Words.{int_rem_euclid-parts, Text, Each, timestamp_text, IsCivilDate, OffsetTimestamp}
use Rattle.syslog_strict.proofs.Words.{nanos_of_seconds, pad2, pad4, front_text, converted_stamp, cut_stamp, has_text}
use Rattle.syslog_strict.proofs.Words.{in_utc, micros, is_four_digits, Ends}
use Rattle.syslog_strict.proofs.TextLemmas.{one}
use Rattle.syslog_strict.specs.Grammar.{IsDate, date_row, date_time, partial_time, sign, time_hour, time_minute}
use Rattle.syslog_strict.specs.Grammar.{time_numoffset, time_offset, time_secfrac, timestamp}
use Rattle.syslog_text.specs.{Bodies.Looks.is_dot, Pieces.Rules.short_run, Text.Digits.pad3}
use Rattle.syslog_text.specs.Pieces.Class.{Class, Front, Row, after, exactly, optional}
use Rattle.syslog_pieces.specs.{Front.clock_text, Front.front_text as printed_front, Pri.priority_text}
use Rattle.syslog_pieces.specs.{Timestamp.clock_value, Timestamp.stamp_seen, Timestamp.Canonical.IsCanonicalStamp}
use Rattle.syslog_pieces.specs.{Timestamp.Canonical.own_year, Timestamp.Fields.AreCivil, Timestamp.Rfc3339.pair}
use Rattle.syslog_pieces.specs.{Timestamp.Rfc3339.year as year_class, declared.timestamp.clock.ClockStamp.ClockStamp}
use Rattle.syslog_pieces.specs.{declared.timestamp.fields.CivilFields.CivilFields}
use Rattle.syslog_pieces.specs.Timestamp.Printed.{printed_stamp, civil_fields, date_time_text, fraction_text}
use Rattle.syslog_pieces.specs.Timestamp.Printed.{offset_text, place_fields}
use Rattle.syslog_text.proofs.PieceLemmas.Class.{◌then◌, front_of, no_spaced_space, optional_none, piece_front, row_of}
use Rattle.syslog_text.proofs.PieceLemmas.Class.{each_append}
use Rattle.syslog_text.proofs.{PieceLemmas.Rules.second_front, PieceLemmas.Rules.such_front}
use Rattle.syslog_text.proofs.{TextLemmas.Words.decimal_ascii}
use Rattle.std.proofs.Common.{length, ◌-ℤ◌, ◌*ℤ◌}
use Rattle.jiff_core.proofs.CalendarLemmas.{days_in_month_bounds}
use Rattle.std.proofs.{lemmas.Bool.and_parts, lemmas.Bool.Decides.eqb_tells, lemmas.Str.IsAscii-append}
use Rattle.syslog_pieces.proofs.{TimestampLemmas.Civil.civil_fields_exist, TimestampLemmas.Civil.in_range-at_offset}
use Rattle.syslog_pieces.proofs.TimestampLemmas.Civil.{from_start}
use Rattle.syslog_pieces.proofs.{TimestampLemmas.Digits.each_ascii, TimestampLemmas.Rfc3339.printed_stamp-characters}
use Rattle.jiff_core.specs.Calendar.{days_from_civil}

-- ---- timestamps that are cut, and their texts

-- an instant of whole microseconds
whole_micros : (days offset : ℤ) (seconds nano : ℕ) → nano % 1_000 ≡ 0
    → micros (days *ℤ pos 86_400_000_000_000 +ℤ pos (seconds * 1_000_000_000 + nano) -ℤ offset *ℤ pos 1_000_000_000)
    ≡ days *ℤ pos 86_400_000_000_000 +ℤ pos (seconds * 1_000_000_000 + nano) -ℤ offset *ℤ pos 1_000_000_000
whole_micros days offset seconds nano h =
    let n = days *ℤ pos 86_400_000_000_000 +ℤ pos (seconds * 1_000_000_000 + nano) -ℤ offset *ℤ pos 1_000_000_000 in
    let parts = int_rem_euclid-parts n 1_000 (omega arith) in
    omega (arith, signed_arith, parts)

pub clock_micros : (c : ClockStamp) → c.fields.nanosecond % 1_000 ≡ 0
    → micros (clock_value c).instant.nanosecond ≡ (clock_value c).instant.nanosecond
clock_micros c h = whole_micros (days_from_civil c.fields.year c.fields.month c.fields.day) c.offset.seconds
    (c.fields.hour * 3600 + c.fields.minute * 60 + c.fields.second) c.fields.nanosecond h

pub has_micros : (clock : Option ClockStamp) (c : ClockStamp) → clock ≡ Some c
    → nat_eq (c.fields.nanosecond % 1_000) 0 ≡ true
    → IfSome (stamp_seen clock) (λ s. micros s.instant.nanosecond ≡ s.instant.nanosecond)
has_micros clock c e h = rw e (clock_micros c (grind (arith, nat_tests)))

-- ---- the choice of the conversion

pub converted_own : (s : OffsetTimestamp) → has_text (cut_stamp s) ≡ true → converted_stamp s ≡ Some (cut_stamp s)
converted_own s h = rw h refl

pub converted_utc : (s : OffsetTimestamp) → has_text (cut_stamp s) ≡ false → has_text (in_utc (cut_stamp s)) ≡ true
    → converted_stamp s ≡ Some (in_utc (cut_stamp s))
converted_utc s h k = rw (h, k) refl

pub converted_none : (s : OffsetTimestamp) → has_text (cut_stamp s) ≡ false → has_text (in_utc (cut_stamp s)) ≡ false
    → converted_stamp s ≡ None
converted_none s h k = rw (h, k) refl

-- what was cut at the offset of the timestamp, or in UTC
pub utc_told : (s : OffsetTimestamp) (r : Option OffsetTimestamp) → has_text (cut_stamp s) ≡ false
    → MatchOption r (has_text (in_utc (cut_stamp s)) ≡ false) (λ t. (has_text (in_utc (cut_stamp s)) ≡ true)
    × (timestamp_text r ≡ timestamp_text (Some (in_utc (cut_stamp s)))))
    → timestamp_text r ≡ timestamp_text (converted_stamp s)
utc_told s None h told = ap timestamp_text (sym (converted_none s h told))
utc_told s (Some t) h told = told.1 ∙ ap timestamp_text (sym (converted_utc s h told.0))

-- ---- characters

pub stamp_chars : (s : OffsetTimestamp) → chars (printed_stamp s.instant.nanosecond s.offset.seconds)
    ≡ printed_stamp s.instant.nanosecond s.offset.seconds
stamp_chars s = chars-IsAscii _ (each_ascii _
    (printed_stamp-characters s.instant.nanosecond s.offset.seconds s.instant.in_range s.offset.in_range))

pub written : (old now bytes piece : List ℕ) → IsUtf8 old → now ≡ old ++ bytes → chars bytes ≡ piece
    → chars now ≡ chars old ++ piece
written old now bytes piece u e f = ap chars e ∙ chars-append old bytes u ∙ ap (λ (x : List ℕ). chars old ++ x) f

-- ---- the front

clock_ascii : (c : Option ClockStamp) → IsAscii (clock_text c)
clock_ascii None = IsAscii-cons 45 [] (omega arith) IsAscii-nil
clock_ascii (Some c) =
    let s = clock_value c in
    each_ascii _ (printed_stamp-characters s.instant.nanosecond s.offset.seconds s.instant.in_range s.offset.in_range)

pub printed_front_ascii : (priority version : ℕ) (c : Option ClockStamp)
    → IsAscii (printed_front priority (Some version) c)
printed_front_ascii priority version c =
    IsAscii-append (priority_text priority) _
    (IsAscii-cons 60 _ (omega arith) (IsAscii-append (decimal priority) (62 ∷ []) (decimal_ascii priority)
    (IsAscii-cons 62 [] (omega arith) IsAscii-nil)))
    (IsAscii-append (decimal version) (32 ∷ clock_text c) (decimal_ascii version)
    (IsAscii-cons 32 (clock_text c) (omega arith) (clock_ascii c)))

pub clock_shown : (c : Option ClockStamp) → clock_text c ≡ timestamp_text (stamp_seen c)
clock_shown None = refl
clock_shown (Some c) = refl

pub front_joined : (priority : ℕ) (stamp : Text) → (60 ∷ (decimal priority ++ (62 ∷ []))) ++ (decimal 1 ++ (32 ∷ stamp))
    ≡ front_text priority stamp
front_joined priority stamp = simp append_assoc (rw one refl)

-- the bytes of a printed front, in characters
pub front_chars : (bytes : List ℕ) (priority : ℕ) (c : Option ClockStamp) (stamp : Text)
    → bytes ≡ printed_front priority (Some 1) c → timestamp_text (stamp_seen c) ≡ stamp
    → chars bytes ≡ front_text priority stamp
front_chars bytes priority c stamp e f =
    ap chars e ∙ chars-IsAscii _ (printed_front_ascii priority 1 c) ∙ front_joined priority (clock_text c)
    ∙ ap (front_text priority) (clock_shown c ∙ f)

pub priority_chars : (priority : ℕ) → chars (60 ∷ (decimal priority ++ (62 ∷ 49 ∷ 32 ∷ [])))
    ≡ 60 ∷ (decimal priority ++ (62 ∷ 49 ∷ 32 ∷ []))
priority_chars priority = chars-IsAscii _
    (IsAscii-cons 60 _ (omega arith) (IsAscii-append (decimal priority) (62 ∷ 49 ∷ 32 ∷ []) (decimal_ascii priority)
    (IsAscii-cons 62 (49 ∷ 32 ∷ []) (omega arith) (IsAscii-cons 49 (32 ∷ []) (omega arith)
    (IsAscii-cons 32 [] (omega arith) IsAscii-nil)))))

-- ---- what the test of a timestamp says

four_digits : (y : ℤ) → is_four_digits y ≡ true → (year : ℕ) × (y ≡ pos year) × (year ≤ 9999)
four_digits (pos n) h = (n, refl, grind (arith, nat_tests))
four_digits (negsuc n) h = cc

pub text_canonical : (s : OffsetTimestamp) → has_text s ≡ true → IsCanonicalStamp s
text_canonical s h =
    let (both, day) = and_parts _ _ h in
    let (year, minutes) = and_parts _ _ both in
    let (y, is, small) = four_digits (own_year s) year in
    record {
      year_from = omega (arith, signed_arith, is);
      year_to = omega (arith, signed_arith, is, small);
      minutes = grind (arith, nat_tests);
      day = grind (arith, nat_tests);
    }

-- ---- the pieces of its text

three_digits : (n : ℕ) → n < 1_000 → Each is_ascii_digit (pad3 n)
three_digits n h = (grind (arith, nat_tests), (grind (arith, nat_tests), (grind (arith, nat_tests), tt)))

-- a fraction, before what is neither a digit nor a dot
secfrac : (n : ℕ) (q : Text) → n < 1_000_000_000 → n % 1_000 ≡ 0 → Ends is_ascii_digit q → Ends is_dot q
    → (v : Option (Unit {0})) × Front (optional time_secfrac) (fraction_text n ++ q) q v
unfolding fraction_text
secfrac n q small whole ends other = elim (eqb_tells n 0) [
  | inl none ↦ rw none.0 (
    None,
    optional_none time_secfrac (no_spaced_space (short_run is_ascii_digit 6) (λ p r v e h.
        no_dot r q (rw h at e) other)),
  )
  | inr some ↦ elim (eqb_tells (n % 1_000_000) 0) [
    | inl three ↦ rw (some.0, three.0) (decimals (pad3 (n / 1_000_000)) (omega arith) (omega arith)
        (three_digits (n / 1_000_000) (omega arith)))
    | inr more ↦ rw (some.0, more.0, whole) (decimals (pad3 (n / 1_000_000) ++ pad3 (n / 1_000 % 1_000)) (omega arith)
        (omega arith) (each_append is_ascii_digit (pad3 (n / 1_000_000)) (pad3 (n / 1_000 % 1_000))
        (three_digits (n / 1_000_000) (omega arith)) (three_digits (n / 1_000 % 1_000) (omega arith))))
  ]
]
  where
    no_dot : (t q : Text) → q ≡ 46 ∷ t → Ends is_dot q → ⊥
    no_dot t q e h = let k = rw e at h in cc

    decimals : (ds : Text) → 0 < length ds → length ds ≤ 6 → Each is_ascii_digit ds
        → (v : Option (Unit {0})) × Front (optional time_secfrac) (46 ∷ (ds ++ q)) q v
    decimals ds some few each = (Some tt, front_of (46 ∷ ds) refl (ds, refl, (some, few, each, ends)))

-- a text is such a piece, before a space
abbrev IsPiece : Class → Text → Type 0
IsPiece C t = (q : Text) → (v : C.Value) × Front C (t ++ (32 ∷ q)) (32 ∷ q) v

minute_front : (n : ℕ) (q : Text) → n < 60 → Front (after 58 time_minute) (58 ∷ pad2 n ++ q) q n
minute_front n q small = piece_front (after 58 time_minute) (58 ∷ pad2 n) q n (pad2 n, refl, (refl, small))

signed : (s : sign.Value) (c m : ℕ) → ((q : Text) → Front sign (c ∷ q) q s) → m < 1_440
    → IsPiece time_offset (c ∷ pad2 (m / 60) ++ 58 ∷ pad2 (m % 60))
signed s c m is small q =
    let f = row_of time_numoffset (is _ then piece_front time_hour (pad2 (m / 60)) _ (m / 60) (refl, omega arith)
    then minute_front (m % 60) (32 ∷ q) (omega arith) then refl) in
    (_, second_front f)

time_zone : (o : ℤ) → unsigned_abs o % 60 ≡ 0 → unsigned_abs o < 86_400 → IsPiece time_offset (offset_text o)
unfolding offset_text
time_zone (pos n) whole small =
    signed (inl tt) 43 ((n + 30) / 60) (λ q. piece_front sign (43 ∷ []) q (inl tt) refl) (omega arith)
time_zone (negsuc n) whole small =
    signed (inr tt) 45 ((suc n + 30) / 60) (λ q. piece_front sign (45 ∷ []) q (inr tt) refl) (omega arith)

zone_ends : (o : ℤ) (q : Text) → Ends is_ascii_digit (offset_text o ++ q) × Ends is_dot (offset_text o ++ q)
unfolding offset_text
zone_ends (pos n) q = (refl, refl)
zone_ends (negsuc n) q = (refl, refl)

-- date and time in a year from 0 on, and more
text-shape : (f : CivilFields) (y : ℕ) (fraction zone q : Text) → f.year ≡ pos y
    → (date_time_text f ++ (fraction ++ zone)) ++ q ≡ pad4 y
    ++ (45 ∷ pad2 f.month ++ (45 ∷ pad2 f.day ++ (84 ∷ pad2 f.hour
    ++ (58 ∷ pad2 f.minute ++ (58 ∷ pad2 f.second ++ (fraction ++ (zone ++ q)))))))
unfolding date_time_text
text-shape f y fraction zone q e = rw e (simp append_assoc)

-- fields as they print
fields_is : (f : CivilFields) (o : ℤ) (y : ℕ) → f.year ≡ pos y → AreCivil f → f.nanosecond % 1_000 ≡ 0
    → unsigned_abs o % 60 ≡ 0 → unsigned_abs o < 86_400
    → IsPiece timestamp (date_time_text f ++ (fraction_text f.nanosecond ++ offset_text o))
fields_is f o y year civil whole minutes day q =
    let date = subst (λ (x : ℤ). IsCivilDate x f.month f.day) year civil.date in
    let days = days_in_month_bounds (pos y) f.month in
    let ends = zone_ends o (32 ∷ q) in
    let dated = such_front (Row date_row) IsDate (row_of date_row (
    piece_front year_class (pad4 y) _ y (refl, omega (arith, signed_arith, date.0))
    then piece_front (after 45 (pair 100)) (45 ∷ pad2 f.month) _ f.month
    (pad2 f.month, refl, (refl, omega (arith, date.1)))
    then piece_front (after 45 (pair 100)) (45 ∷ pad2 f.day) _ f.day
    (pad2 f.day, refl, (refl, omega (arith, date.2, days)))
    then refl)) date in
    let timed = row_of partial_time (piece_front time_hour (pad2 f.hour) _ f.hour (refl, civil.hour_in)
    then minute_front f.minute _ civil.minute_in then minute_front f.second _ civil.second_in
    then (secfrac f.nanosecond (offset_text o ++ (32 ∷ q)) civil.nanosecond_in whole ends.0 ends.1).1 then refl) in
    let letter = piece_front (exactly (84 ∷ [])) (84 ∷ []) _ tt refl in
    subst (λ (x : Text). (v : timestamp.Value) × Front timestamp x (32 ∷ q) v)
    (sym (text-shape f y (fraction_text f.nanosecond) (offset_text o) (32 ∷ q) year))
    (_, second_front (row_of date_time (dated then letter then timed then (time_zone o minutes day q).1 then refl)))

-- ---- whole microseconds

-- what a clock shows of an instant of whole microseconds
whole_fields : (n o : ℤ) → (civil_fields (micros n +ℤ nanos_of_seconds o)).nanosecond % 1_000 ≡ 0
unfolding civil_fields place_fields
whole_fields n o =
    let cut = int_rem_euclid-parts n 1_000 (omega arith) in
    let shown = int_rem_euclid-parts (micros n +ℤ nanos_of_seconds o) 86_400_000_000_000 (omega arith) in
    omega (arith, signed_arith, cut, shown)

pub cut_text : (s : OffsetTimestamp) (n : ℤ) → s.instant.nanosecond ≡ micros n → has_text s ≡ true
    → IsPiece timestamp (printed_stamp s.instant.nanosecond s.offset.seconds)
unfolding printed_stamp
cut_text s n is h =
    let canonical = text_canonical s h in
    let o = s.offset.seconds in
    let fields = civil_fields_exist _ (in_range-at_offset s.instant.nanosecond o s.instant.in_range
    s.offset.in_range) in
    fields_is _ o (unsigned_abs (own_year s)) (sym (from_start (own_year s) canonical.year_from)) fields.0
    (subst (λ (x : ℤ). (civil_fields (x +ℤ nanos_of_seconds o)).nanosecond % 1_000 ≡ 0)
    (sym is) (whole_fields n o))
    canonical.minutes canonical.day

-- ---- converted timestamps

-- what holds of each choice holds of the one that is taken
pub by_choice : (P : Option OffsetTimestamp → Type 0) (s : OffsetTimestamp)
    → (has_text (cut_stamp s) ≡ true → P (Some (cut_stamp s)))
    → (has_text (in_utc (cut_stamp s)) ≡ true → P (Some (in_utc (cut_stamp s)))) → P None → P (converted_stamp s)
by_choice P s own utc none = elim (cases_Bool (has_text (cut_stamp s))) [
  | inl h ↦ rw h (own h)
  | inr h ↦ elim (cases_Bool (has_text (in_utc (cut_stamp s)))) [ inl k ↦ rw (h, k) (utc k) | inr k ↦ rw (h, k) none ]
]

pub stamp_is : (v : Option OffsetTimestamp) → IsPiece timestamp (timestamp_text (option_and_then converted_stamp v))
stamp_is None = λ q. (inl tt, piece_front timestamp (45 ∷ []) (32 ∷ q) (inl tt) refl)
stamp_is (Some s) = by_choice (λ v. IsPiece timestamp (timestamp_text v)) s
    (cut_text (cut_stamp s) s.instant.nanosecond refl)
    (cut_text (in_utc (cut_stamp s)) s.instant.nanosecond
    refl) (λ q. (inl tt, piece_front timestamp (45 ∷ []) (32 ∷ q) (inl tt) refl))

pub stamp_back : (v : Option OffsetTimestamp) → IfSome (option_and_then converted_stamp v) IsCanonicalStamp
stamp_back None = tt
stamp_back (Some s) = by_choice (λ v. IfSome v IsCanonicalStamp) s (text_canonical (cut_stamp s))
    (text_canonical (in_utc (cut_stamp s))) tt
