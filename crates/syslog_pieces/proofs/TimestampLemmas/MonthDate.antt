-- Dates with the name of a month, their timestamps in a zone, and the timestamps of RFC 3164.
use Rattle.syslog_pieces.proofs.Names.{AllDeterministic, nanos_of_seconds, AmbiguousOffset, OffsetTimestamp, either_det}
use Rattle.syslog_pieces.proofs.Names.{IsDeterministic, rows_none_later, agree_below_at, is_ascii_digit, rows_none_here}
use Rattle.syslog_pieces.proofs.Names.{IsStampOfClock, same_datetime, rfc3164_stamp, IsAscii-cons, nat_eq}
use Rattle.syslog_pieces.proofs.Names.{mapped_front, begins_apart, common_steps, IsMonthStamp, header_stamp, first_kind}
use Rattle.syslog_pieces.proofs.Names.{lowercase_is, begins_with, begins_more, second_kind, MatchOption, ℕ}
use Rattle.syslog_pieces.proofs.Names.{Unambiguous, CivilFields, no_front_no, row_pieces, month_date, subst}
use Rattle.syslog_pieces.proofs.Names.{ClockStamp, front_same, fields_of, unwrap_or, IsStampAt, slice_get, nat_tests, ℤ}
use Rattle.syslog_pieces.proofs.Names.{clock_row, MonthDate, rest_same, no_mapped, rows_join, no_either, rows_step, ◌≡◌}
use Rattle.syslog_pieces.proofs.Names.{year_row, some_run, is_blank, run_same, row_head, DateTime, TimeZone}
use Rattle.syslog_pieces.proofs.Names.{IsAnswer, IsAscii, NoFront, day_row, IsAlone, get_or, length}
use Rattle.syslog_pieces.proofs.Names.{Option, Begins, Values, Offset, Dating, mapped, arith, Front, month, ◌-◌}
use Rattle.syslog_pieces.proofs.Names.{Class, Apart, drop, Some, None, refl, Text, ◌-ℤ◌, Fold, Bool, true, List}
use Rattle.syslog_pieces.proofs.Names.{◌++◌, take, ◌<◌, ◌≤◌, ◌∷◌, sym, ◌∙◌, map, inl, inr, Row, pos, Gap, ◌+◌, [], ap}
use Rattle.std.specs.Char.{to_ascii_lowercase}
use Rattle.std.proofs.lemmas.Option.{slice_get_within}
use Rattle.jiff.specs.Types.{UTC, Unknown, Fixed as FixedZone}
use Rattle.jiff.specs.Words.{offset_at, ambiguous_at, IsFixed}
use Rattle.jiff_tz.specs.Zone.{utc_offset}
use Rattle.syslog_pieces.specs.Bodies.MonthReading.{IsNamed, small_month, showing_row}
use Rattle.syslog_pieces.specs.Timestamp.MonthDate.{month_names, IsMonthName, short_number, yearless_row, yearless_of}
use Rattle.syslog_pieces.specs.Timestamp.MonthDate.{yearless_date, dated_row, dated_of}
use Rattle.syslog_pieces.specs.Timestamp.Rfc3164.{ShowsYearless}
use Rattle.syslog_pieces.specs.Bodies.Clock.{zone_of, civil_of, year_of}
use Rattle.syslog_pieces.specs.Timestamp.Zone.{IsStampOfFields}
use Rattle.syslog_pieces.specs.Timestamp.Zone.{earlier, IsStampOf, IsStampInGap, IsStampInAny}
use Rattle.syslog_text.proofs.TextLemmas.Runs.{one_ascii}
use Rattle.syslog_text.proofs.PieceLemmas.Class.{unique_division, rows_split}
use Rattle.syslog_text.proofs.PieceLemmas.Lists.{each_begins}
use Rattle.syslog_pieces.proofs.PriLemmas.{priority_det}
use Rattle.syslog_pieces.proofs.TimestampLemmas.Rfc3339.{answer_same, same_timestamp, same_offset, header_stamp_det}
use Rattle.syslog_pieces.proofs.TimestampLemmas.Rfc3339.{writes-first}
use Rattle.syslog_pieces.proofs.TimestampLemmas.Civil.{civil_nanos-fields, civil-fields, datetime_of, has_fields}
use Rattle.syslog_pieces.proofs.TimestampLemmas.Civil.{is_datetime}
use Rattle.syslog_text.proofs.Determined.{determined}

-- ---- the names of the months, letter by letter

-- the number of a month in small letters
abbrev told : Option Text → Option ℕ
told (Some (a ∷ b ∷ c ∷ [])) = small_month a b c
told _ = None

abbrev is_told : ℕ → Bool
is_told k = nat_eq (unwrap_or (told (slice_get month_names k)) 0) (k + 1)

unwrapped : (o : Option ℕ) (k : ℕ) → nat_eq (unwrap_or o 0) (k + 1) ≡ true → o ≡ Some (k + 1)
unwrapped o k h = grind (arith, nat_tests, common_steps)

placed : (k : ℕ) (t : Text) → slice_get month_names k ≡ Some t → told (Some t) ≡ Some (k + 1)
unfolding small_month
placed k t e =
    let within = slice_get_within month_names k t e in
    unwrapped (told (Some t)) k (rw e at (agree_below_at is_told (λ k. true) 12 k refl (omega arith)))

-- three letters, which in small letters name month n
abbrev pub IsLetters : Text → ℕ → Type 0
IsLetters p n = (a : ℕ) × (b : ℕ) × (c : ℕ) × (p ≡ a ∷ b ∷ c ∷ [])
    × (small_month (to_ascii_lowercase a) (to_ascii_lowercase b) (to_ascii_lowercase c) ≡ Some n)

spelt : (p : Text) (n : ℕ) → told (Some (map to_ascii_lowercase p)) ≡ Some n → IsLetters p n
spelt (a ∷ b ∷ c ∷ []) n e = (a, b, c, refl, e)
spelt _ n e = cc

pub month_letters : (p : Text) (n : ℕ) → IsMonthName p n → IsLetters p n
month_letters p n (k, e, name) = spelt p n (placed k (map to_ascii_lowercase p) name ∙ ap Some (sym e))

-- ---- a text has one month at its front, which begins with a letter
pub month_det : IsDeterministic month
month_det p q p' q' n n' e h h' =
    let (a, b, c, w, m) = month_letters p n h in
    let (a', b', c', w', m') = month_letters p' n' h' in
    let t : a ∷ b ∷ c ∷ q ≡ a' ∷ b' ∷ c' ∷ q' = sym (ap (λ (x : Text). x ++ q) w) ∙ e ∙ ap (λ (x : Text). x ++ q') w' in
    let ha : a ≡ a' = cc in let hb : b ≡ b' = cc in let hc : c ≡ c' = cc in
    (cc, let s : Some n ≡ Some n' = sym m ∙ (rw (ha, hb, hc) refl) ∙ m' in cc)

small_letters : (a b c n : ℕ) → small_month a b c ≡ Some n → (97 ≤ a) × (a < 128) × (b < 128) × (c < 128)
unfolding small_month
small_letters a b c n m =
    (grind (arith, nat_tests), grind (arith, nat_tests), grind (arith, nat_tests), grind (arith, nat_tests))

-- a letter, or a character past the letters
abbrev pub IsLetter : ℕ → Type 0
IsLetter c = 65 ≤ c

pub month_begins : (p q : Text) (n : ℕ) → month.Is p q n → Begins IsLetter p
month_begins p q n h =
    let (a, b, c, w, m) = month_letters p n h in
    let (small, _, _, _) = small_letters _ _ _ n m in
    begins_with IsLetter a p (b ∷ c ∷ []) w (grind (arith, lowercase_is a))

-- ---- what the readers of a month return

-- letters that name a month are ASCII
pub month_ascii : (p q : Text) (n : ℕ) → month.Is p q n → IsAscii p
month_ascii p q n h =
    let (a, b, c, w, m) = month_letters p n h in
    let (_, x, y, z) = small_letters _ _ _ n m in
    rw w (IsAscii-cons a (b ∷ c ∷ []) (letter_low a x) (IsAscii-cons b (c ∷ []) (letter_low b y)
    (one_ascii c (letter_low c z))))
  where
    letter_low : (c : ℕ) → to_ascii_lowercase c < 128 → c < 128
    letter_low c h = grind (arith, lowercase_is c)

pub month_alone : IsAlone month
month_alone p q r n h = h

-- three bytes and the rest
module _ (bs : List ℕ) (long : 3 ≤ length bs) where
  three_first : bs ≡ get_or bs 0 0 ∷ get_or bs 1 0 ∷ get_or bs 2 0 ∷ take (length bs - 3) (drop 3 bs)
  three_first = grind (arith, common_steps)

  pub month_here : (n : ℕ) → IsNamed (to_ascii_lowercase (get_or bs 0 0)) (to_ascii_lowercase (get_or bs 1 0))
      (to_ascii_lowercase (get_or bs 2 0)) n → Front month bs (take (length bs - 3) (drop 3 bs)) n
  month_here n h =
      let l = h.from in
      record {
        piece = get_or bs 0 0 ∷ get_or bs 1 0 ∷ get_or bs 2 0 ∷ [];
        whole = three_first;
        is = (n - 1, omega arith, h.name);
      }

  pub no_month_here : small_month (to_ascii_lowercase (get_or bs 0 0)) (to_ascii_lowercase (get_or bs 1 0))
      (to_ascii_lowercase (get_or bs 2 0)) ≡ None → NoFront month bs
  no_month_here e p q n f h =
      let (x, y, z, v, m) = month_letters p n h in
      let t = sym three_first ∙ f ∙ ap (λ (x : Text). x ++ q) v in
      let ha : x ≡ get_or bs 0 0 = cc in let hb : y ≡ get_or bs 1 0 = cc in let hc : z ≡ get_or bs 2 0 = cc in
      let s : None ≡ Some n = sym e ∙ (rw (ha, hb, hc) at m) in cc

-- three bytes of which the first is before the letters, or fewer than three bytes
pub no_month_letters : (bs : List ℕ) → (3 ≤ length bs → get_or bs 0 0 < 65) → NoFront month bs
no_month_letters bs low p q n f h =
    let (a, b, c, w, m) = month_letters p n h in
    let whole : bs ≡ a ∷ b ∷ c ∷ q = f ∙ ap (λ (x : Text). x ++ q) w in
    let first : a < 65 = rw whole at (low (rw whole (omega arith))) in
    let (large, _, _, _) = small_letters _ _ _ n m in
    omega (arith, (lowercase_is a).1 first, large)

-- ---- a text has one month date at its front, and shows one; and what the readers of month dates return
pub clock_det : AllDeterministic clock_row
clock_det = search (month_det, determined) depth 32

pub day_det : AllDeterministic day_row
day_det = search (month_det, determined) depth 32

pub year_det : AllDeterministic year_row
year_det = search (month_det, determined) depth 32

abbrev from_year : List Class
from_year = year_row ++ clock_row

-- a text has one date without a year at its front
pub yearless_det : IsDeterministic yearless_date
yearless_det = search (month_det, determined) depth 32

-- a month date with a year, of which it has one too
abbrev pub dated_date : Class
dated_date = mapped (Row dated_row) MonthDate dated_of

pub dated_det : IsDeterministic dated_date
dated_det = search (month_det, determined) depth 32

-- ---- it has not both: after the day, the one has a number before a colon, the other a number before a blank

abbrev pub IsBlank : ℕ → Type 0
IsBlank c = is_blank c ≡ true

pub blanks_begin : {t q : Text} → Front (some_run is_blank) t q tt → Begins IsBlank t
blanks_begin {q = q} f = rw f.whole (begins_more IsBlank f.piece q (each_begins is_blank f.piece f.is.0 f.is.1))

pub blank_low : (c : ℕ) → is_blank c ≡ true → c ≤ 32
blank_low c h = grind (arith, nat_tests, h)

-- after the day, with which both begin
dates_apart : Apart MonthDate yearless_date.Is dated_date.Is
dates_apart p q p' q' v v' e (vs, h, i) (ws, h', i') =
    let f : Front (Row yearless_row) (p ++ q) q vs = record { piece = p; whole = refl; is = h } in
    let g : Front (Row dated_row) (p ++ q) q' ws = record { piece = p'; whole = e; is = h' } in
    let (u, day, clock) = rows_split day_row clock_row f in
    let (t, f1, (w, f3, _)) = row_pieces clock_row clock in
    let (t', g1, (_, g3, _)) = row_pieces from_year (rows_step day_row from_year day_det day g).1 in
    let both = sym f1.whole ∙ g1.whole in
    let run = run_same is_ascii_digit f1.piece t g1.piece t' both f1.is.1 f1.is.2 g1.is.1 g1.is.2 in
    begins_apart t (λ c h k. let z = blank_low c k in omega arith)
    (begins_with (λ c. c ≡ 58) 58 t w (f3.whole ∙ ap (λ (x : Text). x ++ w) f3.is) refl)
    (rw (rest_same f1.piece t g1.piece t' both run) (blanks_begin g3))

-- a text has one month date at its front
pub month_date_det : IsDeterministic month_date
month_date_det = either_det MonthDate yearless_date.Is dated_date.Is yearless_det dated_det dates_apart

-- ---- a month date begins with a letter
row_begins : (Cs : List Class) (p q : Text) (vs : Values (month ∷ Cs)) → (Row (month ∷ Cs)).Is p q vs
    → Begins IsLetter (p ++ q)
row_begins Cs p q vs h =
    let f = row_head month Cs {text = p ++ q} (record { piece = p; whole = refl; is = h }) in
    rw f.1.whole (begins_more IsLetter f.1.piece f.0 (month_begins f.1.piece f.0 vs.0 f.1.is))

abbrev after_month : List Class
after_month = some_run is_blank ∷ short_number ∷ some_run is_blank ∷ []

pub month_date_begins : (p q : Text) (v : MonthDate) → month_date.Is p q v → Begins IsLetter (p ++ q)
month_date_begins p q v (inl (vs, h, i)) = row_begins (after_month ++ clock_row) p q vs h
month_date_begins p q v (inr (vs, h, i)) = row_begins (after_month ++ from_year) p q vs h

-- ---- a text shows one date without a year
showing_det : AllDeterministic (showing_row yearless_date)
showing_det = search (priority_det, yearless_det, determined) depth 32

pub shown_once : (text : Text) (d d' : MonthDate) → ShowsYearless text d → ShowsYearless text d' → d ≡ d'
shown_once text d d' (p, more, h) (p', more', h') = ap (λ (x : Values (showing_row yearless_date)). x.1.1.0)
    (unique_division (showing_row yearless_date) showing_det h h').1

-- ---- the date of its parts
module _ {t : Text} where
  pub no_day : NoFront (Row day_row) t → NoFront month_date t
  no_day n =
      no_either MonthDate yearless_date.Is dated_date.Is
      (no_mapped (Row yearless_row) MonthDate yearless_of (rows_none_here day_row clock_row n))
      (no_mapped (Row dated_row) MonthDate dated_of (rows_none_here day_row from_year n))

  module _ {u : Text} {m d : ℕ} (f : Front (Row day_row) t u (m, (tt, (d, (tt, tt))))) where
    pub yearless_front : {q : Text} {h n s : ℕ} {more : Option (Unit {0})}
        → Front (Row clock_row) u q (h, (tt, (n, (tt, (s, (more, tt))))))
        → Front month_date t q (record { year = None; month = m; day = d; hour = h; minute = n; second = s })
    yearless_front g =
        first_kind MonthDate yearless_date.Is dated_date.Is
        (mapped_front (Row yearless_row) MonthDate yearless_of (rows_join day_row clock_row f g))

    -- neither a clock nor a year and a clock is after the day
    pub no_clock : NoFront (Row clock_row) u → NoFront (Row from_year) u → NoFront month_date t
    no_clock n m =
        no_either MonthDate yearless_date.Is dated_date.Is
        (no_mapped (Row yearless_row) MonthDate yearless_of (rows_none_later day_row clock_row day_det f n))
        (no_mapped (Row dated_row) MonthDate dated_of (rows_none_later day_row from_year day_det f m))

    pub dated_front : {w q : Text} {y h n s : ℕ} {more : Option (Unit {0})} → Front (Row year_row) u w (y, (tt, tt))
        → Front (Row clock_row) w q (h, (tt, (n, (tt, (s, (more, tt))))))
        → Front month_date t q (record { year = Some y; month = m; day = d; hour = h; minute = n; second = s })
    dated_front g h =
        second_kind MonthDate yearless_date.Is dated_date.Is (mapped_front (Row dated_row) MonthDate dated_of (rows_join
        day_row from_year f (rows_join year_row clock_row g h)))

-- ---- the timestamp of civil fields in a zone: there is at most one, and what its readers return

-- fields name one datetime
pub one_datetime : (f : CivilFields) (a b : DateTime) → fields_of a ≡ f → fields_of b ≡ f → a ≡ b
one_datetime f a b e e' = same_datetime a b (civil_nanos-fields a f e ∙ sym (civil_nanos-fields b f e'))

at_once : (dt : DateTime) (offset : Offset) (s t : OffsetTimestamp) → IsStampAt dt offset s → IsStampAt dt offset t
    → s ≡ t
at_once dt offset s t h k = same_timestamp s t (cc) (cc)

once_of : (a : AmbiguousOffset) (tz : TimeZone) (dt : DateTime) (s t : OffsetTimestamp)
    → (IsStampOf a dt (λ _. ⊥) s → IsStampOf a dt (λ _. ⊥) t → s ≡ t)
    × (IsStampOf a dt (IsStampInGap tz dt) s → IsStampOf a dt (IsStampInGap tz dt) t → s ≡ t)
once_of (Unambiguous offset) tz dt s t = (at_once dt offset s t, at_once dt offset s t)
once_of (Gap before after) tz dt s t = (λ h k. absurd h, λ h k. same_timestamp s t (cc) (cc))
once_of (Fold before after) tz dt s t = (at_once dt before s t, at_once dt before s t)

pub in_any_once : (tz : Option TimeZone) (local : TimeZone) (dt : DateTime) (s t : OffsetTimestamp)
    → IsStampInAny tz local dt s → IsStampInAny tz local dt t → s ≡ t
in_any_once (Some tz) local dt s t = (once_of (ambiguous_at tz dt) tz dt s t).0
in_any_once None local dt s t = (once_of (ambiguous_at local dt) local dt s t).1

-- the timestamp of a month date is that of its civil fields in its year
fields_in_year : (dating : Dating) (date : MonthDate) (s : OffsetTimestamp) → IsMonthStamp dating date s → (year : ℤ) ×
    (year_of date dating.year ≡ Some year) × IsStampOfFields dating.zone dating.local (civil_of date year) s
fields_in_year dating date s (year, dt, y, f, h) = (year, y, (dt, has_fields dt (civil_of date year) f, h))

-- a month date has one timestamp
pub month_stamp_once : (dating : Dating) (date : MonthDate) (s t : OffsetTimestamp) → IsMonthStamp dating date s
    → IsMonthStamp dating date t → s ≡ t
month_stamp_once dating date s t a b =
    let (year, y, (dt, f, h)) = fields_in_year dating date s a in
    let (year', y', (dt', f', h')) = fields_in_year dating date t b in
    let same_year : year ≡ year' = cc in
    let same : dt ≡ dt' = one_datetime (civil_of date year') dt dt' (cc) f' in
    in_any_once dating.zone dating.local dt' s t (rw same at h) h'

-- ---- what the readers return

-- at the one offset, or at the one before a fold
pub answer_at : (a : AmbiguousOffset) (tz : TimeZone) (dt : DateTime) (offset : Offset) (r : Option ClockStamp)
    → earlier a ≡ Some offset → IsAnswer (IsStampAt dt offset) r
    → IsAnswer (IsStampOf a dt (λ _. ⊥)) r × IsAnswer (IsStampOf a dt (IsStampInGap tz dt)) r
answer_at (Unambiguous o) tz dt offset r e h = let same : offset ≡ o = cc in let at = rw same at h in (at, at)
answer_at (Gap before after) tz dt offset r e h = absurd (let s : None ≡ Some offset = e in cc)
answer_at (Fold before after) tz dt offset r e h = let same : offset ≡ before = cc in let at = rw same at h in (at, at)

-- fields that name a datetime have its timestamp
pub answer_of_fields : (f : CivilFields) (dt : DateTime) (tz : Option TimeZone) (local : TimeZone) (r : Option
    ClockStamp) → fields_of dt ≡ f → IsAnswer (IsStampInAny tz local dt) r → IsAnswer (IsStampOfFields tz local f) r
answer_of_fields f dt tz local r e h =
    answer_same (IsStampInAny tz local dt) (IsStampOfFields tz local f) r (λ s p. (dt, e, p))
    (λ s (dt', e', p). rw (one_datetime f dt' dt e' e) at p) h

-- ---- the year of a month date
module _ (dating : Dating) (date : MonthDate) where
  pub answer_in_year : (y : ℤ) (r : Option ClockStamp) → year_of date dating.year ≡ Some y
      → IsAnswer (IsStampOfFields dating.zone dating.local (civil_of date y)) r → IsAnswer (IsMonthStamp dating date) r
  answer_in_year y r e h =
      answer_same (IsStampOfFields dating.zone dating.local (civil_of date y)) (IsMonthStamp dating date) r
      (λ s (dt, same, p). (y, dt, e, is_datetime dt (civil_of date y) same, p))
      (λ s k. (let (y', e', p) = fields_in_year dating date s k in let same : y' ≡ y = cc in rw same at p)) h

-- in the zone that counts
in_any : (tz : Option TimeZone) (local : TimeZone) (dt : DateTime) (offset : Offset) (r : Option ClockStamp)
    → earlier (ambiguous_at (zone_of tz local) dt) ≡ Some offset → IsAnswer (IsStampAt dt offset) r
    → IsAnswer (IsStampInAny tz local dt) r
in_any (Some tz) local dt offset r e h = (answer_at (ambiguous_at tz dt) tz dt offset r e h).0
in_any None local dt offset r e h = (answer_at (ambiguous_at local dt) local dt offset r e h).1

-- a zone of one offset has it at each datetime
fixed_earlier : (tz : TimeZone) (offset : Offset) (dt : DateTime) → IsFixed tz
    → ((n : ℤ) → offset.seconds ≡ offset_at tz n) → earlier (ambiguous_at tz dt) ≡ Some offset
unfolding ambiguous_at offset_at
fixed_earlier UTC offset dt fixed h = ap Some (same_offset utc_offset offset (sym (h (pos 0))))
fixed_earlier Unknown offset dt fixed h = ap Some (same_offset utc_offset offset (sym (h (pos 0))))
fixed_earlier (FixedZone o) offset dt fixed h = ap Some (same_offset o offset (sym (h (pos 0))))
fixed_earlier _ offset dt fixed h = absurd fixed

-- ---- by what a clock shows

-- the timestamp of fields on a clock is that of the datetime that they name
pub answer_on_clock : (f : CivilFields) (dt : DateTime) (offset : Offset) (r : Option ClockStamp) → fields_of dt ≡ f
    → IsAnswer (IsStampOfClock f offset) r → IsAnswer (IsStampAt dt offset) r
answer_on_clock f dt offset r e h =
    let shift = λ (x : ℤ). x -ℤ nanos_of_seconds offset.seconds in
    let nanos = civil_nanos-fields dt f e in
    answer_same (IsStampOfClock f offset) (IsStampAt dt offset) r
    (λ s p. record { instant = p.instant ∙ ap shift (sym nanos); at_offset = p.at_offset })
    (λ s p. record {
      civil = civil-fields dt f e;
      instant = p.instant ∙ ap shift nanos;
      at_offset = p.at_offset;
    }) h

-- in a zone of one offset
module _ (tz : Option TimeZone) (local zone : TimeZone) (f : CivilFields) (offset : Offset)
    (e : zone ≡ zone_of tz local) (fixed : IsFixed zone) (at : (n : ℤ) → offset.seconds ≡ offset_at zone n) where
  fixed_datetime : (r : Option ClockStamp) → IsAnswer (IsStampOfClock f offset) r → (dt : DateTime) → fields_of dt ≡ f
      → IsAnswer (IsStampOfFields tz local f) r
  fixed_datetime r h dt same =
      answer_of_fields f dt tz local r same (in_any tz local dt offset r (rw e at (fixed_earlier zone offset dt fixed
      at)) (answer_on_clock f dt offset r same h))

  pub fixed_answer : (r : Option ClockStamp) → IsAnswer (IsStampOfClock f offset) r
      → IsAnswer (IsStampOfFields tz local f) r
  fixed_answer None h = λ s (dt, same, p). fixed_datetime None h dt same s (dt, same, p)
  fixed_answer (Some c) h = let (dt, same) = datetime_of f h.civil in fixed_datetime (Some c) h dt same

-- ---- a text has one timestamp of RFC 3164 at its front

-- a digit or a dash
abbrev pub IsLow : ℕ → Type 0
IsLow c = c ≤ 57

-- `-`, or an RFC 3339 text
pub header_stamp_begins : (p q : Text) (v : Option OffsetTimestamp) → header_stamp.Is p q v → Begins IsLow (p ++ q)
header_stamp_begins p q None h = begins_with IsLow 45 (p ++ q) q (ap (λ (x : Text). x ++ q) h) (omega arith)
header_stamp_begins p q (Some s) ((w, h, k), z) =
    let (c, more, f, digit) = writes-first p w h in
    begins_more IsLow p q (begins_with IsLow c p more f (let d = digit.1 in omega arith))

-- a month date that has this timestamp
abbrev IsStampedDate : Dating → Text → Text → Option OffsetTimestamp → Type 0
IsStampedDate dating p q v =
    MatchOption v ⊥ (λ s. (date : MonthDate) × month_date.Is p q date × IsMonthStamp dating date s)

pub stamped_date_begins : (dating : Dating) (p q : Text) (v : Option OffsetTimestamp) → IsStampedDate dating p q v
    → Begins IsLetter (p ++ q)
stamped_date_begins dating p q None h = absurd h
stamped_date_begins dating p q (Some s) (d, h, k) = month_date_begins p q d h

abbrev stamped_date : Dating → Class
stamped_date dating = record { Value = Option OffsetTimestamp; Is = IsStampedDate dating }

pub stamped_date_det : (dating : Dating) → IsDeterministic (stamped_date dating)
stamped_date_det dating p q p' q' None v' e h h' = absurd h
stamped_date_det dating p q p' q' (Some s) None e h h' = absurd h'
stamped_date_det dating p q p' q' (Some s) (Some t) e (d, h, k) (d', h', k') =
    let r = month_date_det p q p' q' d d' e h h' in
    (r.0, ap Some (month_stamp_once dating d' s t (subst (λ (x : MonthDate). IsMonthStamp dating x s) r.1 k) k'))

pub rfc3164_stamp_det : (dating : Dating) → IsDeterministic (rfc3164_stamp dating)
rfc3164_stamp_det dating = either_det (Option OffsetTimestamp) header_stamp.Is (IsStampedDate dating) header_stamp_det
    (stamped_date_det dating) (λ p q p' q' v v' e h h'. begins_apart {K = IsLetter} (p ++ q) (λ c a b. omega arith)
    (header_stamp_begins p q v h) (rw (← e) at (stamped_date_begins dating p' q' v' h')))

-- ---- what the reader returns
module _ (dating : Dating) {t : Text} where
  pub header_front : {q : Text} {v : Option OffsetTimestamp} → Front header_stamp t q v
      → Front (rfc3164_stamp dating) t q v
  header_front f = first_kind (Option OffsetTimestamp) header_stamp.Is (IsStampedDate dating) f

  pub date_front : {q : Text} {d : MonthDate} (s : OffsetTimestamp) → Front month_date t q d → IsMonthStamp dating d s
      → Front (rfc3164_stamp dating) t q (Some s)
  date_front {d = d} s f h =
      second_kind (Option OffsetTimestamp) header_stamp.Is (IsStampedDate dating)
      (record { piece = f.piece; whole = f.whole; is = (d, f.is, h) })

  module _ (n : NoFront header_stamp t) where
    -- no month date there has a timestamp
    no_stamped : ((d : MonthDate) (s : OffsetTimestamp) (q : Text) → Front month_date t q d → IsMonthStamp dating d s →
        ⊥) → NoFront (rfc3164_stamp dating) t
    no_stamped m = no_either (Option OffsetTimestamp) header_stamp.Is (IsStampedDate dating) n
        (λ p q v e h. none v p q e h)
      where
        none : (v : Option OffsetTimestamp) (p q : Text) → t ≡ p ++ q → IsStampedDate dating p q v → ⊥
        none None p q e h = h
        none (Some s) p q e (d, h, k) = m d s q (record { piece = p; whole = e; is = h }) k

    pub no_date : NoFront month_date t → NoFront (rfc3164_stamp dating) t
    no_date m = no_stamped (λ d s q f k. no_front_no month_date m f)

    -- the date that is there has none
    pub no_stamp_of_date : {r : Text} (d : MonthDate) → Front month_date t r d → IsAnswer (IsMonthStamp dating d) None
        → NoFront (rfc3164_stamp dating) t
    no_stamp_of_date d f m = no_stamped (λ d' s q g k. m s (rw (front_same month_date month_date_det g f).1 at k))
