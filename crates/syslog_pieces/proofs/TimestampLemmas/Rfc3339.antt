-- A text has one RFC 3339 text at its front, and at most one timestamp, which is read back from its print.
-- What is printed of a canonical timestamp has it, and no other timestamp has a text.
use Rattle.syslog_pieces.proofs.Names.{days_in_month_bounds, fields_of_rfc3339, is_not_whitespace, IsTimestampNanos, []}
use Rattle.syslog_pieces.proofs.Names.{IsStampOfRfc3339, AllDeterministic, nanos_of_seconds, encode_utf8_all, no_mapped}
use Rattle.syslog_pieces.proofs.Names.{IsOffsetSeconds, IsDeterministic, OffsetTimestamp, nanos_of_fields, append_assoc}
use Rattle.syslog_pieces.proofs.Names.{encodes-IsAscii, is_ascii_digit, IsStampOfClock, is_prop→PathP, Rfc3339Fields, ℕ}
use Rattle.syslog_pieces.proofs.Names.{length-append, fraction_text, if◌then◌else◌, mapped_front, IsAlone}
use Rattle.syslog_pieces.proofs.Names.{IsAsciiDigit, header_stamp, unsigned_abs, signed_arith, civil_fields, front_same}
use Rattle.syslog_pieces.proofs.Names.{IsStampText, clock_value, numeric_row, CivilFields, second_kind, piece_front, ap}
use Rattle.syslog_pieces.proofs.Names.{each_append, stamp_text, written_of, ClockStamp, mapped_det, row_det}
use Rattle.syslog_pieces.proofs.Names.{either_det, append-nil, row_pieces, seconds_of, no_either, nat_tests, year_sign}
use Rattle.syslog_pieces.proofs.Names.{Timestamp, stamp_row, IsAnswer, HasStamp, decimals, fraction, AreCivil}
use Rattle.syslog_pieces.proofs.Names.{exactly, Divides, NoFront, length, negsuc, Option, Offset, Values, neg_ℤ}
use Rattle.syslog_pieces.proofs.Names.{mapped, is_dot, letter, offset, ◌also◌, false, subst, arith, props, Front, after}
use Rattle.syslog_pieces.proofs.Names.{heads, Apart, Class, rules, Each, dash, ◌+ℤ◌, ◌≤ℤ◌, ◌-ℤ◌, List, ◌++◌, Bool, true}
use Rattle.syslog_pieces.proofs.Names.{Some, None, refl, pad2, pad4, Text, Ends, sign, year, ◌≡◌, inl, inr, ◌+◌, ◌/◌, ℤ}
use Rattle.syslog_pieces.proofs.Names.{◌%◌, ◌<◌, ◌≤◌, ◌∷◌, sym, ◌∙◌, Row, pos, suc, ◌*◌, min, unsigned_date_time}
use Rattle.std.specs.Prelude.{nat_le}
use Rattle.syslog_text.proofs.Determined.{determined}
use Rattle.jiff_core.specs.Calendar.{IsWithin}
use Rattle.syslog_pieces.specs.Timestamp.Rfc3339.{pair, HasRfc3339Stamp}
use Rattle.syslog_pieces.specs.Timestamp.Printed.{printed_stamp, date_time_text, offset_text, offset_sign}
use Rattle.syslog_pieces.specs.Timestamp.Canonical.{IsCanonicalStamp, BeginsWithYear, own_year}
use Rattle.syslog_text.proofs.PieceLemmas.Class.{IsFilled, closed_alone, closed_filled, after_det, spaced_parts}
use Rattle.syslog_text.proofs.PieceLemmas.Class.{AllSteady, Fails, no_row}
use Rattle.syslog_pieces.proofs.TimestampLemmas.Civil.{civil-fields, civil_nanos-fields, datetime_of, has_fields}
use Rattle.syslog_pieces.proofs.TimestampLemmas.Civil.{is_datetime, civil_fields_exist, in_range-at_offset}
use Rattle.syslog_pieces.proofs.TimestampLemmas.Civil.{shows_fields, from_start}
use Rattle.syslog_pieces.proofs.TimestampLemmas.Digits.{each_visible, stamp_characters, is_stamp_character, each_ascii}
use Rattle.syslog_pieces.proofs.TimestampLemmas.Digits.{fraction_characters, pair_characters, fraction_text-is}

-- ---- a text has one front of each piece

pub pair_det : (limit : ℕ) → limit ≤ 100 → IsDeterministic (pair limit)
pair_det limit small p q p' q' n n' e h h' = grind arith

-- the same, where a computed test says that the limit is small: so a search finds it
pub small_pair_det : (limit : ℕ) → nat_le limit 100 ≡ true → IsDeterministic (pair limit)
small_pair_det limit small = pair_det limit (grind (arith, nat_tests))

pub year_det : IsDeterministic year
year_det p q p' q' n n' e h h' = grind arith

letter_det : (upper : ℕ) → IsDeterministic (letter upper)
letter_det upper p q p' q' v v' e h h' = grind arith

pub decimals_det : IsDeterministic decimals
decimals_det = search determined depth 32

no_dot_det : IsDeterministic (record { Value = ℕ; Is = λ p q n. (p ≡ []) × Ends is_dot q × (n ≡ 0) })
no_dot_det p q p' q' n n' e h h' = (h.0 ∙ sym h'.0, h.2 ∙ sym h'.2)

dot_apart : Apart ℕ (λ p q n. (p ≡ []) × Ends is_dot q × (n ≡ 0)) (after 46 decimals).Is
dot_apart p q p' q' n n' e (f, ends, z) (t, f', h) =
    let same : q ≡ 46 ∷ (t ++ q') = rw (f, f') at e in
    let ends' = rw same at ends in cc

fraction_det : IsDeterministic fraction
fraction_det = either_det ℕ (λ p q n. (p ≡ []) × Ends is_dot q × (n ≡ 0)) (after 46 decimals).Is no_dot_det
    (after_det decimals decimals_det) dot_apart

pub sign_det : IsDeterministic sign
sign_det p q p' q' b c e h h' = grind arith

pub numeric_det : AllDeterministic numeric_row
numeric_det = search (small_pair_det, sign_det, determined) depth 32

-- a letter and a sign
abbrev zulu : Class
zulu = mapped (letter 90) ℤ (λ _. pos 0)

offset_apart : Apart ℤ zulu.Is (mapped (Row numeric_row) ℤ seconds_of).Is
offset_apart p q p' q' s s' e h (vs, ([], w, k), z) = absurd k
offset_apart p q p' q' s s' e (u, l, _) (vs, (a ∷ ps, w, k), z) = let first = k.0 in grind arith

pub offset_det : IsDeterministic offset
offset_det = either_det ℤ zulu.Is (mapped (Row numeric_row) ℤ seconds_of).Is
    (mapped_det (letter 90) ℤ _ (letter_det 90))
    (mapped_det (Row numeric_row) ℤ seconds_of (row_det numeric_row numeric_det)) offset_apart

module _ {t : Text} where
  pub no_offset : NoFront (letter 90) t → Fails numeric_row t → NoFront offset t
  no_offset n m = no_either ℤ zulu.Is (mapped (Row numeric_row) ℤ seconds_of).Is (no_mapped (letter 90) ℤ _ n)
      (no_mapped (Row numeric_row) ℤ seconds_of (no_row numeric_row numeric_det m))

  pub numeric_front : {q : Text} {vs : Values numeric_row} → Front (Row numeric_row) t q vs
      → Front offset t q (seconds_of vs)
  numeric_front f = second_kind ℤ zulu.Is (mapped (Row numeric_row) ℤ seconds_of).Is
      (mapped_front (Row numeric_row) ℤ seconds_of f)

pub stamp_pieces_det : AllDeterministic stamp_row
stamp_pieces_det = search (small_pair_det, year_det, letter_det, fraction_det, offset_det, determined) depth 32

pub stamp_text_det : IsDeterministic stamp_text
stamp_text_det = search (stamp_pieces_det, determined) depth 32

pub no_stamp_text : {t : Text} → Fails stamp_row t → NoFront stamp_text t
no_stamp_text h = no_mapped (Row stamp_row) Rfc3339Fields written_of (no_row stamp_row stamp_pieces_det h)

pub stamp_text_front : {t q : Text} {vs : Values stamp_row} → Front (Row stamp_row) t q vs
    → Front stamp_text t q (written_of vs)
stamp_text_front f = mapped_front (Row stamp_row) Rfc3339Fields written_of f

-- ---- a piece whatever follows it
offset_alone : IsAlone offset
offset_alone p q r s (inl h) = inl h
offset_alone p q r s (inr (vs, h, e)) = inr (vs, minutes_close (search rules) p q r vs h, e)
  where
    minutes_close : AllSteady (sign ∷ pair 24 ∷ []) → IsAlone (Row numeric_row)
    minutes_close = closed_alone (after 58 (pair 60)) (λ p q r v h. h) (λ p q v h. (58, h.0, h.1)) (sign ∷ pair 24 ∷ [])

pub offset_filled : IsFilled offset
offset_filled p q s (inl (u, inl e, z)) = (90, [], e)
offset_filled p q s (inl (u, inr e, z)) = (122, [], e)
offset_filled p q s (inr (vs, h, e)) =
    closed_filled (after 58 (pair 60)) (λ p q r v h. h) (λ p q v h. (58, h.0, h.1)) (sign ∷ pair 24 ∷ []) p q vs h

-- the pieces before the offset
abbrev shown_row : List Class
shown_row =
    year ∷ after 45 (pair 100) ∷ after 45 (pair 100) ∷ letter 84 ∷ pair 100 ∷ after 58 (pair 100) ∷ after 58 (pair 61)
    ∷ fraction ∷ []

pub stamp_alone : IsAlone stamp_text
stamp_alone p q r w (vs, h, e) = (
  vs,
  closed_alone offset offset_alone offset_filled shown_row (search rules) p q r vs
      h,
  e,
)

-- ---- from what a text wrote to the result

-- a timestamp that has one property has another that means the same
pub answer_same : (P Q : OffsetTimestamp → Type 0) (answer : Option ClockStamp) → ((s : OffsetTimestamp) → P s → Q s) →
    ((s : OffsetTimestamp) → Q s → P s) → IsAnswer P answer → IsAnswer Q answer
answer_same P Q None forth back h = λ s q. h s (back s q)
answer_same P Q (Some c) forth back h = forth (clock_value c) h

-- the numbers of a text that has a stamp are civil fields, and those of its instant
pub stamp_fields : (w : Rfc3339Fields) (n o : ℤ) → HasRfc3339Stamp w n o → AreCivil (fields_of_rfc3339 w)
    × (n ≡ nanos_of_fields (fields_of_rfc3339 w) -ℤ nanos_of_seconds w.offset)
stamp_fields w n o h =
    let f = fields_of_rfc3339 w in
    let same = has_fields h.shown f h.shows in (
      civil-fields h.shown f same,
      h.instant ∙ ap (λ (x : ℤ). x -ℤ nanos_of_seconds w.offset) (civil_nanos-fields h.shown f same),
    )

pub fields_stamp : (w : Rfc3339Fields) (n o : ℤ) → AreCivil (fields_of_rfc3339 w) → n ≡ nanos_of_fields
    (fields_of_rfc3339 w) -ℤ nanos_of_seconds w.offset → o ≡ w.offset → IsTimestampNanos n → HasRfc3339Stamp w n o
fields_stamp w n o there instant same range =
    let f = fields_of_rfc3339 w in
    let (dt, e) = datetime_of f there in
    record {
      shown = dt;
      shows = is_datetime dt f e;
      instant = instant ∙ ap (λ (x : ℤ). x -ℤ nanos_of_seconds w.offset) (sym (civil_nanos-fields dt f e));
      at_offset = same;
      in_range = range;
    }

-- the timestamp on a clock that shows the numbers
pub answer_of_rfc3339 : (w : Rfc3339Fields) (f : CivilFields) (offset : Offset) (answer : Option ClockStamp)
    → f ≡ fields_of_rfc3339 w → offset.seconds ≡ w.offset → IsAnswer (IsStampOfClock f offset) answer
    → IsAnswer (IsStampOfRfc3339 w) answer
answer_of_rfc3339 w f offset answer e same h =
    answer_same (IsStampOfClock (fields_of_rfc3339 w) offset) (IsStampOfRfc3339 w) answer (λ s p. fields_stamp w
    s.instant.nanosecond s.offset.seconds p.civil (rw (← same) p.instant) (p.at_offset ∙ same) s.instant.in_range) (λ s
    q. (let (there, instant) = stamp_fields w s.instant.nanosecond s.offset.seconds q in
    record { civil = there; instant = rw same instant; at_offset = q.at_offset ∙ sym same })) (rw e at h)

-- ---- the stamp of a text

-- a text has at most one stamp
pub one_stamp : (text : List ℕ) (n o m p : ℤ) → HasStamp text n o → HasStamp text m p → (n ≡ m) × (o ≡ p)
one_stamp text n o m p (w, h, a) (v, k, b) =
    let same = (stamp_text_det text [] text [] w v refl h k).1 in
    let e = (stamp_fields w n o a).1 in
    let f = (stamp_fields v m p b).1 in
    (cc, cc)

-- ---- a timestamp is its two numbers, which lie in their ranges
pub same_instant : (a b : Timestamp) → a.nanosecond ≡ b.nanosecond → a ≡ b
same_instant a b e = λ i. record {
  nanosecond = e i;
  in_range = is_prop→PathP (λ j. IsTimestampNanos (e j)) (λ j. hlevel props) a.in_range b.in_range i;
}

pub same_offset : (a b : Offset) → a.seconds ≡ b.seconds → a ≡ b
same_offset a b e = λ i. record {
  seconds = e i;
  in_range = is_prop→PathP (λ j. IsOffsetSeconds (e j)) (λ j. hlevel props) a.in_range b.in_range i;
}

-- timestamps with the same two numbers are the same
pub same_timestamp : (s t : OffsetTimestamp) → s.instant.nanosecond ≡ t.instant.nanosecond
    → s.offset.seconds ≡ t.offset.seconds → s ≡ t
same_timestamp s t e f = λ i. record {
  instant = same_instant s.instant t.instant e i;
  offset = same_offset s.offset t.offset f i;
}

-- a text is one of at most one timestamp
pub one_timestamp : (text : List ℕ) (s t : OffsetTimestamp) → IsStampText text s → IsStampText text t → s ≡ t
one_timestamp text s t h k =
    let same = one_stamp text _ _ _ _ h k in same_timestamp s t same.0 same.1

-- ---- what a header may know of a text that has a stamp

-- a text is no shorter than a date, a clock and an offset of one character
front_length : (C : Class) {t u : Text} {v : C.Value} → (f : Front C t u v) → length t ≡ length f.piece + length u
front_length C {u = u} f = ap length f.whole ∙ length-append f.piece u

letter_length : {t u : Text} {v : Unit {0}} → Front (letter 84) t u v → length t ≡ 1 + length u
letter_length {u = u} f =
    front_length (letter 84) f ∙ ap (λ (n : ℕ). n + length u) (elim f.is [ inl e ↦ ap length e | inr e ↦ ap length e ])

pair_length : (c limit : ℕ) {t u : Text} {n : ℕ} → Front (after c (pair limit)) t u n → length t ≡ 3 + length u
pair_length c limit f = omega (arith, front_length _ f, ap length f.is.1, ap length f.is.2.0)

pub text_long : {t q : Text} {w : Rfc3339Fields} → Front stamp_text t q w → 20 ≤ length t
text_long {t} {q} f =
    let (vs, h, _) = f.is in
    let (_, f1, (_, f2, (_, f3, (_, f4, (_, f5, (_, f6, (_, f7, (_, f8, (_, f9, _))))))))) =
    row_pieces stamp_row {vs = vs} (record { piece = f.piece; whole = f.whole; is = h }) in
    let (_, _, e) = offset_filled f9.piece _ _ f9.is in
    let first = front_length year f1 in let four = ap length f1.is.0 in
    let hour = front_length (pair 100) f5 in let two = ap length f5.is.0 in
    let decimal = front_length fraction f8 in
    let last = front_length offset f9 in let one = ap length e in
    omega (
      arith,
      pair_length 45 100 f2,
      pair_length 45 100 f3,
      letter_length f4,
      pair_length 58 100 f6,
      pair_length 58 61 f7,
    )

-- the year of the text, which a dash follows
pub begins_with_year : (text : Text) (w : Rfc3339Fields) → stamp_text.Is text [] w
    → (y : ℕ) × (rest : Text) × (text ≡ pad4 y ++ (45 ∷ rest)) × (y < 10_000)
begins_with_year text w (vs, h, e) =
    let (u, f, (_, g, _)) = row_pieces stamp_row (piece_front (Row stamp_row) text [] vs h) in
    let (rest, same, _) = spaced_parts (pair 100) g in (
      vs.0,
      rest,
      sym (append-nil text) ∙ f.whole ∙ ap (λ (x : Text). x ++ u) f.is.0 ∙ ap (λ (x : Text). pad4 vs.0 ++ x) same,
      f.is.1,
    )

pub writes-first : (text : List ℕ) (w : Rfc3339Fields) → stamp_text.Is text [] w
    → (c : ℕ) × (rest : List ℕ) × (text ≡ c ∷ rest) × IsAsciiDigit c
writes-first text w h =
    let (y, rest, e, fits) = begins_with_year text w h in (48 + y / 100 / 10, _, e, (omega arith, omega arith))

-- the year of the text: four digits, which a dash follows
pub stamp_text-year : (text : List ℕ) (s : OffsetTimestamp) → IsStampText text s
    → (year : List ℕ) × (rest : List ℕ) × (text ≡ year ++ (45 ∷ rest)) × Each is_ascii_digit year
stamp_text-year text s (w, h, stamp) =
    let (y, rest, e, fits) = begins_with_year text w h in (pad4 y, rest, e, grind (arith, nat_tests))

-- ---- the timestamp of a header, as a piece

-- a stamp's text is a run that a space ends
pub stamp_each : (t : Text) (s : OffsetTimestamp) → IsStampText t s → Each is_not_whitespace t
stamp_each t s (w, h, a) = each_visible t (stamp_characters t [] w h)

pub space_ends : (q r : Text) → q ≡ 32 ∷ r → Ends is_not_whitespace q
space_ends q r e = subst (λ (x : Text). Ends is_not_whitespace x) (sym e) refl

-- and begins with no dash
no_dash : (p q q' : Text) (w : Rfc3339Fields) → stamp_text.Is p [] w → p ++ q ≡ 45 ∷ q' → ⊥
no_dash p q q' w h e =
    let (c, more, f, digit) = writes-first p w h in
    let first : c ≡ 45 = heads c 45 (more ++ q) q' (ap (λ (x : Text). x ++ q) (sym f) ∙ e) in
    omega (arith, digit.0)

pub header_stamp_det : IsDeterministic header_stamp
header_stamp_det p q p' q' None None e h h' = (h ∙ sym h', refl)
header_stamp_det p q p' q' None (Some s) e h ((w, k, a), z) =
    absurd (no_dash p' q' q w k (sym e ∙ ap (λ (x : Text). x ++ q) h))
header_stamp_det p q p' q' (Some s) None e ((w, h, a), z) k =
    absurd (no_dash p q q' w h (e ∙ ap (λ (x : Text). x ++ q') k))
header_stamp_det p q p' q' (Some s) (Some t) e ((w, h, a), z) ((w', k, b), z') =
    let same = (stamp_text_det p q p' q' w w' e (stamp_alone p [] q w h) (stamp_alone p' [] q' w' k)).0 in
    (same, ap Some (one_timestamp p' s t (subst (λ (x : Text). IsStampText x s) same (w, h, a)) (w', k, b)))

-- ---- what the reader returns
-- neither an RFC 3339 text nor a dash
pub no_stamp_front : {t : Text} → NoFront stamp_text t → NoFront (exactly dash) t → NoFront header_stamp t
no_stamp_front n m p q None e h = m p q tt e h
no_stamp_front n m p q (Some v) e ((w, h, k), z) = n p q w e (stamp_alone p [] q w h)

module _ {t q : Text} {w : Rfc3339Fields} (f : Front stamp_text t q w) where
  pub stamp_front : {r : Text} (v : OffsetTimestamp) → IsStampOfRfc3339 w v → Front (exactly (32 ∷ [])) q r tt
      → Front header_stamp t q (Some v)
  stamp_front {r = r} v h g = record {
    piece = f.piece;
    whole = f.whole;
    is = ((w, stamp_alone f.piece q [] w f.is, h), (r, g.whole ∙ ap (λ (x : Text). x ++ r) g.is));
  }

  -- it has no timestamp, or no space after it
  pub no_header : ((v : OffsetTimestamp) (r : Text) → q ≡ 32 ∷ r → IsStampOfRfc3339 w v → ⊥) → NoFront header_stamp t
  no_header n p q' None e h =
      no_dash f.piece q q' w (stamp_alone f.piece q [] w f.is) (sym f.whole ∙ e ∙ ap (λ (x : Text). x ++ q') h)
  no_header n p q' (Some v) e ((w', h, k), (r, z)) =
      let g : Front stamp_text t q' w' = record { piece = p; whole = e; is = stamp_alone p [] q' w' h } in
      let (rest, same) = front_same stamp_text stamp_text_det g f in
      n v r (sym rest ∙ z) (subst (λ (x : Rfc3339Fields). IsStampOfRfc3339 x v) same k)

-- ---- a printed stamp is ASCII, so that its characters are its bytes

-- a number from -k to k
pub absolute : (z : ℤ) (k : ℕ) → IsWithin k z → unsigned_abs z ≤ k
absolute (pos n) k h = omega (arith, signed_arith, h.1)
absolute (negsuc n) k h = omega (arith, signed_arith, h.0)

offset_characters : (o : ℤ) → IsOffsetSeconds o → Each is_stamp_character (offset_text o)
unfolding offset_text
offset_characters o h =
    let minutes = (unsigned_abs o + 30) / 60 in
    let most = absolute o 93_599 h in (
      sign o,
      each_append is_stamp_character (pad2 (minutes / 60)) (58 ∷ pad2 (minutes % 60))
          (pair_characters (minutes / 60) (omega arith)) (refl, pair_characters (minutes % 60) (omega arith)),
    )
  where
    sign : (o : ℤ) → is_stamp_character (offset_sign o) ≡ true
    sign (pos n) = refl
    sign (negsuc n) = refl

year_characters : (z : ℤ) → Each is_stamp_character (year_sign z)
year_characters (pos n) = tt
year_characters (negsuc n) = (refl, tt)

date_characters : (y m d h mi s : ℕ) → y < 10_000 → m < 100 → d < 100 → h < 100 → mi < 100 → s < 100
    → Each is_stamp_character (unsigned_date_time y m d h mi s)
date_characters y m d h mi s y_in m_in d_in h_in mi_in s_in = grind (arith, nat_tests)

date_time : (f : CivilFields) → AreCivil f → Each is_stamp_character (date_time_text f)
unfolding date_time_text
date_time f there =
    let date = there.date in
    let days = days_in_month_bounds f.year f.month in
    each_append is_stamp_character (year_sign f.year) _ (year_characters f.year)
    (date_characters (unsigned_abs f.year) f.month f.day f.hour f.minute f.second
    (omega (arith, absolute f.year 9_999 date.0)) (omega (arith, date.1.1)) (omega (arith, date.2.1))
    (omega (arith, there.hour_in)) (omega (arith, there.minute_in)) (omega (arith, there.second_in)))

-- each character of a printed stamp in range is one from `+` to `z`
pub printed_stamp-characters : (n o : ℤ) → IsTimestampNanos n → IsOffsetSeconds o
    → Each is_stamp_character (printed_stamp n o)
unfolding printed_stamp
printed_stamp-characters n o h k =
    let there = (civil_fields_exist _ (in_range-at_offset n o h k)).0 in
    let f = civil_fields (n +ℤ nanos_of_seconds o) in
    each_append is_stamp_character (date_time_text f) (fraction_text f.nanosecond ++ offset_text o) (date_time f there)
    (each_append is_stamp_character (fraction_text f.nanosecond) (offset_text o)
    (fraction_characters _ [] f.nanosecond (fraction_text-is [] tt tt f.nanosecond there.nanosecond_in))
    (offset_characters o k))

-- the bytes of a printed stamp are its characters
pub printed_stamp-bytes : (s : OffsetTimestamp) → encode_utf8_all (printed_stamp s.instant.nanosecond s.offset.seconds)
    ≡ printed_stamp s.instant.nanosecond s.offset.seconds
printed_stamp-bytes s =
    encodes-IsAscii _ (each_ascii _ (printed_stamp-characters _ _ s.instant.in_range s.offset.in_range))

-- ---- a printed offset

minutes_back : (n : ℕ) → n % 60 ≡ 0 → (n + 30) / 60 * 60 ≡ n
minutes_back n whole = omega arith

signed : (b : Bool) (m : ℕ) → m < 1440 → offset.Is ((if b then 45 else 43) ∷ (pad2 (m / 60) ++ (58 ∷ pad2 (m % 60)))) []
    (if b then neg_ℤ (pos (m * 60)) else pos (m * 60))
signed b m small =
    let same : (m / 60 * 60 + m % 60) * 60 ≡ m * 60 = omega arith in
    inr (
      (b, (m / 60, (m % 60, tt))),
      (
        ((if b then 45 else 43) ∷ []) ∷ pad2 (m / 60) ∷ (58 ∷ pad2 (m % 60)) ∷ [],
        refl,
        (refl, ((refl, omega arith), ((pad2 (m % 60), refl, (refl, omega arith)), tt))),
      ),
      rw same refl,
    )

pub offset_text-is : (o : ℤ) → unsigned_abs o % 60 ≡ 0 → unsigned_abs o < 86_400 → offset.Is (offset_text o) [] o
unfolding offset_text
offset_text-is (pos n) whole small = rw (minutes_back n whole) at (signed false ((n + 30) / 60) (omega arith))
offset_text-is (negsuc n) whole small =
    rw (minutes_back (suc n) whole) at (signed true ((suc n + 30) / 60) (omega arith))

-- before no digit and no dot
offset_ends : (o : ℤ) → Ends is_ascii_digit ((offset_text o ++ []) ++ []) × Ends is_dot ((offset_text o ++ []) ++ [])
unfolding offset_text
offset_ends (pos n) = (refl, refl)
offset_ends (negsuc n) = (refl, refl)

-- ---- what is printed of a canonical timestamp has it

-- fields as they print, in a year from 0 on
fields-read : (f : CivilFields) (n o : ℤ) → pos 0 ≤ℤ f.year → AreCivil f → IsTimestampNanos n
    → nanos_of_fields f ≡ n +ℤ nanos_of_seconds o → offset.Is (offset_text o) [] o
    → HasStamp (date_time_text f ++ (fraction_text f.nanosecond ++ offset_text o)) n o
unfolding date_time_text
fields-read f n o from there range nanos zone =
    let y = unsigned_abs f.year in
    let e : f.year ≡ pos y = sym (from_start f.year from) in
    let least : min f.second 59 ≡ f.second = omega (arith, there.second_in) in
    let date = there.date in
    let days = days_in_month_bounds f.year f.month in
    let vs : Values stamp_row =
    (y, (f.month, (f.day, (tt, (f.hour, (f.minute, (f.second, (f.nanosecond, (o, tt))))))))) in
    let same : fields_of_rfc3339 (written_of vs) ≡ f = rw (← e, least) in
    let count : nanos_of_fields (fields_of_rfc3339 (written_of vs)) ≡ n +ℤ nanos_of_seconds o =
    ap nanos_of_fields same ∙ nanos in
    let ends = offset_ends o in
    let ps : List Text =
    pad4 y ∷ (45 ∷ pad2 f.month) ∷ (45 ∷ pad2 f.day) ∷ (84 ∷ []) ∷ pad2 f.hour ∷ (58 ∷ pad2 f.minute)
    ∷ (58 ∷ pad2 f.second) ∷ fraction_text f.nanosecond ∷ offset_text o ∷ [] in
    let each : Divides stamp_row ps [] vs =
    (refl, omega (arith, signed_arith, date.0.1)) also (pad2 f.month, refl, (refl, omega (arith, date.1.1)))
    also (pad2 f.day, refl, (refl, omega (arith, date.2.1))) also inl refl also (refl, omega (arith, there.hour_in))
    also (pad2 f.minute, refl, (refl, omega (arith, there.minute_in)))
    also (pad2 f.second, refl, (refl, omega (arith, there.second_in)))
    also fraction_text-is _ ends.0 ends.1 f.nanosecond there.nanosecond_in also zone also tt in (
      written_of vs,
      (vs, (ps, rw e (simp (append_assoc, append-nil)), each), refl),
      fields_stamp (written_of vs) n o (rw same there) (omega (arith, signed_arith, count)) refl range,
    )

pub printed_stamp_back : (s : OffsetTimestamp) → IsCanonicalStamp s
    → IsStampText (printed_stamp s.instant.nanosecond s.offset.seconds) s
unfolding printed_stamp
printed_stamp_back s p =
    let n = s.instant.nanosecond in
    let o = s.offset.seconds in
    let fields = civil_fields_exist _ (in_range-at_offset n o s.instant.in_range s.offset.in_range) in
    fields-read _ n o p.year_from fields.0 s.instant.in_range fields.1 (offset_text-is o p.minutes p.day)

-- ---- a timestamp that a text has is canonical

numeric-canonical : (p q : Text) (vs : Values numeric_row) → (Row numeric_row).Is p q vs
    → (unsigned_abs (seconds_of vs) % 60 ≡ 0) × (unsigned_abs (seconds_of vs) < 86_400)
numeric-canonical p q (b, vs) h =
    let (_, _, (_, hours, (_, minutes, _))) = row_pieces numeric_row (piece_front (Row numeric_row) p q (b, vs) h) in
    let hours_in = hours.is.1 in
    let minutes_in = minutes.is.2.1 in
    sized b ((vs.0 * 60 + vs.1.0) * 60) (omega arith) (omega arith)
  where
    sized : (b : Bool) (n : ℕ) → n % 60 ≡ 0 → n < 86_400 → (unsigned_abs (if b then neg_ℤ (pos n) else pos n) % 60 ≡ 0)
        × (unsigned_abs (if b then neg_ℤ (pos n) else pos n) < 86_400)
    sized true n m h = (omega (arith, signed_arith), omega (arith, signed_arith))
    sized false n m h = (m, h)

offset-canonical : (p q : Text) (o : ℤ) → offset.Is p q o → (unsigned_abs o % 60 ≡ 0) × (unsigned_abs o < 86_400)
offset-canonical p q o (inl (u, l, e)) = rw e (refl, omega arith)
offset-canonical p q o (inr (vs, h, e)) = rw e (numeric-canonical p q vs h)

-- a clock at the offset shows what the text wrote
pub shows_written : (w : Rfc3339Fields) (n o : ℤ) → HasRfc3339Stamp w n o
    → civil_fields (n +ℤ nanos_of_seconds o) ≡ fields_of_rfc3339 w
shows_written w n o h =
    let (there, instant) = stamp_fields w n o h in
    shows_fields (fields_of_rfc3339 w) n o there
    (omega (arith, signed_arith, instant, ap nanos_of_seconds h.at_offset))

pub stamp_text_canonical : (text : List ℕ) (s : OffsetTimestamp) → IsStampText text s → IsCanonicalStamp s
stamp_text_canonical text s (w, (vs, h, e), stamp) =
    let (_, y, (_, _, (_, _, (_, _, (_, _, (_, _, (_, _, (_, _, (_, zone, _))))))))) =
    row_pieces stamp_row (piece_front (Row stamp_row) text [] vs h) in
    let offset = offset-canonical zone.piece _ _ zone.is in
    let same = stamp.at_offset ∙ ap (λ (x : Rfc3339Fields). x.offset) e in
    let year : own_year s ≡ pos vs.0 =
    ap (λ (g : CivilFields). g.year) (shows_written w _ _ stamp) ∙ ap (λ (x : Rfc3339Fields). pos x.year) e in
    let fits = y.is.1 in
    record {
      year_from = omega (arith, signed_arith);
      year_to = omega (arith, signed_arith);
      minutes = rw same offset.0;
      day = rw same offset.1;
    }

-- ---- the printed text of any timestamp

own_fields : (s : OffsetTimestamp) → AreCivil (civil_fields (s.instant.nanosecond +ℤ nanos_of_seconds s.offset.seconds))
own_fields s =
    (civil_fields_exist _ (in_range-at_offset s.instant.nanosecond s.offset.seconds s.instant.in_range
    s.offset.in_range)).0

-- no timestamp lies past the year 9999 at its own offset
pub own_year-to : (s : OffsetTimestamp) → own_year s ≤ℤ pos 9999
own_year-to s = let (year_in, _, _) = (own_fields s).date in year_in.1

-- no character of it is white space
pub printed_stamp-visible : (s : OffsetTimestamp)
    → Each is_not_whitespace (printed_stamp s.instant.nanosecond s.offset.seconds)
printed_stamp-visible s = each_visible _ (printed_stamp-characters _ _ s.instant.in_range s.offset.in_range)

begins : (year : ℤ) (y : ℕ) (more tail : List ℕ) → y < 10_000
    → BeginsWithYear ((year_sign year ++ (pad4 y ++ more)) ++ tail)
begins (pos n) y more tail h = (48 + y / 100 / 10, _, grind (arith, nat_tests), inl refl)
begins (negsuc n) y more tail h = (48 + y / 100 / 10, _, grind (arith, nat_tests), inr refl)

-- it begins with a digit, or with `-` and a digit
pub printed_stamp-begins : (s : OffsetTimestamp) → BeginsWithYear (printed_stamp s.instant.nanosecond s.offset.seconds)
unfolding printed_stamp date_time_text
printed_stamp-begins s =
    let f = civil_fields (s.instant.nanosecond +ℤ nanos_of_seconds s.offset.seconds) in
    let (year_in, _, _) = (own_fields s).date in
    let small = absolute f.year 9_999 year_in in
    begins f.year (unsigned_abs f.year) _ _ (omega arith)

-- what the law of printed stamps rests on
pub ruleset printed_word = (printed_stamp-begins, printed_stamp-visible)
