-- A date that begins a text, and what has none.
use Rattle.std.proofs.Common.{◌≡◌, inl, inr, ℕ, ◌<◌, ◌≤◌, List, [], ◌∷◌, ◌++◌, length, refl, sym, ap, subst, ◌∙◌}
use Rattle.std.proofs.Common.{arith, length-append}
use Rattle.std.proofs.lemmas.Str.{encodes-append, encodes-chars, length-le-encodes}
use Rattle.std.specs.Str.{IsUtf8, chars, encode_utf8_all}
use Rattle.syslog_text.specs.Pieces.Class.{Text, Values, Front, NoFront, Row}
use Rattle.syslog_pieces.specs.Timestamp.Rfc3339.{year}
use Rattle.syslog_text.proofs.PieceLemmas.Class.{front_of, mapped_front, no_mapped}
use Rattle.syslog_text.proofs.PieceLemmas.Class.{row_pieces}
use Rattle.syslog_text.proofs.PieceLemmas.Lists.{Begins, begins_apart}
use Rattle.syslog_pieces.proofs.TimestampLemmas.MonthDate.{IsLetter, month_date_begins}
use Rattle.syslog_sent.specs.Date.{any_date, bsd_date, bsd_of, bsd_row, iso_date, iso_row, one_of_dates}
use Rattle.syslog_sent.specs.Led.{IsDate, date_of}
use Rattle.syslog_sent.specs.Named.{◌otherwise◌}
use Rattle.syslog_sent.specs.declared.led.LeadingDate.{LeadingDate}
use Rattle.syslog_sent.specs.declared.led.LeadingDate.TheVariants.{Month, Iso}
use Rattle.syslog_sent.specs.declared.sent.SentDate.{SentDate}
use Rattle.syslog_sent.proofs.NamedLemmas.{first_front, no_otherwise, second_front}

-- ---- one date

-- the date that begins a text, as one of any form
pub any_front : (d : LeadingDate) {t r : Text} → IsDate d t r → Front any_date t r (date_of d)
any_front (Month d) f = mapped_front (bsd_date otherwise iso_date) SentDate one_of_dates
    (first_front (mapped_front (Row bsd_row) SentDate bsd_of f))
any_front (Iso d) (n, f) = mapped_front (bsd_date otherwise iso_date) SentDate one_of_dates
    (second_front (no_mapped (Row bsd_row) SentDate bsd_of n) f)

pub no_any : {t : Text} → NoFront (Row bsd_row) t → NoFront iso_date t → NoFront any_date t
no_any n m = no_mapped (bsd_date otherwise iso_date) SentDate one_of_dates
    (no_otherwise (no_mapped (Row bsd_row) SentDate bsd_of n) m)

-- a text that begins with no date begins with none of either form
pub not_month : {t : Text} → NoFront any_date t → NoFront (Row bsd_row) t
not_month {t} n p q vs e h = n p q _ e
    (inl (bsd_of vs), (vs, h, refl), refl)

pub not_iso : {t : Text} → NoFront any_date t → NoFront iso_date t
not_iso {t} n p q d e h = n p q _ e (
  inr d,
  (subst (λ (x : Text). NoFront bsd_date x) e (no_mapped (Row bsd_row) SentDate bsd_of (not_month n)), h),
  refl,
)

pub year_begins : (p q : Text) (y : ℕ) → year.Is p q y → Begins (λ c. c < 65) (p ++ q)
year_begins p q y h = rw h.0 (omega arith)

-- a month date begins with a letter, and a date of RFC 3339 with a digit
pub apart : {t r : Text} {vs : Values bsd_row} → Front (Row bsd_row) t r vs → NoFront iso_date t
apart {t} f p q d e (vs, h, is) =
    let (s, day, more) = row_pieces bsd_row f in
    let (u, y, rest) = row_pieces iso_row (front_of p e h) in
    begins_apart {H = IsLetter} {K = λ c. c < 65} t (λ c low k. omega (arith, low, k))
    (rw day.whole (month_date_begins day.piece s _ day.is)) (rw y.whole (year_begins y.piece u _ y.is))

-- ---- two ends of a text that have one length

encoded_none : (q : Text) → length (encode_utf8_all q) ≤ 0 → q ≡ []
encoded_none [] h = refl
encoded_none (c ∷ q) h =
    let l : length (c ∷ q) ≤ length (encode_utf8_all (c ∷ q)) = length-le-encodes (c ∷ q) in absurd (omega arith)

-- the end is as long as what the other begins with and it
no_more : (q : Text) (x y : List ℕ) → IsUtf8 x → IsUtf8 y → length x ≡ length y → chars x ≡ q ++ chars y → q ≡ []
no_more q x y u v l e =
    let whole : x ≡ encode_utf8_all q ++ y = sym (encodes-chars x u) ∙ ap encode_utf8_all e ∙ encodes-append q (chars y)
    ∙ ap (λ (z : List ℕ). encode_utf8_all q ++ z) (encodes-chars y v) in
    encoded_none q (omega (arith, l, ap length whole, length-append (encode_utf8_all q) y))

pub one_end : (p q : Text) (x y : List ℕ) → IsUtf8 x → IsUtf8 y → length x ≡ length y → p ++ chars x ≡ q ++ chars y
    → chars x ≡ chars y
one_end [] q x y u v l e = e ∙ ap (λ (z : Text). z ++ chars y) (no_more q x y u v l e)
one_end (c ∷ p) [] x y u v l e = sym (ap (λ (z : Text). z ++ chars x) (no_more (c ∷ p) y x v u (sym l) (sym e))) ∙ e
one_end (c ∷ p) (d ∷ q) x y u v l e = one_end p q x y u v l (let f : c ∷ (p ++ chars x) ≡ d ∷ (q ++ chars y) = e in cc)
