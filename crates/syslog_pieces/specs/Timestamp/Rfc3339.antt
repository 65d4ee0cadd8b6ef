-- The texts of RFC 3339 section 5.6, as a row of pieces, and their stamps: 43 is `+`, 45 `-`, 46 `.`, 58 `:`, 84 `T`,
-- 90 `Z`.
use Rattle.std.specs.Prelude.{◌≡◌, ◌⊎◌, ℕ, ℤ, pos, neg_ℤ, ◌+◌, ◌*◌, ◌<◌, ◌-ℤ◌, min, Bool, nat_eq, if◌then◌else◌, List}
use Rattle.std.specs.Prelude.{[], ◌∷◌}
use Rattle.std.specs.Char.{is_ascii_digit}
use Rattle.jiff.specs.Types.{DateTime}
use Rattle.jiff.specs.Words.{IsTimestampNanos, civil_nanos, nanos_of_seconds}
use Rattle.jiff_fmt.specs.Reader.{fraction_value}
use Rattle.jiff_fmt.specs.Text.{pad2, pad4}
use Rattle.syslog_text.specs.Pieces.Class.{Text, Class, Values, Row, Ends, some_run, after, either, mapped, texted}
use Rattle.syslog_pieces.specs.declared.timestamp.rfc3339_text.Rfc3339Fields.{Rfc3339Fields}
use Rattle.syslog_pieces.specs.Timestamp.Fields.{IsDateTime}

-- two digits, of a number below a limit
abbrev pub pair : ℕ → Class
pair limit = record { Value = ℕ; Is = λ p q n. (p ≡ pad2 n) × (n < limit) }

-- four digits
abbrev pub year : Class
year = record { Value = ℕ; Is = λ p q n. (p ≡ pad4 n) × (n < 10_000) }

-- a letter in either case, by its upper case
abbrev pub letter : ℕ → Class
letter upper = record { Value = Unit {0}; Is = λ p q _. (p ≡ upper ∷ []) ⊎ (p ≡ (upper + 32) ∷ []) }

-- one or more digits as decimals: in nanoseconds, without the digits past nine
abbrev pub decimals : Class
decimals = mapped (texted (some_run is_ascii_digit)) ℕ (λ ds. fraction_value 9 ds)

-- a dot and decimals, or nothing before what is no dot
abbrev pub fraction : Class
fraction = either ℕ (λ p q n. (p ≡ []) × Ends (λ c. nat_eq c 46) q × (n ≡ 0)) (after 46 decimals).Is

-- `-` or `+`, and whether it is `-`
abbrev pub sign : Class
sign = record { Value = Bool; Is = λ p q behind. p ≡ (if behind then 45 else 43) ∷ [] }

-- a sign, and `HH:MM`
abbrev pub numeric_row : List Class
numeric_row = sign ∷ pair 24 ∷ after 58 (pair 60) ∷ []

abbrev pub seconds_of : Values numeric_row → ℤ
seconds_of (behind, (hours, (minutes, _))) =
    let seconds = pos ((hours * 60 + minutes) * 60) in if behind then neg_ℤ seconds else seconds

-- `Z`, or a sign and `HH:MM`: in seconds
abbrev pub offset : Class
offset = either ℤ (mapped (letter 90) ℤ (λ _. pos 0)).Is (mapped (Row numeric_row) ℤ seconds_of).Is

-- `YYYY-MM-DD`, `T`, `HH:MM:SS`, the fraction and the offset
abbrev pub stamp_row : List Class
stamp_row =
    year ∷ after 45 (pair 100) ∷ after 45 (pair 100) ∷ letter 84 ∷ pair 100 ∷ after 58 (pair 100) ∷ after 58 (pair 61)
    ∷ fraction ∷ offset ∷ []

abbrev pub written_of : Values stamp_row → Rfc3339Fields
written_of (y, (m, (d, (_, (h, (mi, (s, (n, (o, _))))))))) = record {
  year = y;
  month = m;
  day = d;
  hour = h;
  minute = mi;
  second = s;
  nanosecond = n;
  offset = o;
}

-- an RFC 3339 text, which means the numbers that it writes
abbrev pub stamp_text : Class
stamp_text = mapped (Row stamp_row) Rfc3339Fields written_of

-- there is such a date and time of day, where second 60 is taken as 59; n is its instant at the offset o, and in range
pub record HasRfc3339Stamp (w : Rfc3339Fields) (n o : ℤ) : Type 0 where
  pub shown : DateTime
  pub shows : IsDateTime shown (pos w.year) w.month w.day w.hour w.minute (min w.second 59) w.nanosecond
  pub instant : n ≡ civil_nanos shown -ℤ nanos_of_seconds w.offset
  pub at_offset : o ≡ w.offset
  pub in_range : IsTimestampNanos n

-- the text writes a time at the offset o, in seconds, whose instant is n, in nanoseconds
abbrev pub HasStamp : Text → ℤ → ℤ → Type 0
HasStamp text n o = (w : Rfc3339Fields) × stamp_text.Is text [] w × HasRfc3339Stamp w n o
