-- Lines that are pairs of a key and a value, time and host among them. 34 is `"`, 44 a comma, 45 `-`, 58 `:`, 61 `=`.
use Rattle.std.proofs.Common.{inl, inr}
use Rattle.std.specs.Prelude.{◌≡◌, ◌⊎◌, ◌||◌, ℤ, Bool, true, false, if◌then◌else◌, List, [], ◌∷◌, Option, Some, None}
use Rattle.std.specs.Prelude.{MatchOption, codes, min, nat_eq, unwrap_or}
use Rattle.std.specs.Char.{is_not_whitespace}
use Rattle.syslog_text.specs.Pieces.Class.{Text, Class, Values, Front, Division, NoDivision, Row, run, some_run}
use Rattle.syslog_text.specs.Pieces.Class.{exactly, after, mapped, optional, texted}
use Rattle.syslog_text.specs.Pieces.Lists.{many}
use Rattle.syslog_text.specs.Pieces.View.{text_eq}
use Rattle.syslog_text.specs.Text.{colon, is_blank}
use Rattle.syslog_pieces.specs.Timestamp.Rfc3339.{pair as two, seconds_of, sign, year}
use Rattle.syslog_sent.specs.Date.{fraction, iso_date}
use Rattle.syslog_sent.specs.Named.{◌otherwise◌}
use Rattle.syslog_sent.specs.Sent.{Form, SentValue, loose}
use Rattle.syslog_sent.specs.declared.dialect.Dialect.TheVariants.{KeyValue}
use Rattle.syslog_sent.specs.declared.sent.SentDate.{SentDate}
use Rattle.syslog_sent.specs.Runs.{is_unquoted, is_word_char}

-- ---- pairs

-- a value in quotes
abbrev pub quoted_row : List Class
quoted_row = exactly (34 ∷ []) ∷ texted (run is_unquoted) ∷ exactly (34 ∷ []) ∷ []

abbrev pub quoted_of : Values quoted_row → Text
quoted_of (_, (t, (_, _))) = t

abbrev pub quoted : Class
quoted = mapped (Row quoted_row) Text quoted_of

-- or a value without white space, perhaps empty
abbrev pub bare : Class
bare = texted (run is_not_whitespace)

abbrev pub either_text : Text ⊎ Text → Text
either_text (inl t) = t
either_text (inr t) = t

-- or one that a comma, a key and `=` follow, as FortiGate's are with `set format csv`: a date, a time, a number
abbrev pub part_row : List Class
part_row = exactly colon ∷ some_run is_word_char ∷ []

abbrev pub listed_row : List Class
listed_row = some_run is_word_char ∷ optional (Row part_row) ∷ optional (Row part_row) ∷ []

abbrev pub next_row : List Class
next_row = exactly (44 ∷ []) ∷ some_run is_word_char ∷ exactly (61 ∷ []) ∷ []

abbrev pub listed : Class
listed = record {
  Value = Text;
  Is = λ p q t. (texted (Row listed_row)).Is p q t × ((r : Text) × (v : Values next_row) × Front (Row next_row) q r v);
}

abbrev pub unquoted : Class
unquoted = mapped (listed otherwise bare) Text either_text

abbrev pub value : Class
value = mapped (quoted otherwise unquoted) Text either_text

-- `key=value`, after blanks or none, and after a comma or none
abbrev pub pair_row : List Class
pair_row = run is_blank ∷ optional (exactly (44 ∷ [])) ∷ texted (some_run is_word_char) ∷ exactly (61 ∷ []) ∷ value ∷ []

abbrev pub pair_of : Values pair_row → Text × Text
pair_of (_, (_, (key, (_, (v, _))))) = (key, v)

abbrev pub pair : Class
pair = mapped (Row pair_row) (Text × Text) pair_of

-- ---- what pairs note

-- the value of the first pair whose key passes the test
abbrev pub first_value : (Text → Bool) → List (Text × Text) → Option Text
first_value is_key [] = None
first_value is_key ((key, v) ∷ ps) = if is_key key then Some v else first_value is_key ps

-- FortiGate has the name of the device as `devname`, Sophos as `device_name`, SonicWall its address as `fw`, FortiMail
-- its number as `device_id`
abbrev pub is_host_key : Text → Bool
is_host_key key = text_eq key (codes "devname") || (text_eq key (codes "device_name") || (text_eq key (codes "fw")
    || text_eq key (codes "device_id")))

abbrev pub is_date_key : Text → Bool
is_date_key key = text_eq key (codes "date")

abbrev pub is_time_key : Text → Bool
is_time_key key = text_eq key (codes "time")

-- Sophos SFOS from 18 on
abbrev pub is_stamp_key : Text → Bool
is_stamp_key key = text_eq key (codes "timestamp")

abbrev pub is_zone_key : Text → Bool
is_zone_key key = text_eq key (codes "tz")

-- with these letters they begin: `d`, `f` and `t`
abbrev pub may_be_noted : Text → Bool
may_be_noted [] = false
may_be_noted (c ∷ more) = nat_eq c 100 || (nat_eq c 102 || nat_eq c 116)

-- the value that was noted, or else this one, if its key passes
abbrev pub or_value : Option Text → Bool → Text → Option Text
or_value (Some t) passes v = Some t
or_value None true v = Some v
or_value None false v = None

pub record Noted : Type 0 where
  pub date : Option Text
  pub time : Option Text
  pub stamp : Option Text
  pub zone : Option Text
  pub hostname : Option Text

abbrev pub noted : List (Text × Text) → Noted
noted ps = record {
  date = first_value is_date_key ps;
  time = first_value is_time_key ps;
  stamp = first_value is_stamp_key ps;
  zone = first_value is_zone_key ps;
  hostname = first_value is_host_key ps;
}

-- with one more pair
abbrev pub noted_more : Noted → Text → Text → Noted
noted_more n key v = record {
  date = or_value n.date (is_date_key key) v;
  time = or_value n.time (is_time_key key) v;
  stamp = or_value n.stamp (is_stamp_key key) v;
  zone = or_value n.zone (is_zone_key key) v;
  hostname = or_value n.hostname (is_host_key key) v;
}

-- ---- the date that they show

-- `YYYY-MM-DD`
abbrev pub day_row : List Class
day_row = year ∷ after 45 (two 100) ∷ after 45 (two 100) ∷ []

-- `HH:MM:SS`, and perhaps a fraction, as FortiMail writes
abbrev pub clock_row : List Class
clock_row = two 100 ∷ after 58 (two 100) ∷ after 58 (two 61) ∷ optional fraction ∷ []

-- `+HHMM`
abbrev pub offset_row : List Class
offset_row = sign ∷ two 24 ∷ two 60 ∷ []

-- second 60 is taken as 59
abbrev pub date_at : Values day_row → Values clock_row → SentDate
date_at (y, (m, (d, _))) (h, (mi, (s, (f, _)))) = record {
  date = record { year = Some y; month = m; day = d; hour = h; minute = mi; second = min s 59 };
  nanosecond = unwrap_or f 0;
  offset = None;
}

-- the date and the time, each as a value of its own
abbrev pub IsApart : Text → Text → SentDate → Type 0
IsApart d t date = (day : Values day_row) × (clock : Values clock_row) × Division day_row d day
    × Division clock_row t clock
    × (date ≡ date_at day clock)

-- the two in one value, with the zone or without it
abbrev pub IsTogether : Text → SentDate → Type 0
IsTogether t date = Division (iso_date ∷ []) t (date, tt)

-- by this time, and the date where there is one
abbrev pub IsTimed : Text → Option Text → SentDate → Type 0
IsTimed t (Some d) date = IsApart d t date
IsTimed t None date = IsTogether t date

abbrev pub IsStamped : Option Text → SentDate → Type 0
IsStamped (Some s) date = IsTogether s date
IsStamped None date = ⊥

-- by the time, or else by the timestamp
abbrev pub IsMoment : Option Text → Option Text → Option Text → SentDate → Type 0
IsMoment (Some t) d stamp date = IsTimed t d date
IsMoment None d stamp date = IsStamped stamp date

-- the offset, where one is shown in digits
abbrev pub IsOffset : Option Text → Option ℤ → Type 0
IsOffset None offset = offset ≡ None
IsOffset (Some t) offset = MatchOption offset (NoDivision offset_row t)
    (λ seconds. (vs : Values offset_row) × Division offset_row t vs × (seconds ≡ seconds_of vs))

-- the offset that the date shows, or else the other
abbrev pub or_offset : Option ℤ → Option ℤ → Option ℤ
or_offset (Some shown) other = Some shown
or_offset None other = other

abbrev pub at_offset : SentDate → Option ℤ → SentDate
at_offset d other = record { date = d.date; nanosecond = d.nanosecond; offset = or_offset d.offset other }

pub record IsShown (n : Noted) (date : SentDate) : Type 0 where
  pub shown : SentDate
  pub other : Option ℤ
  pub moment : IsMoment n.time n.date n.stamp shown
  pub offset : IsOffset n.zone other
  pub is : date ≡ at_offset shown other

-- ---- the line

-- all that is left: pairs that show a date, and anything after them
abbrev pub paired : Class
paired = record {
  Value = SentDate × Option Text × Text;
  Is = λ p q v. (q ≡ []) × (v.2 ≡ p) × ((ps : List (Text × Text)) × (r : Text) × Front (many pair) p r ps
      × IsShown (noted ps) v.0 × (v.1 ≡ (noted ps).hostname));
}

abbrev pub pairs_row : List Class
pairs_row = run is_blank ∷ paired ∷ []

abbrev pub PairsSay : Values pairs_row → SentValue → Type 0
PairsSay (_, (v, _)) s = s ≡ loose (Some v.0) v.1 None None v.2

abbrev pub pairs_form : Form
pairs_form = record { dialect = KeyValue; row = pairs_row; Means = PairsSay }
