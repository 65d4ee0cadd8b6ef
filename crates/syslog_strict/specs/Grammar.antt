-- The grammar of RFC 5424, section 6, rule by rule under the RFC's names, as classes of the theory of pieces. A text
-- is a list of characters, so that what the RFC calls UTF-8-STRING is any text here. A run is maximal, which excludes
-- nothing: what follows one in the grammar is never a character of it. 34 is `"`, 43 `+`, 45 `-`, 58 `:`, 84 `T`, 90
-- `Z`.
use Rattle.std.specs.Prelude.{◌≡◌, ◌≢◌, ⊤, ℕ, pos, ◌<◌, ◌&&◌, ◌||◌, nat_eq, nat_le, not, Bool, true, false}
use Rattle.std.specs.Prelude.{List, [], ◌∷◌, ◌++◌, length, map}
use Rattle.std.specs.Char.{is_ascii_digit}
use Rattle.std.specs.List.{AllByRecursion}
use Rattle.jiff_core.specs.Calendar.{IsCivilDate}
use Rattle.syslog_text.specs.Pieces.Class.{Text, Class, Values, Division, Row, exactly, optional, rest, mapped, texted}
use Rattle.syslog_text.specs.Pieces.Class.{after, spaced}
use Rattle.syslog_text.specs.Pieces.Lists.{many}
use Rattle.syslog_text.specs.Pieces.Rules.{short_run, ◌or◌, such_that}
use Rattle.syslog_elements.specs.StructuredData.Element.{ElementValue}
use Rattle.syslog_elements.specs.StructuredData.Escapes.{TextUnit, pair, single, unit_text}
use Rattle.syslog_text.specs.Text.Bounded.{numeral}
use Rattle.syslog_pieces.specs.Timestamp.Rfc3339.{year, pair as two_digits}

-- ---- characters and names

abbrev pub nilvalue : Class
nilvalue = exactly (45 ∷ [])

abbrev pub sp : Class
sp = exactly (32 ∷ [])

-- PRINTUSASCII: %d33-126
abbrev pub is_printusascii : ℕ → Bool
is_printusascii c = nat_le 33 c && nat_le c 126

-- HOSTNAME, APP-NAME, PROCID and MSGID. NILVALUE is such a text, since `-` is one character of PRINTUSASCII.
abbrev pub hostname : Class
hostname = short_run is_printusascii 255

abbrev pub app_name : Class
app_name = short_run is_printusascii 48

abbrev pub procid : Class
procid = short_run is_printusascii 128

abbrev pub msgid : Class
msgid = short_run is_printusascii 32

-- ---- PRI and VERSION

-- PRIVAL, without leading zeros
abbrev pub prival : Class
prival = numeral 0 191

abbrev pub pri : List Class
pri = exactly (60 ∷ []) ∷ prival ∷ exactly (62 ∷ []) ∷ []

-- NONZERO-DIGIT 0*2DIGIT
abbrev pub version : Class
version = numeral 1 999

-- ---- TIMESTAMP

-- FULL-DATE: a date of the calendar
abbrev pub date_row : List Class
date_row = year ∷ after 45 (two_digits 100) ∷ after 45 (two_digits 100) ∷ []

abbrev pub IsDate : Values date_row → Type 0
IsDate (y, (month, (day, _))) = IsCivilDate (pos y) month day

abbrev pub full_date : Class
full_date = such_that (Row date_row) IsDate

abbrev pub time_hour : Class
time_hour = two_digits 24

-- TIME-MINUTE, and so TIME-SECOND without a leap second
abbrev pub time_minute : Class
time_minute = two_digits 60

-- TIME-SECFRAC: a dot and one to six digits
abbrev pub time_secfrac : Class
time_secfrac = after 46 (short_run is_ascii_digit 6)

abbrev pub partial_time : List Class
partial_time = time_hour ∷ after 58 time_minute ∷ after 58 time_minute ∷ optional time_secfrac ∷ []

abbrev pub sign : Class
sign = exactly (43 ∷ []) or exactly (45 ∷ [])

abbrev pub time_numoffset : List Class
time_numoffset = sign ∷ time_hour ∷ after 58 time_minute ∷ []

abbrev pub time_offset : Class
time_offset = exactly (90 ∷ []) or Row time_numoffset

-- FULL-DATE "T" FULL-TIME
abbrev pub date_time : List Class
date_time = full_date ∷ exactly (84 ∷ []) ∷ Row partial_time ∷ time_offset ∷ []

abbrev pub timestamp : Class
timestamp = nilvalue or Row date_time

-- ---- STRUCTURED-DATA

-- PRINTUSASCII but `=`, `]` and `"`; a space is none
abbrev pub is_sd_char : ℕ → Bool
is_sd_char c = is_printusascii c && not (nat_eq c 61 || (nat_eq c 93 || nat_eq c 34))

-- SD-NAME, and so SD-ID and PARAM-NAME
abbrev pub sd_name : Class
sd_name = short_run is_sd_char 32

-- a character that is escaped in a value: `\`, `"` or `]`
abbrev pub is_escaped : ℕ → Bool
is_escaped c = nat_eq c 92 || (nat_eq c 34 || nat_eq c 93)

-- one of these after a backslash
abbrev pub escape : Class
escape = record { Value = ℕ; Is = λ p q c. (p ≡ 92 ∷ c ∷ []) × (is_escaped c ≡ true) }

-- such an escape, or another character
abbrev pub IsValueUnit : TextUnit → Type 0
IsValueUnit (pair c) = is_escaped c ≡ true
IsValueUnit (single c) = is_escaped c ≡ false

abbrev pub value_unit : Class
value_unit = record { Value = TextUnit; Is = λ p q u. (p ≡ unit_text u) × IsValueUnit u }

abbrev pub param_value : Class
param_value = many value_unit

-- PARAM-NAME, `=`, `"`, PARAM-VALUE, `"`
abbrev pub param_row : List Class
param_row = texted sd_name ∷ exactly (61 ∷ []) ∷ exactly (34 ∷ []) ∷ texted param_value ∷ exactly (34 ∷ []) ∷ []

abbrev pub param_of : Values param_row → Text × Text
param_of (name, (_, (_, (value, (_, _))))) = (name, value)

abbrev pub sd_param : Class
sd_param = mapped (Row param_row) (Text × Text) param_of

-- `[`, SD-ID, any number of SD-PARAM after a space each, `]`
abbrev pub element_row : List Class
element_row = exactly (91 ∷ []) ∷ texted sd_name ∷ many (spaced sd_param) ∷ exactly (93 ∷ []) ∷ []

abbrev pub element_of : Values element_row → ElementValue
element_of (_, (id, (params, (_, _)))) = record { id = id; params = params }

abbrev pub sd_element : Class
sd_element = mapped (Row element_row) ElementValue element_of

-- no text comes twice
abbrev pub AreDistinct : List Text → Type 0
AreDistinct [] = ⊤
AreDistinct (t ∷ ts) = AllByRecursion (λ u. u ≢ t) ts × AreDistinct ts

abbrev pub ids_of : List ElementValue → List Text
ids_of es = map (λ (e : ElementValue). e.id) es

-- there is an element, and no SD-ID comes twice
abbrev pub AreElements : List ElementValue → Type 0
AreElements es = (0 < length es) × AreDistinct (ids_of es)

abbrev pub sd_elements : Class
sd_elements = such_that (many sd_element) AreElements

abbrev pub structured_data : Class
structured_data = nilvalue or sd_elements

-- ---- SYSLOG-MSG

-- HEADER, and the space after it
abbrev pub header : List Class
header = Row pri ∷ version ∷ sp ∷ timestamp ∷ sp ∷ hostname ∷ sp ∷ app_name ∷ sp ∷ procid ∷ sp ∷ msgid ∷ sp ∷ []

-- STRUCTURED-DATA [SP MSG], where MSG is any text
abbrev pub body : List Class
body = structured_data ∷ optional (spaced rest) ∷ []

-- the whole text is a piece of the class
abbrev pub IsAll : Class → Text → Type 0
IsAll C text = (v : C.Value) × C.Is text [] v

-- the whole text is in the grammar
pub record IsSyslogMsg (text : Text) : Type 0 where
  pub values : Values (header ++ body)
  pub division : Division (header ++ body) text values
