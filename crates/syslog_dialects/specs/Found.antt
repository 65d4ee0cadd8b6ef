-- What becomes of each character of a dialect's line: it is of a text or of the date that the line says, or left out.
--
-- 40 is `(`, 41 `)`, 45 `-`, 49 `1`, 58 `:`, 91 `[`, 93 `]`.
use Rattle.std.specs.Prelude.{◌≡◌, ◌⊎◌, ◌||◌, ℕ, nat_eq, Bool, List, [], ◌∷◌, ◌++◌, Option, Some, None, codes}
use Rattle.std.specs.Char.{is_ascii_digit}
use Rattle.syslog_text.specs.Pieces.Class.{Text, Class, Each, Front, Row, join, exactly, mapped, some_run, spaced}
use Rattle.syslog_text.specs.Pieces.Lists.{many}
use Rattle.syslog_text.specs.Pieces.Rules.{such_that}
use Rattle.syslog_text.specs.Text.{host, is_blank, number, tag_word}
use Rattle.syslog_loose.specs.Bodies.Start.{IsAfterPriority}
use Rattle.syslog_loose.specs.Message.{MessageValue}
use Rattle.syslog_loose.specs.declared.dates.Dates.{Dates}
use Rattle.syslog_dated_forms.specs.Cisco.{cisco_row, counter_row, date_row, dated_in, mark, mnemonic, origin, place}
use Rattle.syslog_dated_forms.specs.Cisco.{task_row, unit}
use Rattle.syslog_sent.specs.Date.{any_date, bsd_date, iso_date}
use Rattle.syslog_sent.specs.Date.{weekday}
use Rattle.syslog_dated_forms.specs.Esxi.{mark_row}
use Rattle.syslog_dated_forms.specs.Kiwi as kiwi
use Rattle.syslog_dated_forms.specs.InBrackets.{stamp_date}
use Rattle.syslog_dated_forms.specs.IosXr.{node}
use Rattle.syslog_dated_forms.specs.NetScaler.{slashed_date}
use Rattle.syslog_named_forms.specs.Devices.{point_word}
use Rattle.syslog_named_forms.specs.Graded.{event_end_row, grade_row, level_row, source_row}
use Rattle.syslog_named_forms.specs.Monotonic.{seconds_row}
use Rattle.syslog_named_forms.specs.Programs.{IsSerial, aix_row}
use Rattle.syslog_named_forms.specs.Unified.{close_row, kept_row, kind, thread_row}
use Rattle.syslog_named_forms.specs.Pairs.{IsShown, noted, pair}
use Rattle.syslog_sent.specs.Selector.{selector_row, severity}
use Rattle.syslog_sent.specs.Runs.{is_plain_char}
use Rattle.syslog_sent.specs.Sent.{SentValue}
use Rattle.syslog_dialects.specs.Paired.{IsOpened}
use Rattle.syslog_dialects.specs.SentLine.{IsMessageSent}
use Rattle.syslog_dated_forms.specs.SophosUtm.{colon_date}
use Rattle.syslog_dated_forms.specs.Ucm.{half_date}
use Rattle.syslog_dated_forms.specs.Undated.{uptime}
use Rattle.syslog_dated_forms.specs.UnixSeconds.{unix_date}
use Rattle.syslog_sent.specs.declared.dialect.Dialect.{Dialect}
use Rattle.syslog_sent.specs.declared.dialect.Dialect.TheVariants.{Bracketed, BsdDate, CiscoAsa, CiscoIos, CiscoIosXr}
use Rattle.syslog_sent.specs.declared.dialect.Dialect.TheVariants.{CiscoNxOs, CiscoUndated, Esxi, Forwarded}
use Rattle.syslog_sent.specs.declared.dialect.Dialect.TheVariants.{Journal}
use Rattle.syslog_sent.specs.declared.dialect.Dialect.TheVariants.{KeyValue, NearlyRfc3339, NetScaler, ProCurve}
use Rattle.syslog_sent.specs.declared.dialect.Dialect.TheVariants.{SeverityFirst, SophosUtm, UnixSeconds}
use Rattle.syslog_sent.specs.declared.dialect.Dialect.TheVariants.{Monotonic, UniFi, UnifiedLog, WatchGuard}
use Rattle.syslog_sent.specs.declared.sent.SentDate.{SentDate}

-- ---- what is left out

-- in each dialect: a blank, a colon, a bracket of a process id, and `-`, by which a name is absent
abbrev pub is_sign : ℕ → Bool
is_sign c = is_blank c || (nat_eq c 58 || (nat_eq c 91 || (nat_eq c 93 || nat_eq c 45)))

-- a piece of the first class, where one of the second follows
infixr 20 ◌followed_by◌
abbrev pub ◌followed_by◌ : Class → Class → Class
◌followed_by◌ C D =
    record { Value = C.Value; Is = λ p q v. C.Is p q v × ((r : Text) × (w : D.Value) × Front D q r w) }

-- A host, where the tag `-` follows, which names no program. The port drops it too.
abbrev pub host_alone : Class
host_alone = spaced host followed_by spaced (such_that tag_word (λ v. v ≡ None))

-- what a collector adds before a whole line of Cisco's: its date, and then the device
abbrev pub filed_rest : List Class
filed_rest = some_run is_blank ∷ Row cisco_row ∷ []

abbrev pub filed_date : Class
filed_date = any_date followed_by Row (some_run is_blank ∷ origin ∷ filed_rest)

abbrev pub filed_device : Class
filed_device = origin followed_by Row filed_rest

-- what is between the date and Cisco's tag, a host among it
abbrev pub second_place : Class
second_place = place followed_by mnemonic

abbrev pub forwarded_words : Class
forwarded_words = exactly (codes "Message forwarded from ")

-- the host that passes a line on
abbrev pub relay : Class
relay = host followed_by Row (some_run is_blank ∷ forwarded_words ∷ [])

-- the number of a Firebox, after a host or without one, and its date in brackets
abbrev pub serial : List Class
serial = some_run is_plain_char ∷ exactly (32 ∷ []) ∷ exactly (40 ∷ []) ∷ iso_date ∷ exactly (41 ∷ []) ∷ []

abbrev pub first_serial : List Class
first_serial = such_that host IsSerial ∷ some_run is_blank ∷ exactly (40 ∷ []) ∷ iso_date ∷ exactly (41 ∷ []) ∷ []

-- counters and sequence numbers, the task, the mark of a clock, a collector's date, and a unit or a virtual device
abbrev pub cisco_left_out : List Class
cisco_left_out = Row counter_row ∷ Row task_row ∷ mark ∷ filed_date ∷ unit ∷ []

-- What a dialect leaves out besides. These are IOS-XR's card, a day of the week, a facility and a severity in words, in
-- angles, in brackets or between tabs, ESXi's level with its number, the number of ProCurve's event, Meraki's `1`, how
-- long a device or a system has run, the address and version of an access point, the addresses of another in angles,
-- the severity of an event, and the columns of macOS's log. In the others it is nothing.
abbrev pub left_out : Dialect → List Class
left_out CiscoIos = cisco_left_out
left_out CiscoNxOs = cisco_left_out
left_out CiscoAsa = cisco_left_out
left_out CiscoUndated = Row counter_row ∷ uptime ∷ []
left_out CiscoIosXr = Row counter_row ∷ node ∷ []
left_out BsdDate = host_alone ∷ weekday ∷ Row source_row ∷ []
left_out NearlyRfc3339 = host_alone ∷ []
left_out NetScaler = host_alone ∷ []
left_out SophosUtm = host_alone ∷ []
left_out Journal = host_alone ∷ weekday ∷ []
left_out SeverityFirst = weekday ∷ severity ∷ Row selector_row ∷ Row grade_row ∷ Row level_row ∷ Row aix_row
    ∷ Row kiwi.level_row ∷ []
left_out Esxi = Row mark_row ∷ []
left_out ProCurve = some_run is_ascii_digit ∷ []
left_out UnixSeconds = exactly (49 ∷ []) ∷ []
left_out Forwarded = forwarded_words ∷ []
left_out WatchGuard = Row serial ∷ Row first_serial ∷ []
left_out Monotonic = Row seconds_row ∷ []
left_out UnifiedLog = Row thread_row ∷ Row kept_row ∷ kind ∷ Row close_row ∷ []
left_out UniFi = point_word ∷ []
left_out Bracketed = weekday ∷ Row event_end_row ∷ []
left_out _ = []

-- the other hosts that a line shows beside the one that it says
abbrev pub cisco_hosts : List Class
cisco_hosts = second_place ∷ filed_device ∷ []

abbrev pub other_hosts : Dialect → List Class
other_hosts CiscoIos = cisco_hosts
other_hosts CiscoNxOs = cisco_hosts
other_hosts CiscoAsa = cisco_hosts
other_hosts Forwarded = relay ∷ []
other_hosts _ = []

-- these are left out where the line says a host
abbrev pub beside : Option Text → List Class → List Class
beside None hosts = []
beside (Some _) hosts = hosts

-- all that is left out of a line that says this host, or none
abbrev pub left_of : Dialect → Option Text → List Class
left_of dialect hostname = left_out dialect ++ beside hostname (other_hosts dialect)

-- the piece is of one of the classes
abbrev pub IsOfOne : List Class → Text → Text → Type 0
IsOfOne [] p q = ⊥
IsOfOne (C ∷ Cs) p q = ((v : C.Value) × C.Is p q v) ⊎ IsOfOne Cs p q

-- the piece is signs, or of a class that is left out
abbrev pub IsLeftOut : List Class → Text → Text → Type 0
IsLeftOut left p q = Each is_sign p ⊎ IsOfOne left p q

-- ---- what is said

-- what a piece says: the version of RFC 5424, the date, or a text, which is the piece itself
pub data Part : Type 0 where
  Version : ℕ → Part
  Date : SentDate → Part
  Name : Text → Part

-- Cisco's, before which the year may be
abbrev pub cisco_date : Class
cisco_date = mapped (Row date_row) SentDate (λ v. dated_in v.0 v.1.0)

-- The piece is the date, by one of the forms. A zone's name that says no offset is of the date, and so is the day of
-- the week in brackets.
abbrev pub IsDateOf : Text → Text → SentDate → Type 0
IsDateOf p q d = bsd_date.Is p q d ⊎ (iso_date.Is p q d ⊎ (cisco_date.Is p q d
    ⊎ (slashed_date.Is p q d ⊎ (colon_date.Is p q d ⊎ (unix_date.Is p q d ⊎ (stamp_date.Is p q d
    ⊎ half_date.Is p q d))))))

-- the piece, before the text that follows it, says this
abbrev pub Says : Text → Text → Part → Type 0
Says p q (Version n) = (number 999).Is p q n
Says p q (Date d) = IsDateOf p q d
Says p q (Name t) = p ≡ t

-- each piece, before those after it and the message, is left out, or says the next part; all parts are said
abbrev pub AreTold : List Class → List Text → Text → List Part → Type 0
AreTold left [] msg parts = parts ≡ []
AreTold left (p ∷ ps) msg parts =
    (IsLeftOut left p (join ps ++ msg) × AreTold left ps msg parts)
    ⊎ ((x : Part) × (more : List Part) × (parts ≡ x ∷ more) × Says p (join ps ++ msg) x × AreTold left ps msg more)

-- the text is such pieces, and then the message
pub record Tells (left : List Class) (text : Text) (parts : List Part) (msg : Text) : Type 0 where
  pub pieces : List Text
  pub whole : text ≡ join pieces ++ msg
  pub each : AreTold left pieces msg parts

-- ---- what a line says

abbrev pub if_there : {A : Type 0} → (A → Part) → Option A → List Part → List Part
if_there part None more = more
if_there part (Some x) more = part x ∷ more

-- the app name, the process and the message id
abbrev pub later_names : SentValue → List Part
later_names sent = if_there Name sent.appname (if_there Name sent.process (if_there Name sent.msgid []))

-- all before the message, in order: the date comes before the host, or after it, as Cisco's may
abbrev pub date_first : SentValue → List Part
date_first sent = if_there Version sent.version (if_there Date sent.date
    (if_there Name sent.hostname (later_names sent)))

abbrev pub host_first : SentValue → List Part
host_first sent = if_there Version sent.version (if_there Name sent.hostname
    (if_there Date sent.date (later_names sent)))

-- as macOS's log has them, the process before the program
abbrev pub process_first : SentValue → List Part
process_first sent = if_there Version sent.version (if_there Date sent.date (if_there Name sent.hostname
    (if_there Name sent.process (if_there Name sent.appname (if_there Name sent.msgid [])))))

abbrev pub IsTold : List Class → Text → SentValue → Type 0
IsTold left text sent = Tells left text (date_first sent) sent.msg ⊎ Tells left text (host_first sent) sent.msg

-- ---- lines of pairs

-- those of the texts that are there are pieces of this one, in order: each begins after the end of the one before it
abbrev pub AreInOrder : List (Option Text) → Text → Type 0
AreInOrder [] text = Unit {0}
AreInOrder (None ∷ ts) text = AreInOrder ts text
AreInOrder (Some t ∷ ts) text = (before : Text) × (after : Text) × (text ≡ before ++ (t ++ after))
    × AreInOrder ts after

-- the host, the app name, the process and the message id
abbrev pub names_of : SentValue → List (Option Text)
names_of sent = sent.hostname ∷ sent.appname ∷ sent.process ∷ sent.msgid ∷ []

-- the text begins with pairs, which show the date
abbrev pub ShowPairs : Text → Option SentDate → Type 0
ShowPairs text date = (d : SentDate) × (date ≡ Some d)
    × ((ps : List (Text × Text)) × (r : Text) × Front (many pair) text r ps × IsShown (noted ps) d)

-- All but signs is the message. The names are found in it, and the date is that of its pairs.
abbrev pub AreInPairs : Text → SentValue → Type 0
AreInPairs text sent = Tells [] text [] sent.msg × AreInOrder (names_of sent) sent.msg × ShowPairs sent.msg sent.date

-- ---- lines

-- each character of the text, which follows a priority or none, is accounted for
abbrev pub AreFound : Dialect → Text → SentValue → Type 0
AreFound dialect text sent =
    IsTold (left_of dialect sent.hostname) text sent ⊎ (((dialect ≡ KeyValue) × AreInPairs text sent)
    ⊎ ((dialect ≡ UnifiedLog) × Tells (left_of dialect sent.hostname) text (process_first sent) sent.msg))

-- The text is a priority or none, and a text of which each character is accounted for. The message is that of what the
-- text says: by `IsMessageSent` its timestamp is that of the date, and its facility and severity those of the priority.
-- Check Point's element, which begins the message, is the structured data; the message is what follows it.
pub record IsFoundIn (dates : Dates) (dialect : Dialect) (text : Text) (m : MessageValue) : Type 0 where
  pub priority : Option ℕ
  pub follows : Text
  pub sent : SentValue
  pub front : IsAfterPriority text priority follows
  pub found : AreFound dialect follows sent
  pub whole : MessageValue
  pub says : IsMessageSent dates priority sent whole
  pub opened : IsOpened dialect whole m
