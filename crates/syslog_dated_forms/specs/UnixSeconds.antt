-- Lines whose date is the seconds since 1970-01-01T00:00:00Z and a fraction. Those of Cisco Meraki have the version of
-- RFC 5424 before it, or else one of its types of messages ("Syslog Event Types and Log Samples"). Those of
-- `journalctl -o short-unix` have a host and a program after it.
-- 49 is `1`.
use Rattle.std.specs.Prelude.{◌≡◌, ℕ, ◌≤◌, ◌*◌, pos, true, unsigned_abs, List, [], ◌∷◌, Option, Some, None, MatchOption}
use Rattle.std.specs.Prelude.{chars, codes, map}
use Rattle.jiff.specs.Types.{DateTime}
use Rattle.syslog_pieces.specs.Timestamp.Fields.{fields_of}
use Rattle.syslog_text.specs.Pieces.Class.{Text, Class, Values, Row, run, some_run, exactly, rest, mapped}
use Rattle.syslog_text.specs.Pieces.Rules.{such_that}
use Rattle.syslog_text.specs.Text.{host, is_blank, number}
use Rattle.syslog_pieces.specs.Timestamp.Printed.{civil_fields}
use Rattle.syslog_pieces.specs.declared.timestamp.fields.CivilFields.{CivilFields}
use Rattle.syslog_dated_forms.specs.Cisco.{origin}
use Rattle.syslog_sent.specs.Date.{fraction}
use Rattle.syslog_sent.specs.Named.{beginning, program}
use Rattle.syslog_sent.specs.Sent.{Form, SentValue, loose}
use Rattle.syslog_sent.specs.Zone.{bare_word, is_among}
use Rattle.syslog_sent.specs.declared.dialect.Dialect.TheVariants.{UnixSeconds}
use Rattle.syslog_sent.specs.declared.sent.SentDate.{SentDate}

-- ten digits: from September 2001 on
abbrev pub IsLate : ℕ → Type 0
IsLate n = 1_000_000_000 ≤ n

abbrev pub seconds : Class
seconds = such_that (number 4294967295) IsLate

abbrev pub unix_row : List Class
unix_row = seconds ∷ fraction ∷ []

-- what a clock in UTC shows
abbrev pub in_utc : CivilFields → ℕ → SentDate
in_utc c nanosecond = record {
  date = record {
    year = Some (unsigned_abs c.year);
    month = c.month;
    day = c.day;
    hour = c.hour;
    minute = c.minute;
    second = c.second;
  };
  nanosecond = nanosecond;
  offset = Some (pos 0);
}

-- there is such a datetime
abbrev pub ShowsAt : ℕ → Option DateTime → Type 0
ShowsAt n r = MatchOption r ⊥ (λ shown. fields_of shown ≡ civil_fields (pos (n * 1_000_000_000)))

abbrev pub unix_of : Values unix_row → SentDate
unix_of (n, (nanosecond, _)) = in_utc (civil_fields (pos (n * 1_000_000_000))) nanosecond

abbrev pub unix_date : Class
unix_date = mapped (Row unix_row) SentDate unix_of

-- the host and the message, which begins with its type
abbrev pub meraki_row : List Class
meraki_row = run is_blank ∷ exactly (49 ∷ []) ∷ some_run is_blank ∷ unix_date ∷ some_run is_blank ∷ origin
    ∷ some_run is_blank
    ∷ rest ∷ []

abbrev pub meraki_sent : Values meraki_row → SentValue
meraki_sent (_, (_, (_, (date, (_, (device, (_, (msg, _)))))))) = loose (Some date) (Some device) None None msg

abbrev pub meraki_form : Form
meraki_form = record { dialect = UnixSeconds; row = meraki_row; Means = λ v sent. sent ≡ meraki_sent v }

abbrev pub short_row : List Class
short_row = run is_blank ∷ unix_date ∷ some_run is_blank ∷ host ∷ some_run is_blank ∷ program ∷ run is_blank ∷ rest ∷ []

abbrev pub short_sent : Values short_row → SentValue
short_sent (_, (date, (_, (hostname, (_, (p, (_, (msg, _)))))))) = loose (Some date) hostname
    (Some p.name) p.process msg

abbrev pub short_form : Form
short_form = record { dialect = UnixSeconds; row = short_row; Means = λ v sent. sent ≡ short_sent v }

-- ---- Meraki's without the version

abbrev pub event_types : List Text
event_types = map chars (codes "events" ∷ codes "flows" ∷ codes "urls" ∷ codes "ids-alerts" ∷ codes "security_event"
    ∷ codes "airmarshal_events" ∷ codes "firewall" ∷ codes "cellular_firewall" ∷ codes "vpn_firewall"
    ∷ codes "ip_flow_start" ∷ codes "ip_flow_end" ∷ [])

abbrev pub IsEventType : Text → Type 0
IsEventType t = is_among t event_types ≡ true

-- The message begins with its type. Squid's access log has numbers and addresses there.
abbrev pub typed_row : List Class
typed_row = run is_blank ∷ unix_date ∷ some_run is_blank ∷ origin ∷ some_run is_blank
    ∷ beginning (such_that bare_word IsEventType) ∷ []

abbrev pub typed_sent : Values typed_row → SentValue
typed_sent (_, (date, (_, (device, (_, (msg, _)))))) = loose (Some date) (Some device) None None msg

abbrev pub typed_form : Form
typed_form = record { dialect = UnixSeconds; row = typed_row; Means = λ v sent. sent ≡ typed_sent v }
