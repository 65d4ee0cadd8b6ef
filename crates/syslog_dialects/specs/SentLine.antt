-- The line that says what a sender said: its timestamp, and its message.
use Rattle.std.specs.Prelude.{◌≡◌, ℕ, ℤ, pos, [], Option, Some, None, option_map}
use Rattle.jiff.specs.Types.{Offset}
use Rattle.jiff.specs.Words.{plain_zone}
use Rattle.syslog_text.specs.Pieces.View.{seen}
use Rattle.syslog_pieces.specs.ProcId.{named_process}
use Rattle.syslog_elements.specs.StructuredData.Visited.{list_text}
use Rattle.syslog_pieces.specs.Timestamp.Fields.{IsStampOfClock}
use Rattle.syslog_pieces.specs.Timestamp.Zone.{IsStampOfFields}
use Rattle.syslog_pieces.specs.declared.timestamp.OffsetTimestamp.{OffsetTimestamp}
use Rattle.syslog_pieces.specs.declared.timestamp.fields.CivilFields.{CivilFields}
use Rattle.syslog_pieces.specs.declared.timestamp.month_date.MonthDate.{MonthDate}
use Rattle.syslog_loose.specs.Line.{line_value, protocol_of}
use Rattle.syslog_loose.specs.Message.{MessageValue, message_of_parts}
use Rattle.syslog_loose.specs.Reading.{IncompleteDate}
use Rattle.syslog_loose.specs.Today.{IsYearIn}
use Rattle.syslog_loose.specs.declared.dates.Dates.{Dates}
use Rattle.syslog_loose.specs.declared.line.Line.{Line}
use Rattle.syslog_sent.specs.Sent.{SentValue}
use Rattle.syslog_sent.specs.declared.sent.SentDate.{SentDate}

-- the year of the numbers of a date: the one that is shown with them, or else that by the dates
abbrev pub IsYearWith : Dates → Option ℕ → IncompleteDate → ℤ → Type 0
IsYearWith dates (Some shown) numbers year = year ≡ pos shown
IsYearWith dates None numbers year = IsYearIn dates.today numbers year

-- the year of the date
abbrev pub IsSentYear : Dates → MonthDate → ℤ → Type 0
IsSentYear dates date year =
    IsYearWith dates date.year (date.month, date.day, date.hour, date.minute, date.second) year

-- what a clock showed, in this year
abbrev pub sent_fields : ℤ → SentDate → CivilFields
sent_fields year sent = record {
  year = year;
  month = sent.date.month;
  day = sent.date.day;
  hour = sent.date.hour;
  minute = sent.date.minute;
  second = sent.date.second;
  nanosecond = sent.nanosecond;
}

-- the timestamp of the fields on a clock at the offset that is shown, or else in the zone of the dates
abbrev pub IsStampIn : Dates → Option ℤ → CivilFields → OffsetTimestamp → Type 0
IsStampIn dates None fields s = IsStampOfFields None (plain_zone dates.zone) fields s
IsStampIn dates (Some seconds) fields s = (offset : Offset) × (offset.seconds ≡ seconds)
    × IsStampOfClock fields offset s

-- there is such a date, and this is its timestamp
abbrev pub IsSentStamp : Dates → SentDate → OffsetTimestamp → Type 0
IsSentStamp dates sent s = (year : ℤ) × IsSentYear dates sent.date year
    × IsStampIn dates sent.offset (sent_fields year sent) s

-- the timestamp, absent where no date is shown
abbrev pub HasStamp : Dates → Option SentDate → Option OffsetTimestamp → Type 0
HasStamp dates None stamp = stamp ≡ None
HasStamp dates (Some sent) stamp = (s : OffsetTimestamp) × (stamp ≡ Some s) × IsSentStamp dates sent s

-- there is no such date
abbrev pub HasNoStamp : Dates → Option SentDate → Type 0
HasNoStamp dates date = (stamp : Option OffsetTimestamp) → HasStamp dates date stamp → ⊥

-- the message that says this
abbrev pub sent_message : Option ℕ → Option OffsetTimestamp → SentValue → MessageValue
sent_message priority stamp sent =
    message_of_parts (protocol_of sent.version) priority stamp sent.hostname sent.appname
    (option_map named_process sent.process) sent.msgid [] sent.msg

-- the date exists, and this is the message
abbrev pub IsMessageSent : Dates → Option ℕ → SentValue → MessageValue → Type 0
IsMessageSent dates priority sent m =
    (stamp : Option OffsetTimestamp) × HasStamp dates sent.date stamp × (m ≡ sent_message priority stamp sent)

-- The line means that message. It has the text of the process as it was sent, and no list.
pub record IsLineSent (dates : Dates) (priority : Option ℕ) (sent : SentValue) (line : Line) : Type 0 where
  pub means : IsMessageSent dates priority sent (line_value line)
  pub process : seen line.process ≡ sent.process
  pub list : list_text line.list ≡ []
