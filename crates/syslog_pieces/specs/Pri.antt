-- The priority, and the facility and the severity that it is composed of (RFC 5424 section 6.2.1).
use Rattle.std.specs.Prelude.{ℕ, Bool, codes, nat_eq, ◌+◌, ◌*◌, ◌/◌, ◌%◌, List, [], ◌∷◌, ◌++◌, Option, slice_get}
use Rattle.std.specs.Fmt.{decimal}
use Rattle.syslog_text.specs.Pieces.Class.{Text, Class, Row, exactly}
use Rattle.syslog_text.specs.Text.{number}
use Rattle.syslog_pieces.specs.declared.pri.SyslogFacility.{SyslogFacility}
use Rattle.syslog_pieces.specs.declared.pri.SyslogFacility.TheVariants.{LOG_KERN, LOG_USER, LOG_MAIL, LOG_DAEMON}
use Rattle.syslog_pieces.specs.declared.pri.SyslogFacility.TheVariants.{LOG_AUTH, LOG_SYSLOG, LOG_LPR, LOG_NEWS}
use Rattle.syslog_pieces.specs.declared.pri.SyslogFacility.TheVariants.{LOG_UUCP, LOG_CRON, LOG_AUTHPRIV, LOG_FTP}
use Rattle.syslog_pieces.specs.declared.pri.SyslogFacility.TheVariants.{LOG_NTP, LOG_AUDIT, LOG_ALERT, LOG_CLOCKD}
use Rattle.syslog_pieces.specs.declared.pri.SyslogFacility.TheVariants.{LOG_LOCAL0, LOG_LOCAL1, LOG_LOCAL2, LOG_LOCAL3}
use Rattle.syslog_pieces.specs.declared.pri.SyslogFacility.TheVariants.{LOG_LOCAL4, LOG_LOCAL5, LOG_LOCAL6, LOG_LOCAL7}
use Rattle.syslog_pieces.specs.declared.pri.SyslogSeverity.{SyslogSeverity}
use Rattle.syslog_pieces.specs.declared.pri.SyslogSeverity.TheVariants.{SEV_EMERG, SEV_ALERT, SEV_CRIT, SEV_ERR}
use Rattle.syslog_pieces.specs.declared.pri.SyslogSeverity.TheVariants.{SEV_WARNING, SEV_NOTICE, SEV_INFO, SEV_DEBUG}

-- the facility's number
abbrev pub facility_number : SyslogFacility → ℕ
facility_number LOG_KERN = 0
facility_number LOG_USER = 1
facility_number LOG_MAIL = 2
facility_number LOG_DAEMON = 3
facility_number LOG_AUTH = 4
facility_number LOG_SYSLOG = 5
facility_number LOG_LPR = 6
facility_number LOG_NEWS = 7
facility_number LOG_UUCP = 8
facility_number LOG_CRON = 9
facility_number LOG_AUTHPRIV = 10
facility_number LOG_FTP = 11
facility_number LOG_NTP = 12
facility_number LOG_AUDIT = 13
facility_number LOG_ALERT = 14
facility_number LOG_CLOCKD = 15
facility_number LOG_LOCAL0 = 16
facility_number LOG_LOCAL1 = 17
facility_number LOG_LOCAL2 = 18
facility_number LOG_LOCAL3 = 19
facility_number LOG_LOCAL4 = 20
facility_number LOG_LOCAL5 = 21
facility_number LOG_LOCAL6 = 22
facility_number LOG_LOCAL7 = 23

-- the severity's number
abbrev pub severity_number : SyslogSeverity → ℕ
severity_number SEV_EMERG = 0
severity_number SEV_ALERT = 1
severity_number SEV_CRIT = 2
severity_number SEV_ERR = 3
severity_number SEV_WARNING = 4
severity_number SEV_NOTICE = 5
severity_number SEV_INFO = 6
severity_number SEV_DEBUG = 7

-- the facility's name
abbrev pub facility_name : SyslogFacility → Text
facility_name LOG_KERN = codes "kern"
facility_name LOG_USER = codes "user"
facility_name LOG_MAIL = codes "mail"
facility_name LOG_DAEMON = codes "daemon"
facility_name LOG_AUTH = codes "auth"
facility_name LOG_SYSLOG = codes "syslog"
facility_name LOG_LPR = codes "lpr"
facility_name LOG_NEWS = codes "news"
facility_name LOG_UUCP = codes "uucp"
facility_name LOG_CRON = codes "cron"
facility_name LOG_AUTHPRIV = codes "authpriv"
facility_name LOG_FTP = codes "ftp"
facility_name LOG_NTP = codes "ntp"
facility_name LOG_AUDIT = codes "audit"
facility_name LOG_ALERT = codes "alert"
facility_name LOG_CLOCKD = codes "clockd"
facility_name LOG_LOCAL0 = codes "local0"
facility_name LOG_LOCAL1 = codes "local1"
facility_name LOG_LOCAL2 = codes "local2"
facility_name LOG_LOCAL3 = codes "local3"
facility_name LOG_LOCAL4 = codes "local4"
facility_name LOG_LOCAL5 = codes "local5"
facility_name LOG_LOCAL6 = codes "local6"
facility_name LOG_LOCAL7 = codes "local7"

-- the severity's name
abbrev pub severity_name : SyslogSeverity → Text
severity_name SEV_EMERG = codes "emerg"
severity_name SEV_ALERT = codes "alert"
severity_name SEV_CRIT = codes "crit"
severity_name SEV_ERR = codes "err"
severity_name SEV_WARNING = codes "warning"
severity_name SEV_NOTICE = codes "notice"
severity_name SEV_INFO = codes "info"
severity_name SEV_DEBUG = codes "debug"

-- whether two facilities have one number
abbrev pub facility_eq : SyslogFacility → SyslogFacility → Bool
facility_eq a b = nat_eq (facility_number a) (facility_number b)

-- whether two severities have one number
abbrev pub severity_eq : SyslogSeverity → SyslogSeverity → Bool
severity_eq a b = nat_eq (severity_number a) (severity_number b)

-- all facilities, each at the place of its number
abbrev pub facilities : List SyslogFacility
facilities =
    LOG_KERN ∷ LOG_USER ∷ LOG_MAIL ∷ LOG_DAEMON ∷ LOG_AUTH ∷ LOG_SYSLOG ∷ LOG_LPR ∷ LOG_NEWS ∷ LOG_UUCP ∷ LOG_CRON
    ∷ LOG_AUTHPRIV ∷ LOG_FTP ∷ LOG_NTP ∷ LOG_AUDIT ∷ LOG_ALERT ∷ LOG_CLOCKD ∷ LOG_LOCAL0 ∷ LOG_LOCAL1 ∷ LOG_LOCAL2
    ∷ LOG_LOCAL3 ∷ LOG_LOCAL4 ∷ LOG_LOCAL5 ∷ LOG_LOCAL6 ∷ LOG_LOCAL7 ∷ []

-- all severities, each at the place of its number
abbrev pub severities : List SyslogSeverity
severities = SEV_EMERG ∷ SEV_ALERT ∷ SEV_CRIT ∷ SEV_ERR ∷ SEV_WARNING ∷ SEV_NOTICE ∷ SEV_INFO ∷ SEV_DEBUG ∷ []

-- the facility of a priority: an eighth of it, and none from 192 on
abbrev pub facility_of : ℕ → Option SyslogFacility
facility_of pri = slice_get facilities (pri / 8)

-- the severity of a priority: what is left of it
abbrev pub severity_of : ℕ → Option SyslogSeverity
severity_of pri = slice_get severities (pri % 8)

-- the priority that a facility and a severity compose
abbrev pub composed : SyslogFacility → SyslogSeverity → ℕ
composed facility severity = facility_number facility * 8 + severity_number severity

-- `<`, a number up to 255, `>`
abbrev pub priority_row : List Class
priority_row = exactly (60 ∷ []) ∷ number 255 ∷ exactly (62 ∷ []) ∷ []

abbrev pub priority : Class
priority = record { Value = ℕ; Is = λ p q n. (Row priority_row).Is p q (tt, (n, (tt, tt))) }

-- a priority as it prints
abbrev pub priority_text : ℕ → Text
priority_text n = 60 ∷ (decimal n ++ (62 ∷ []))
