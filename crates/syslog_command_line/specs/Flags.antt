-- The flags that a program may have, and their values: this project's own choice.
use Rattle.std.specs.Prelude.{◌≡◌, ◌⊎◌, ◌<◌, ◌≤◌, ◌^◌, ℕ, ℤ, Bool, true, false, List, [], length, All, ⊤, codes}
use Rattle.std.specs.Char.{IsAsciiDigit}
use Rattle.std.specs.Str.Parse.{digits_value}
use Rattle.jiff.specs.Placed.{IsPosixZone}
use Rattle.jiff.specs.Types.{TimeZone}
use Rattle.syslog_pieces.specs.declared.pri.SyslogSeverity.{SyslogSeverity}
use Rattle.syslog_pieces.specs.declared.pri.SyslogSeverity.TheVariants.{SEV_EMERG, SEV_ERR, SEV_WARNING}
use Rattle.syslog_pieces.specs.Pri.{severity_name}
use Rattle.syslog_command_line.specs.Arguments.{NamesOffset}
use Rattle.syslog_command_line.specs.declared.flags.Flag.{Flag}
use Rattle.syslog_command_line.specs.declared.flags.Flag.TheVariants.{Raw, NoDialects, Latin1, Offset, Zone, Nul}
use Rattle.syslog_command_line.specs.declared.flags.Flag.TheVariants.{OctetCounted, MaxLine, Severity, Host, App, Csv}

-- its word
abbrev pub flag_word : Flag → List ℕ
flag_word Raw = codes "--raw"
flag_word NoDialects = codes "--no-dialects"
flag_word Latin1 = codes "--latin1"
flag_word Offset = codes "--offset"
flag_word Zone = codes "--zone"
flag_word Nul = codes "--nul"
flag_word OctetCounted = codes "--octet-counted"
flag_word MaxLine = codes "--max-line"
flag_word Severity = codes "--severity"
flag_word Host = codes "--host"
flag_word App = codes "--app"
flag_word Csv = codes "--csv"

-- its place among the flags
abbrev pub flag_number : Flag → ℕ
flag_number Raw = 0
flag_number NoDialects = 1
flag_number Latin1 = 2
flag_number Offset = 3
flag_number Zone = 4
flag_number Nul = 5
flag_number OctetCounted = 6
flag_number MaxLine = 7
flag_number Severity = 8
flag_number Host = 9
flag_number App = 10
flag_number Csv = 11

-- whether its value comes after its word
abbrev pub takes_value : Flag → Bool
takes_value Offset = true
takes_value Zone = true
takes_value MaxLine = true
takes_value Severity = true
takes_value Host = true
takes_value App = true
takes_value flag = false

-- the flag that says otherwise, and so can't be given too; itself, if there is none
abbrev pub rival : Flag → Flag
rival Nul = OctetCounted
rival OctetCounted = Nul
rival Offset = Zone
rival Zone = Offset
rival flag = flag

-- the text names this number of bytes, from 1 to 2^63 - 1, in decimal digits
pub record NamesSize (text : List ℕ) (size : ℕ) : Type 0 where
  pub some : 0 < length text
  pub digits : All IsAsciiDigit text
  pub value : size ≡ digits_value 10 text
  pub least : 1 ≤ size
  pub most : size < 2 ^ 63

-- a severity's other name, as rsyslog has it too; its own, if there is none
abbrev pub severity_alias : SyslogSeverity → List ℕ
severity_alias SEV_EMERG = codes "panic"
severity_alias SEV_ERR = codes "error"
severity_alias SEV_WARNING = codes "warn"
severity_alias severity = severity_name severity

-- the text names this severity
abbrev pub NamesSeverity : List ℕ → SyslogSeverity → Type 0
NamesSeverity text severity = (text ≡ severity_name severity) ⊎ (text ≡ severity_alias severity)

-- the text is a value of the flag; that of a flag that takes none is empty
abbrev pub IsValue : Flag → List ℕ → Type 0
IsValue Offset text = (seconds : ℤ) × NamesOffset text seconds
IsValue Zone text = (zone : TimeZone) × IsPosixZone text zone
IsValue MaxLine text = (size : ℕ) × NamesSize text size
IsValue Severity text = (severity : SyslogSeverity) × NamesSeverity text severity
IsValue Host text = ⊤
IsValue App text = ⊤
IsValue flag text = text ≡ []
