-- What C gets of a line.
use Rattle.std.specs.Prelude.{Option}
use Rattle.syslog_text.specs.Pieces.Class.{Text}
use Rattle.syslog_elements.specs.StructuredData.Unparsed.{if_any}
use Rattle.syslog_loose.specs.Line.{line_value}
use Rattle.syslog_loose.specs.Unparsed.{IsLeftUnparsed}
use Rattle.syslog_loose.specs.declared.line.Line.{Line}
use Rattle.syslog_dialects.specs.SentReading.{LeavesSent}
use Rattle.syslog_sent.specs.declared.dialect.Dialect.{Dialect}
use Rattle.syslog_c.specs.Fields.{AreFields, IsOptionalText}
use Rattle.syslog_c.specs.declared.fields.Fields.{Fields}
use Rattle.syslog_c.specs.declared.rules.Rules.{Rules}

-- the struct says what the line is, which was read in this dialect or in none, and what it leaves unparsed
pub record AreOfLine (fields : Fields) (read_in : Option Dialect) (line : Line) : Type 0 where
  pub are : AreFields fields read_in (line_value line)
  pub unparsed : Text
  pub left : IsLeftUnparsed line unparsed
  pub has : IsOptionalText fields.unparsed (if_any unparsed)

-- the struct has what the text leaves unparsed of its structured data; where that is nothing, it is absent
abbrev pub HasUnparsed : Rules → Text → Option Dialect → Fields → Type 0
HasUnparsed rules text dialect fields = (unparsed : Text) × LeavesSent dialect rules.variant text unparsed
    × IsOptionalText fields.unparsed (if_any unparsed)
