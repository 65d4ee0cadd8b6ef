-- What `syslog_read_lines` leaves.
use Rattle.std.specs.Prelude.{◌≡◌, ℕ, ◌<◌, List, length, take, negsuc, None}
use Rattle.syslog_lines.specs.Lines.{IsLines}
use Rattle.syslog_c.specs.Fields.{IsBegun, IsNoText, IsProcess, IsStamp}
use Rattle.syslog_c.specs.Line.{OnLine}
use Rattle.syslog_c.specs.Options.{IsTaken}
use Rattle.syslog_c.specs.Outcome.{IsCodeOf}
use Rattle.syslog_c.specs.Reported.{ReportsFields}
use Rattle.syslog_c.specs.declared.fields.Fields.{Fields}
use Rattle.syslog_c.specs.declared.fields.Row.{Row}
use Rattle.syslog_c.specs.declared.options.Options.{Options}
use Rattle.syslog_c.specs.declared.outcome.Outcome.{Outcome}
use Rattle.syslog_c.specs.declared.outcome.Outcome.TheVariants.{Done, NoRoom, BadArgument}

-- no field is there
pub record AreBlank (fields : Fields) : Type 0 where
  pub protocol : fields.protocol ≡ 0
  pub version : fields.version ≡ 0
  pub facility : fields.facility ≡ negsuc 0
  pub severity : fields.severity ≡ negsuc 0
  pub timestamp : IsStamp fields.timestamp None
  pub host : IsNoText fields.host
  pub app : IsNoText fields.app
  pub process : IsProcess fields.process None
  pub msgid : IsNoText fields.msgid
  pub msg : IsNoText fields.msg
  pub elements : fields.elements ≡ 0
  pub params : fields.params ≡ 0
  pub dialect : fields.dialect ≡ 0
  pub unparsed : IsNoText fields.unparsed

-- the row has the line, and what `syslog_read_fields` returns of it and leaves of blank fields
pub record IsRow (options : Options) (row : Row) (line : List ℕ) : Type 0 where
  pub present : row.line.present ≡ 1
  pub bytes : row.line.bytes.now ≡ line
  pub blank : Fields
  pub are_blank : AreBlank blank
  pub read : IsCodeOf row.outcome (λ outcome. OnLine options line outcome (row.fields ≡ blank)
      (λ rules dating text. ReportsFields rules dating text blank row.fields outcome))

-- The lines of the buffer have a row each, in order, and the rows after them are as they were. Or there are more lines
-- than rows, and each row has one of the first lines. Or the options mean nothing, and all is as it was.
abbrev pub ReadsLines : Options → List ℕ → List Row → List Row → ℕ → Outcome → Type 0
ReadsLines options buffer old new read Done = IsTaken options × ((lines : List (List ℕ)) × IsLines buffer lines
    × (read ≡ length lines) × IsBegun (IsRow options) lines old new)
ReadsLines options buffer old new read NoRoom = IsTaken options × ((lines : List (List ℕ)) × IsLines buffer lines
    × (read ≡ length new) × (length new < length lines) × IsBegun (IsRow options) (take (length new) lines) old new)
ReadsLines options buffer old new read BadArgument = (IsTaken options → ⊥) × (read ≡ 0) × (new ≡ old)
ReadsLines options buffer old new read outcome = ⊥
