-- What follows a date as the port reads it: a host field, a tag field, a colon, and the message. 32 is a space.
use Rattle.std.specs.Prelude.{◌≡◌, List, [], ◌∷◌, ◌++◌, Option}
use Rattle.syslog_text.specs.Pieces.Class.{Text, Class, Row, exactly, mapped, optional, rest}
use Rattle.syslog_loose.specs.Rows.{fields_row}
use Rattle.syslog_loose.specs.Rfc3164.{Names3164, Resolves, HasProcess}
use Rattle.syslog_sent.specs.Zone.{ended}

pub record TailValue : Type 0 where
  pub hostname : Option Text
  pub appname : Option Text
  pub process : Option Text
  pub msg : Text

abbrev pub tail_row : List Class
tail_row = fields_row ++ (rest ∷ [])

-- the pieces of the port after a date, and what the fields mean together
abbrev pub IsTail : Text → Text → TailValue → Type 0
IsTail p q v = (origin : Option (Option Text)) × (program : Option (Option Text)) × (more : Option (Unit {0}))
    × (n : Names3164) × (Row tail_row).Is p q (origin, (program, (tt, (more, (tt, (v.msg, tt))))))
    × Resolves origin program n × (v.hostname ≡ n.hostname) × (v.appname ≡ n.appname)
    × HasProcess origin program v.process

abbrev pub tail : Class
tail = record { Value = TailValue; Is = IsTail }

-- a space before white space or a colon
abbrev pub spare : Class
spare = ended (exactly (32 ∷ []))

-- what follows a date, after one space more than the port takes (macOS, `log show --style syslog`)
abbrev pub wide_row : List Class
wide_row = optional spare ∷ tail ∷ []

abbrev pub wide_tail : Class
wide_tail = mapped (Row wide_row) TailValue (λ v. v.1.0)
