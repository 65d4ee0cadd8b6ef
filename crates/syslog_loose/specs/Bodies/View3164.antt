-- What the reader of the header holds, as names over texts and as the meanings of its pieces.
use Rattle.std.specs.{Option.option_flatten, Prelude.◌≡◌, Prelude.◌↔◌, Prelude.◌∷◌, Prelude.◌++◌}
use Rattle.syslog_loose.specs.Words.{IsSome, IsTrue, Option, option_map, named_process, Text, Ends, seen, shown}
use Rattle.syslog_loose.specs.Words.{is_blank, Some, None}
use Rattle.syslog_loose.specs.{Bodies.Rows.ReadsNames, Quirks.HasQuietNames, declared.rfc3164.NameFields.NameFields}
use Rattle.syslog_loose.specs.{Printed.name_text, Printed.tag_text, declared.rfc3164.HeaderNames.HeaderNames}
use Rattle.syslog_loose.specs.Rfc3164.{HasProcess, Names3164, names, NamesByForm}

abbrev pub names_value : HeaderNames → Names3164
names_value n = names (seen n.hostname) (seen n.appname) (option_map named_process (seen n.process))

-- a program's name beside this host
abbrev pub NamesProgram : Option Text → Text → Names3164 → Type 0
NamesProgram host text n = NamesByForm host text (names host (Some text) None) n

-- a lone name: of the form `tag[id]` it is a program's, otherwise it is the host
abbrev pub NamesHost : Text → Names3164 → Type 0
NamesHost text n = NamesByForm None text (names (Some text) None None) n

-- the names as they print, each after a space, and more
abbrev pub fields_before : Names3164 → Text → Text
fields_before n more = 32 ∷ (name_text n.hostname ++ (32 ∷ (tag_text n.appname n.procid ++ more)))

-- The fields begin the text, and one has the text of the process. They say whether the host field and a program are
-- there in printed form, and then the names are quiet.
pub record FieldsAreRead (text : Text) (fields : NameFields) : Type 0 where
  pub read : ReadsNames text (shown fields.rest) (names_value fields.names)
  pub process : HasProcess read.values.0 read.values.1.0 (seen fields.names.process)
  pub ends : Ends is_blank (shown fields.rest)
  pub prints : IsTrue fields.are_printed ↔ (IsSome read.values.0 × IsSome (option_flatten read.values.1.0)
      × (text ≡ fields_before (names_value fields.names) (shown fields.rest)))
  pub quiet : IsTrue fields.are_printed
      → HasQuietNames (names_value fields.names).hostname (names_value fields.names).procid
