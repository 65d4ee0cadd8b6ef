-- In which parts the two headers are read.
use Rattle.std.specs.Prelude.{◌∷◌, ◌++◌}
use Rattle.syslog_loose.specs.Words.{List, [], Text, Class, Values, Front, Row, run, some_run, rest, optional}
use Rattle.syslog_loose.specs.Words.{process_word, forgiving, rfc3164_list, is_blank, host, word, DashRule}
use Rattle.syslog_loose.specs.{Rfc3164.Names3164, Rfc3164.Resolves, Rows.fields_row, Rows.front_row, Rows.tail_row}

-- ---- of RFC 5424

-- host, app name, process id and message id, with blanks before each
abbrev pub names_row : List Class
names_row =
    some_run is_blank ∷ host ∷ some_run is_blank ∷ word ∷ some_run is_blank ∷ process_word ∷ some_run is_blank ∷ word
    ∷ []

abbrev pub header_row : List Class
header_row = front_row ++ names_row

-- the elements and the message, with blanks or none before each
abbrev pub data_row : List Class
data_row = tail_row forgiving

-- ---- of RFC 3164

-- these, the list and the message, with blanks or none between them
abbrev pub body_row : DashRule → List Class
body_row rule = fields_row ++ (optional (rfc3164_list rule) ∷ run is_blank ∷ rest ∷ [])

-- such fields begin the text, and mean these names
pub record ReadsNames (text after : Text) (n : Names3164) : Type 0 where
  pub values : Values fields_row
  pub front : Front (Row fields_row) text after values
  pub means : Resolves values.0 values.1.0 n
