-- Container log files in the format of Kubernetes (CRI): a timestamp, the stream, `F` or `P` for a full or a partial
-- line, and the text. The stream is no host, so that it stays before the message.
use Rattle.std.specs.Prelude.{◌≡◌, true, List, [], ◌∷◌, Some, None, codes, map, chars}
use Rattle.syslog_text.specs.Pieces.Class.{Text, Class, Row, run, exactly}
use Rattle.syslog_text.specs.Pieces.Rules.{such_that}
use Rattle.syslog_text.specs.Text.{is_blank}
use Rattle.syslog_sent.specs.Date.{iso_date}
use Rattle.syslog_sent.specs.Named.{beginning}
use Rattle.syslog_sent.specs.Sent.{Form, loose}
use Rattle.syslog_sent.specs.Zone.{bare_word, is_among}
use Rattle.syslog_sent.specs.declared.dialect.Dialect.TheVariants.{Container}

abbrev pub streams : List Text
streams = map chars (codes "stdout" ∷ codes "stderr" ∷ [])

abbrev pub marks : List Text
marks = map chars (codes "F" ∷ codes "P" ∷ [])

abbrev pub IsStream : Text → Type 0
IsStream t = is_among t streams ≡ true

abbrev pub IsMark : Text → Type 0
IsMark t = is_among t marks ≡ true

abbrev pub stream_row : List Class
stream_row = such_that bare_word IsStream ∷ exactly (32 ∷ []) ∷ such_that bare_word IsMark ∷ []

-- all that is left, where the stream and the mark begin it
abbrev pub output : Class
output = beginning (Row stream_row)

abbrev pub container_row : List Class
container_row = run is_blank ∷ iso_date ∷ exactly (32 ∷ []) ∷ output ∷ []

abbrev pub container_form : Form
container_form = record {
  dialect = Container;
  row = container_row;
  Means = λ v sent. sent ≡ loose (Some v.1.0) None None None v.1.1.1.0;
}
