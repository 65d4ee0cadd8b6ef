-- What a writer has written of the elements that it was given.
use Rattle.std.specs.Prelude.{◌≡◌, List, ℕ, IsTrue, length, map, take}
use Rattle.syslog_elements.specs.StructuredData.Element.{ElementValue}
use Rattle.syslog_object.specs.Object.{element_pair}
use Rattle.syslog_object.specs.Parts.{AreDistinct, open_text}
use Rattle.syslog_object.specs.declared.writer.ObjectWriter.{ObjectWriter}

-- the keys of elements
abbrev pub element_keys : List ElementValue → List (List ℕ)
element_keys es = map (λ e. (element_pair e).0) es

-- these elements were written, each under its own id
pub record AreWritten (w : ObjectWriter) (es : List ElementValue) : Type 0 where
  pub text : w.text ≡ open_text (map element_pair es)
  pub sized : length w.ids ≡ 8
  pub count : w.count ≡ length es
  pub ids : map (λ s. s.now) (take w.count w.ids) ≡ element_keys es
  pub distinct : AreDistinct (element_keys es)

-- they were, unless an id or a name came again, or they were too many
abbrev pub HasWritten : ObjectWriter → List ElementValue → Type 0
HasWritten w es = IsTrue w.is_whole → AreWritten w es
