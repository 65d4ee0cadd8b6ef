-- Check Point's element: which lines of the port have it, and the message without it.
use Rattle.std.specs.Prelude.{◌≡◌, ◌≢◌, ◌⊎◌, ◌++◌, List, [], ◌∷◌}
use Rattle.syslog_text.specs.Pieces.Class.{Text, Class, Values, Division, Front, NoFront, Row, rest, run, some_run}
use Rattle.syslog_text.specs.Pieces.View.{shown}
use Rattle.syslog_text.specs.Text.{host, is_blank, word}
use Rattle.syslog_elements.specs.StructuredData.Element.{ElementValue}
use Rattle.syslog_elements.specs.StructuredData.Pairs.{paired}
use Rattle.syslog_elements.specs.StructuredData.Visited.{list_elements}
use Rattle.syslog_loose.specs.Message.{MessageValue}
use Rattle.syslog_loose.specs.Unparsed.{IsLeftUnparsed}
use Rattle.syslog_loose.specs.declared.line.Line.{Line}
use Rattle.syslog_sent.specs.declared.dialect.Dialect.{Dialect}
use Rattle.syslog_sent.specs.declared.dialect.Dialect.TheVariants.{CheckPoint}

-- ---- lines of the port

-- the host, the app name, the process and the message id, with blanks before each and after them
abbrev pub names_row : List Class
names_row = some_run is_blank ∷ host ∷ some_run is_blank ∷ word ∷ some_run is_blank ∷ word ∷ some_run is_blank ∷ word
    ∷ some_run is_blank ∷ []

-- they begin the text, and then comes the element
abbrev pub NamesPairs : Text → Type 0
NamesPairs text = (more : Text) × (vs : Values (names_row ++ (paired ∷ []))) × Front (Row (names_row ++ (paired ∷ [])))
    text more vs

-- no element is strict, and Check Point's follows the names
abbrev pub HasPairs : Line → Type 0
HasPairs line = (list_elements line.list ≡ []) × NamesPairs (shown line.rest)

-- and something was left unparsed
abbrev pub IsPaired : Line → Type 0
IsPaired line = ((unparsed : Text) × IsLeftUnparsed line unparsed × (unparsed ≢ [])) × HasPairs line

-- ---- messages of the dialect

-- the element, and the message part after it
abbrev pub opened_row : List Class
opened_row = paired ∷ run is_blank ∷ rest ∷ []

-- the message with these elements and this message part
abbrev pub with_list : MessageValue → List ElementValue → Text → MessageValue
with_list m es msg = record m { structured_data = es; msg = msg }

-- the element begins the message part of the one message, and the other has it as its structured data
pub record Opens (whole m : MessageValue) : Type 0 where
  pub elements : List ElementValue
  pub msg : Text
  pub division : Division opened_row whole.msg (elements, (tt, (msg, tt)))
  pub same : m ≡ with_list whole elements msg

-- the message of a line in this dialect, of which the form says the whole
abbrev pub IsOpened : Dialect → MessageValue → MessageValue → Type 0
IsOpened dialect whole m = ((dialect ≡ CheckPoint) × Opens whole m)
    ⊎ ((dialect ≡ CheckPoint → NoFront paired whole.msg) × (m ≡ whole))
