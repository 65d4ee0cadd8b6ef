-- What a text begins with, up to its timestamp. (Words of the bodies alone.)
use Rattle.syslog_loose.specs.Words.{ℕ, Option, Text, Class, Front, NoFront, run, optional, priority, is_blank}
use Rattle.syslog_loose.specs.{ReadBack.ReadsProtocol, declared.variant.Variant.Variant}
use Rattle.syslog_loose.specs.declared.message.Protocol.TheVariants.{RFC3164}

-- a priority or none, and what follows
abbrev pub IsAfterPriority : Text → Option ℕ → Text → Type 0
IsAfterPriority text number follows = Front (optional priority) text follows number

-- The variant reads RFC 3164, and the text is blanks or none, a piece of this class, and what follows.
pub record BeginsWith (C : Class) (variant : Variant) (text : Text) (value : C.Value) (follows : Text) : Type 0 where
  pub reads : ReadsProtocol variant RFC3164
  pub start : Text
  pub gap : Front (run is_blank) text start tt
  pub front : Front C start follows value

-- The variant doesn't read RFC 3164, or no such piece is after the blanks.
abbrev pub BeginsWithout : Class → Variant → Text → Type 0
BeginsWithout C variant text = ReadsProtocol variant RFC3164 → (start : Text) → Front (run is_blank) text start tt
    → NoFront C start
