-- What is left unparsed of a text's structured data (this project's own choice).
use Rattle.std.specs.Prelude.{◌≡◌, ◌⊎◌, ◌∷◌}
use Rattle.syslog_loose.specs.Words.{List, [], Text, Class, Values, Division, run, some_run, rest, optional, priority}
use Rattle.syslog_loose.specs.Words.{process_word, trimmed, is_blank, number, host, word, header_stamp, list_text}
use Rattle.syslog_elements.specs.StructuredData.Unparsed.{IsUnparsed, leaving}
use Rattle.syslog_loose.specs.{Rfc5424.IsNot5424, declared.line.Line.Line, declared.variant.Variant.Variant}
use Rattle.syslog_loose.specs.declared.variant.Variant.TheVariants.{Either, RFC3164, RFC5424}

-- the pieces of RFC 5424, of which the structured data means what is left unparsed of it
abbrev pub leaving_row : List Class
leaving_row =
    optional priority ∷ number 4294967295 ∷ some_run is_blank ∷ header_stamp ∷ some_run is_blank ∷ host
    ∷ some_run is_blank ∷ word ∷ some_run is_blank ∷ process_word ∷ some_run is_blank ∷ word
    ∷ run is_blank ∷ leaving ∷ run is_blank ∷ rest ∷ []

abbrev pub left_of : Values leaving_row → Text
left_of (_, (_, (_, (_, (_, (_, (_, (_, (_, (_, (_, (_, (_, (unparsed, _)))))))))))))) = unparsed

-- the trimmed text has a division into these pieces, and this is left
pub record Leaves5424 (text unparsed : Text) : Type 0 where
  pub values : Values leaving_row
  pub division : Division leaving_row (trimmed text) values
  pub means : unparsed ≡ left_of values

-- This is left unparsed where the text is read. Of RFC 3164 nothing is, since what is no strict element belongs to the
-- message part there.
abbrev pub Leaves : Variant → Text → Text → Type 0
Leaves RFC5424 text unparsed = Leaves5424 text unparsed
Leaves RFC3164 text unparsed = unparsed ≡ []
Leaves Either text unparsed = Leaves5424 text unparsed ⊎ (IsNot5424 text × (unparsed ≡ []))

-- this is left unparsed of the line's structured data
abbrev pub IsLeftUnparsed : Line → Text → Type 0
IsLeftUnparsed line unparsed = IsUnparsed (list_text line.list) unparsed
