-- The form `tag[id]` of a program's name in RFC 3164 (section 5.3 of RFC 3164 has it by example; own).
use Rattle.std.specs.Prelude.{◌∷◌}
use Rattle.syslog_loose.specs.Words.{List, [], Text, Class, Division, Values, run, some_run, exactly, is_label_char}
use Rattle.syslog_loose.specs.Words.{texted, is_open_char, Option, Some, None}

-- a tag without white space, colon and `[`, perhaps empty; `[`; an id without `]`, not empty; `]`
abbrev pub form_row : List Class
form_row = texted (run is_label_char) ∷ exactly (91 ∷ []) ∷ texted (some_run is_open_char) ∷ exactly (93 ∷ []) ∷ []

-- the whole text is of the form, with this tag and this id
abbrev pub IsForm : Text → Text → Text → Type 0
IsForm text tag id = Division form_row text (tag, (tt, (id, (tt, tt))))

-- the text is not of the form
abbrev pub IsNoForm : Text → Type 0
IsNoForm text = (vs : Values form_row) → Division form_row text vs → ⊥

-- the id of a text of the form, and none of any other
abbrev pub IsIdOf : Text → Option Text → Type 0
IsIdOf text (Some id) = (tag : Text) × IsForm text tag id
IsIdOf text None = IsNoForm text
