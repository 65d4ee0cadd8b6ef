-- The forms, in the order in which they are tried.
use Rattle.std.specs.Prelude.{ℕ, Bool, true, false, List, [], ◌∷◌, ◌++◌, Option, Some, None}
use Rattle.syslog_dated_forms.specs.DatedForms as dated
use Rattle.syslog_named_forms.specs.NamedForms as named
use Rattle.syslog_dialects.specs.PriorityAlone.{alone_form, point_form, program_form}
use Rattle.syslog_sent.specs.Sent.{Form}

-- the forms that are recognised by their date
abbrev pub dated_forms : List Form
dated_forms = dated.all_dated

-- the forms that are recognised by what follows the date
abbrev pub named_forms : List Form
named_forms = named.all_named

-- those that have nothing of their own after the date
abbrev pub plain_forms : List Form
plain_forms = dated.plain_forms ++ named.spread_forms

-- all that are tried of each text
abbrev pub early_forms : List Form
early_forms = dated_forms ++ (named_forms ++ plain_forms)

-- the forms of texts that the port does not parse, after a priority
abbrev pub last_forms : List Form
last_forms = program_form ∷ point_form ∷ alone_form ∷ []

-- those that are tried last of a text after this priority, which the port parses, or not
abbrev pub late_forms : Bool → Option ℕ → List Form
late_forms true priority = []
late_forms false None = []
late_forms false (Some number) = last_forms

-- all that are tried of it
abbrev pub forms_of : Bool → Option ℕ → List Form
forms_of is_read priority = early_forms ++ late_forms is_read priority
