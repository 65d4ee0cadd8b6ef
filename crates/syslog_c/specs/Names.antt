-- The texts of outcomes, and the names of dialects. (Those of facilities and severities are definitions of
-- `syslog_pieces`.)
use Rattle.std.specs.Prelude.{◌≡◌, ◌⊎◌, ℕ, codes, List, [], ◌∷◌}
use Rattle.std.specs.Str.{chars}
use Rattle.syslog_text.specs.Pieces.Class.{Text as Chars}
use Rattle.syslog_sent.specs.Dialect.{dialect_name, dialect_number}
use Rattle.syslog_sent.specs.declared.dialect.Dialect.{Dialect}
use Rattle.syslog_c.specs.Fields.{IsNoText, IsText}
use Rattle.syslog_c.specs.declared.fields.Text.{Text}

-- what each outcome says, at the place of its number
abbrev pub outcome_texts : List Chars
outcome_texts =
    codes "done" ∷ codes "no message" ∷ codes "no UTF-8" ∷ codes "out of memory" ∷ codes "more room is needed"
    ∷ codes "an option is out of its range" ∷ []

-- the text is the name of the dialect that has this number, and an absent one where none has
abbrev pub IsDialectName : ℕ → Text → Type 0
IsDialectName number t =
    ((dialect : Dialect) × (number ≡ dialect_number dialect) × IsText t (chars (dialect_name dialect)))
    ⊎ (((dialect : Dialect) → number ≡ dialect_number dialect → ⊥) × IsNoText t)
