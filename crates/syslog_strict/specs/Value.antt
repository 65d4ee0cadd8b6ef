-- What the RFC reads of a value (6.3.3).
use Rattle.std.specs.Prelude.{nat_eq, if◌then◌else◌, Bool, true, false, [], ◌∷◌}
use Rattle.syslog_text.specs.Pieces.Class.{Text}
use Rattle.syslog_elements.specs.StructuredData.Escapes.{is_escaped}

-- A backslash before a backslash, a quote or a closing bracket is left out; before any other character, and at the end,
-- it is itself. Whether a backslash was read before comes first.
abbrev pub meant_from : Bool → Text → Text
meant_from false [] = []
meant_from true [] = 92 ∷ []
meant_from false (c ∷ t) = if nat_eq c 92 then meant_from true t else c ∷ meant_from false t
meant_from true (c ∷ t) = if is_escaped c then c ∷ meant_from false t else 92 ∷ c ∷ meant_from false t

abbrev pub meaning : Text → Text
meaning value = meant_from false value
