-- What is in printed form.
use Rattle.std.specs.Prelude.{◌++◌, [], ◌∷◌}
use Rattle.syslog_text.specs.Pieces.Class.{Text}

-- a printed parameter without the space before it
abbrev pub bare_param_text : Text × Text → Text
bare_param_text p = p.0 ++ (61 ∷ 34 ∷ (p.1 ++ (34 ∷ [])))
