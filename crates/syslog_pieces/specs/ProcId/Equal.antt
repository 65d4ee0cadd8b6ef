-- When two process ids are equal: both are one number, or both are names with one text. A number is no name.
use Rattle.std.specs.Prelude.{Bool, false}
use Rattle.std.specs.Ordering.{int_eq}
use Rattle.syslog_text.specs.Pieces.Class.{Text}
use Rattle.syslog_text.specs.Pieces.View.{text_eq}
use Rattle.syslog_pieces.specs.declared.procid.ProcId.{ProcId}
use Rattle.syslog_pieces.specs.declared.procid.ProcId.TheVariants.{PID, Name}

abbrev pub procid_eq : ProcId Text → ProcId Text → Bool
procid_eq (PID m) (PID n) = int_eq m n
procid_eq (PID m) (Name t) = false
procid_eq (Name s) (PID n) = false
procid_eq (Name s) (Name t) = text_eq s t
