use Rattle.syslog_named_forms.proofs.Names.{AreMarks, Dialect, drop, FindsNamed, marked_tails, Named, Option, ReadsHost}
use Rattle.syslog_named_forms.proofs.Names.{tail_forms}
use Rattle.std.proofs.Common.{chars}
use Rattle.syslog_named_forms.proofs.named_forms.of_marks.Given as goal

-- what is found by the marks that are left is found by all of them
abbrev pub invariant-loop-mark : goal.invariant-loop-mark
invariant-loop-mark l = ReadsHost (chars l.rest) l.after_host
    → AreMarks l.begun (chars l.rest) l.after_host → (r : Option (Dialect × Named))
    → FindsNamed (tail_forms (marked_tails (drop l.mark-index l.marks))) (chars l.rest) r
    → FindsNamed (tail_forms (marked_tails l.marks)) (chars l.rest) r
