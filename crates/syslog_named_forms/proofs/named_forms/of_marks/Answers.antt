use Rattle.syslog_named_forms.proofs.Names.{drop, marked_tails, None, refl, Some, sym, tail_forms}
use Rattle.std.proofs.Common.{◌+◌, drop_of_length-le}
use Rattle.std.proofs.lemmas.Bool.{or_parts}
use Rattle.std.proofs.lemmas.List.{drop_more}
use Rattle.syslog_named_forms.specs.declared.untagged.Mark.TheVariants as mark
use Rattle.syslog_named_forms.proofs.NamedFormLemmas.{marked_det, named_later, none_of_marks, tail_here}
use Rattle.syslog_named_forms.proofs.UntaggedLemmas.{no_message_of, no_messages}
use Rattle.syslog_named_forms.specs.NamedForms.{marked_tail}
use Rattle.syslog_named_forms.proofs.named_forms.of_marks.Goals.{then-has+in_default, else-has}
use Rattle.syslog_named_forms.proofs.named_forms.of_marks.Goals as goal

pub returns-then-is_empty : goal.returns-then-is_empty
returns-then-is_empty c after are d text front = let (own, later) = c.if-is_empty.ensures refl in
    none_of_marks c.args.marks.now front (no_messages c.args.begun c.args.after_host after are own later)

pub returns-in-Some : goal.returns-in-Some
returns-in-Some c after are = c.loop-mark.invariant after are (Some (c.dialect.result, c.in-Some.named))
    (λ d text front. rw (
      drop_more c.args.marks.now c.loop-mark.mark-index mark.Cef c.loop-mark-test.true,
      c.dialect.ensures,
    )
    (tail_here (marked_tail _) (tail_forms (marked_tails (drop (c.loop-mark.mark-index + 1) c.args.marks.now)))
    front (marked_det _) (c.in-Some.ensures after are) refl))

pub loop-mark-preserved : goal.loop-mark-preserved
loop-mark-preserved c after are r h = c.loop-mark.invariant after are r
    (λ d text front. rw (drop_more c.args.marks.now c.loop-mark.mark-index mark.Cef c.loop-mark-test.true)
    (named_later (marked_tail _) (tail_forms (marked_tails (drop (c.loop-mark.mark-index + 1) c.args.marks.now)))
    front r (elim c.if-has.branch [
      | then-has+in_default w ↦ w.in_default.ensures after are
      | else-has w ↦ (let (own, later) = or_parts _ _ (sym w.if-has.ensures) in
          no_message_of c.args.begun c.args.after_host after are _ own later)
    ]) (h d text front)))

pub returns : goal.returns
returns c after are = c.loop-mark.invariant after are None
    (rw (drop_of_length-le c.args.marks.now c.loop-mark-test.false) (λ d text front. tt))
