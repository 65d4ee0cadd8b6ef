use Rattle.syslog_named_forms.proofs.Names.{[], ◌∷◌, beginning, beginning_front, Class, first_front, host_row}
use Rattle.syslog_named_forms.proofs.Names.{mapped_front, Mark, mark_class, marked, marked_of, NamedTexts, no_beginning}
use Rattle.syslog_named_forms.proofs.Names.{no_mapped, no_otherwise, row_cons, row_nil, row_none_here, rows_join}
use Rattle.syslog_named_forms.proofs.Names.{rows_none_here, rows_none_later, second_front}
use Rattle.syslog_named_forms.proofs.RowLemmas.{host_row_det}
use Rattle.syslog_named_forms.proofs.marks.message.Goals as goal

abbrev begun : Mark → Class
begun m = beginning (mark_class m)

pub returns-in-Some : goal.returns-in-Some
returns-in-Some c after marks = let (v, f) = c.in-Some.ensures marks.0 in
    rw c.untagged.ensures (mapped_front (marked c.args.mark) NamedTexts marked_of (first_front (beginning_front f)))

pub returns-in_err-host : goal.returns-in_err-host
returns-in_err-host c after marks = rw c.from_residual.ensures (no_mapped (marked c.args.mark) NamedTexts marked_of
    (no_otherwise (no_beginning (c.in_default.ensures marks.0))
    (rows_none_here host_row (begun c.args.mark ∷ []) (rw c.in_err-host.was at after))))

pub returns-in_err-end_of : goal.returns-in_err-end_of
returns-in_err-end_of c after marks = rw c.from_residual-in_err-end_of.ensures
    (no_mapped (marked c.args.mark) NamedTexts marked_of
    (no_otherwise (no_beginning (c.in_default.ensures marks.0)) (rows_none_later host_row (begun c.args.mark ∷ [])
    host_row_det
    (rw c.in_ok-host.was at after) (row_none_here (begun c.args.mark) []
    (no_beginning (c.in_err-end_of.ensures (rw c.in_ok-host.was at marks.1)))))))

pub returns : goal.returns
returns c after marks = let (v, f) = c.in_ok-end_of.ensures (rw c.in_ok-host.was at marks.1) in
    rw c.untagged-2.ensures (mapped_front (marked c.args.mark) NamedTexts marked_of
    (second_front (no_beginning (c.in_default.ensures marks.0)) (rows_join host_row (begun c.args.mark ∷ [])
    (rw c.in_ok-host.was at after) (row_cons (begun c.args.mark) [] (beginning_front f) (row_nil [])))))
