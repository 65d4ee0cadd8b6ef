use Rattle.syslog_named_forms.proofs.Names.{[], ◌∷◌, first_front, host_row, hosted, mapped_front, match_map, NamedTexts}
use Rattle.syslog_named_forms.proofs.Names.{no_mapped, no_otherwise, passed_on, row_cons, row_nil, row_none_here}
use Rattle.syslog_named_forms.proofs.Names.{rows_join, rows_none_here, rows_none_later, second_front}
use Rattle.syslog_named_forms.specs.Programs.{relayed_of}
use Rattle.syslog_named_forms.proofs.RowLemmas.{host_row_det}
use Rattle.syslog_named_forms.proofs.programs.forwarded.Goals as goal

pub returns-in-Some : goal.returns-in-Some
returns-in-Some c after = mapped_front (hosted passed_on) NamedTexts relayed_of (first_front c.in-Some.ensures)

pub returns-in_err-host : goal.returns-in_err-host
returns-in_err-host c after = rw c.from_residual.ensures (no_mapped (hosted passed_on) NamedTexts relayed_of
    (no_otherwise c.in_default.ensures (rows_none_here host_row (passed_on ∷ []) (rw c.in_err-host.was at after))))

pub returns : goal.returns
returns c after = match_map c.passed_on-2.result
    (λ n. no_mapped (hosted passed_on) NamedTexts relayed_of (no_otherwise c.in_default.ensures
    (rows_none_later host_row (passed_on ∷ []) host_row_det (rw c.in_ok-host.was at after)
    (row_none_here passed_on [] n))))
    (λ x f. mapped_front (hosted passed_on) NamedTexts relayed_of (second_front c.in_default.ensures
    (rows_join host_row (passed_on ∷ []) (rw c.in_ok-host.was at after) (row_cons passed_on [] f (row_nil [])))))
    c.passed_on-2.ensures
