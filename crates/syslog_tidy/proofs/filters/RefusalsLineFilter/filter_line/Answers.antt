use Rattle.syslog_tidy.proofs.Names.{append-nil, refl, sym, Omitted, Written}
use Rattle.syslog_tidy.proofs.filters.RefusalsLineFilter.filter_line.Goals as goal

pub returns-in-Ok-clause-ok : goal.returns-in-Ok-clause-ok
returns-in-Ok-clause-ok c =
    (Omitted, (_, (c.utf8.line, (_, c.in-Ok.ensures.settles, refl))), sym (append-nil _), refl)

pub returns-in_ok-push_line-in-Err-Invalid-clause-ok : goal.returns-in_ok-push_line-in-Err-Invalid-clause-ok
returns-in_ok-push_line-in-Err-Invalid-clause-ok c =
    let none = c.in-Err-Invalid.ensures.settles c.in-Err-Invalid.field-0-is in
    let added = rw c.as_bytes.ensures.value at c.in_ok-push_line-in-Err-Invalid.ensures.ok in
    (Written c.args.line.now, ((λ utf8. none), refl), added, refl)
