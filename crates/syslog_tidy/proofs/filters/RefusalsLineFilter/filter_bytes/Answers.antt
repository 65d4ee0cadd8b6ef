use Rattle.syslog_tidy.proofs.Names.{refl, Written}
use Rattle.syslog_tidy.proofs.filters.RefusalsLineFilter.filter_bytes.Goals as goal

pub returns-clause-ok : goal.returns-clause-ok
returns-clause-ok c =
    (Written c.args.line.now, ((λ utf8. absurd (c.requires utf8)), refl), c.in_ok-push_line.ensures.ok, refl)
