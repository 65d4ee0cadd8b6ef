use Rattle.syslog_named_forms.proofs.Names.{listed_row, Row}
use Rattle.syslog_named_forms.proofs.PairLemmas.{listed_front, no_listed, not_listed}
use Rattle.syslog_named_forms.proofs.ProgramLemmas.{named}
use Rattle.syslog_named_forms.proofs.pairs.listed.Goals as goal

pub returns-in_err-rest-clause-reads : goal.returns-in_err-rest-clause-reads
returns-in_err-rest-clause-reads c = rw c.from_residual.ensures (no_listed c.in_err-rest.ensures.reads)

pub returns-in_err-next-clause-reads : goal.returns-in_err-next-clause-reads
returns-in_err-next-clause-reads c = rw c.from_residual-in_err-next.ensures
    (let (v, f) = c.in_ok-rest.ensures.reads in not_listed f c.in_err-next.ensures)

pub before-value-requires : goal.before-value-requires
before-value-requires c = let (v, f) = c.in_ok-rest.ensures.reads in (f.piece, f.whole)

pub returns-clause-reads : goal.returns-clause-reads
returns-clause-reads c =
    let (v, f) = c.in_ok-rest.ensures.reads in
    let (w, g) = c.in_ok-next.ensures in
    listed_front (named (Row listed_row) f c.before-value.ensures) g
