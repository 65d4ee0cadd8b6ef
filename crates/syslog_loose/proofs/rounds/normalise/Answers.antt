use Rattle.syslog_loose.proofs.Names.{refl, err_from_is_err_and, line_value}
use Rattle.syslog_loose.proofs.{ReadBackLemmas.again_in, ReadingLemmas.in_year_map, ReadingLemmas.invalid_or_memory}
use Rattle.syslog_loose.proofs.rounds.normalise.Goals as goal

pub returns-in_default-clause-again : goal.returns-in_default-clause-again
returns-in_default-clause-again g c =
    again_in _ _ _ _ c.utf8.input _ (in_year_map (λ year none. ((λ e. none), (λ u. refl))) c.in_default.ensures.reads)

pub returns-in_err-print_line-clause-reads : goal.returns-in_err-print_line-clause-reads
returns-in_err-print_line-clause-reads g c =
    let (_, e, same) = err_from_is_err_and c.from_residual.result c.from_residual.ensures.1 in
    rw (e, same) (in_year_map (λ year of. ((λ i. absurd (invalid_or_memory i)), (λ u. absurd (u _ of.only.read))))
    c.in-Some.ensures.reads)

pub returns-clause-reads : goal.returns-clause-reads
returns-clause-reads g c =
    in_year_map (λ year of. (line_value c.in-Some.line, of.only, c.in_ok-print_line.ensures)) c.in-Some.ensures.reads

pub returns-clause-again : goal.returns-clause-again
returns-clause-again g c = again_in _ _ _ _ c.utf8.input _ (returns-clause-reads g c)
