use Rattle.syslog_dated_forms.proofs.Names.{match_map, year}
use Rattle.syslog_text.proofs.PieceLemmas.Class.{no_spaced_piece, no_spaced_space, spaced_front}
use Rattle.syslog_dated_forms.proofs.netscaler.slashed_year.Goals as goal

pub returns-in_err-rest : goal.returns-in_err-rest
returns-in_err-rest c = rw c.from_residual.ensures (no_spaced_space year c.in_err-rest.ensures)

pub returns : goal.returns
returns c = match_map _ (λ n. no_spaced_piece year c.in_ok-rest.ensures n) (λ x f. spaced_front year
    c.in_ok-rest.ensures f) c.year.ensures
