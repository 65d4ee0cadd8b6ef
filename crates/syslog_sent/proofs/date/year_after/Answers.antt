use Rattle.syslog_text.proofs.PieceLemmas.Class.{match_map, no_spaced_piece, no_spaced_space, spaced_front}
use Rattle.syslog_sent.specs.Date.{whole_year}
use Rattle.syslog_sent.proofs.date.year_after.Goals as goal

pub returns-in_err-rest : goal.returns-in_err-rest
returns-in_err-rest c = rw c.from_residual.ensures (no_spaced_space whole_year c.in_err-rest.ensures)

pub returns : goal.returns
returns c = match_map _ (λ n. no_spaced_piece whole_year c.in_ok-rest.ensures n)
    (λ x f. spaced_front whole_year c.in_ok-rest.ensures f) c.whole_year.ensures
