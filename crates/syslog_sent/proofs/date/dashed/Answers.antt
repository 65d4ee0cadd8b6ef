use Rattle.syslog_text.proofs.PieceLemmas.Class.{match_map, no_spaced_piece, no_spaced_space, spaced_front}
use Rattle.syslog_text.specs.Text.{number}
use Rattle.syslog_sent.proofs.date.dashed.Goals as goal

pub returns-in_err-rest : goal.returns-in_err-rest
returns-in_err-rest c = rw c.from_residual.ensures (no_spaced_space (number 99) c.in_err-rest.ensures)

pub returns : goal.returns
returns c = match_map _ (λ n. no_spaced_piece (number 99) c.in_ok-rest.ensures n)
    (λ x f. spaced_front (number 99) c.in_ok-rest.ensures f) c.number.ensures
