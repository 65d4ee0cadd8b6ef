use Rattle.syslog_pieces.proofs.Names.{match_map, no_spaced_piece, spaced_front}
use Rattle.syslog_text.proofs.PieceLemmas.Class.{no_spaced_space}
use Rattle.syslog_pieces.specs.Timestamp.Rfc3339.{pair}
use Rattle.syslog_pieces.proofs.timestamp.pairs.pair_after.Goals as goal

pub returns-in_err-digits : goal.returns-in_err-digits
returns-in_err-digits c = rw c.from_residual.ensures (no_spaced_space (pair c.args.limit) c.in_err-digits.ensures)

pub returns : goal.returns
returns c = let first = c.in_ok-digits.ensures in match_map _ (λ n. no_spaced_piece (pair c.args.limit) first n)
    (λ x f. spaced_front (pair c.args.limit) first f) c.pair.ensures
