use Rattle.syslog_text.proofs.PieceLemmas.Class.{match_map, no_spaced_piece, no_spaced_space, spaced_front}
use Rattle.syslog_strict.specs.Grammar.{sd_param}
use Rattle.syslog_strict.proofs.valid.structured_data.spaced_param.Goals as goal

pub returns-in_err-param-clause-reads : goal.returns-in_err-param-clause-reads
returns-in_err-param-clause-reads c = rw c.from_residual.ensures (no_spaced_space sd_param c.in_err-param.ensures)

pub returns-clause-reads : goal.returns-clause-reads
returns-clause-reads c = let space = c.in_ok-param.ensures in match_map c.sd_param.result
    (λ n. no_spaced_piece sd_param space n) (λ x (v, f). (v, spaced_front sd_param space f)) c.sd_param.ensures.reads
