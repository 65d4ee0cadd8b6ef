use Rattle.syslog_named_forms.proofs.Names.{later_word, match_map}
use Rattle.syslog_text.proofs.PieceLemmas.Class.{no_spaced_piece, no_spaced_space, spaced_front}
use Rattle.syslog_named_forms.proofs.programs.spaced_word.Goals as goal

pub returns-in_err-rest-clause-reads : goal.returns-in_err-rest-clause-reads
returns-in_err-rest-clause-reads c =
    rw c.from_residual.ensures (no_spaced_space later_word c.in_err-rest.ensures)

pub returns-clause-reads : goal.returns-clause-reads
returns-clause-reads c = let space = c.in_ok-rest.ensures in match_map c.later_word.result
    (λ n. no_spaced_piece later_word space n)
    (λ x (v, f). (v, spaced_front later_word space f)) c.later_word.ensures.reads
