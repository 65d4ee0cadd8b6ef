use Rattle.syslog_named_forms.proofs.Names.{[], ◌∷◌, exactly, match_map, number_row, Row}
use Rattle.syslog_sent.proofs.DateLemmas.{no_unless, no_unless_later, unless_front}
use Rattle.syslog_named_forms.proofs.untagged.square.Goals as goal

pub returns-in-Some : goal.returns-in-Some
returns-in-Some c = let (v, f) = c.in-Some.ensures in no_unless (Row number_row) (exactly (91 ∷ [])) f

pub returns : goal.returns
returns c = match_map c.bracket.result (λ n. no_unless_later (Row number_row) (exactly (91 ∷ [])) n)
    (λ x (v, f). (v, unless_front (Row number_row) (exactly (91 ∷ [])) c.in_default.ensures f)) c.bracket.ensures
