use Rattle.syslog_loose.proofs.{Names.unique_division, Names.rfc3164_row, Rfc3164Lemmas.rfc3164_det}
use Rattle.syslog_loose.proofs.laws.one_rfc3164_division.Goals as goal

pub returns-clause-pieces : goal.returns-clause-pieces
returns-clause-pieces c rule dating text vs ws d e =
    (unique_division (rfc3164_row rule dating) (rfc3164_det rule dating) d e).0

pub returns-clause-meanings : goal.returns-clause-meanings
returns-clause-meanings c rule dating text vs ws d e =
    (unique_division (rfc3164_row rule dating) (rfc3164_det rule dating) d e).1
