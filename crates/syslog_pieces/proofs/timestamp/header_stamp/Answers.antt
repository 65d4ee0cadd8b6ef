use Rattle.syslog_pieces.proofs.Names.{[], ◌∷◌, refl, rules}
use Rattle.syslog_pieces.proofs.TimestampLemmas.Rfc3339.{stamp_front, no_header, no_stamp_front}
use Rattle.syslog_pieces.proofs.timestamp.header_stamp.Goals as goal

pub returns-in_err-literal-in-Some : goal.returns-in_err-literal-in-Some
returns-in_err-literal-in-Some c =
    let n = no_header c.in-Some.ensures (λ v r e h. c.in_err-literal-in-Some.ensures (32 ∷ []) r tt e refl) in
    search rules

pub returns-in_err-stamp-in-Some : goal.returns-in_err-stamp-in-Some
returns-in_err-stamp-in-Some c =
    let n = no_header c.in-Some.ensures (λ v r e h. c.in_err-stamp-in-Some.ensures v h) in search rules

pub returns-in_err-literal-in-None : goal.returns-in_err-literal-in-None
returns-in_err-literal-in-None c =
    let n = no_stamp_front c.in-None.ensures c.in_err-literal-in-None.ensures in search rules

pub returns-in_ok-stamp-in-Some : goal.returns-in_ok-stamp-in-Some
returns-in_ok-stamp-in-Some c =
    stamp_front c.in-Some.ensures _ c.in_ok-stamp-in-Some.ensures c.in_ok-literal-in-Some.ensures
