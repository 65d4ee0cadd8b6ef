use Rattle.syslog_pieces.proofs.Names.{inl, ◌past◌, refl, FitsSigned, w32, rules, to_z-of_z, numeric_row, row_of}
use Rattle.syslog_pieces.proofs.Names.{◌then◌, offset, NoFront}
use Rattle.syslog_pieces.proofs.TimestampLemmas.Rfc3339.{no_offset, numeric_front}
use Rattle.syslog_pieces.proofs.timestamp.rfc3339_text.offset.Goals as goal

pub returns-in_err-is_behind : goal.returns-in_err-is_behind
returns-in_err-is_behind c =
    let n : NoFront offset c.args.text.now = no_offset c.in_default.ensures (search rules) in search rules

pub returns-in_err-minutes : goal.returns-in_err-minutes
returns-in_err-minutes c =
    let n = no_offset c.in_default.ensures (c.in_ok-is_behind.ensures past c.in_ok-hours.ensures
    past inl c.in_err-minutes.ensures) in search rules

pub returns : goal.returns
returns c =
    let fits : FitsSigned w32 c.seconds.result = search rules in
    rw (to_z-of_z, c.seconds.ensures) (numeric_front (row_of numeric_row (c.in_ok-is_behind.ensures
    then c.in_ok-hours.ensures then c.in_ok-minutes.ensures then refl)))
