use Rattle.syslog_pieces.proofs.Names.{◌≡◌, Result, Ok, Err, Some, result_ok, FitsSigned, w32, rules, to_z-of_z}
use Rattle.syslog_pieces.proofs.TimestampLemmas.Rfc3339.{answer_of_rfc3339}
use Rattle.syslog_pieces.proofs.timestamp.rfc3339_text.stamp.Goals as goal

-- what `ok` gives a value of is `Ok` of it
ok_of : {T E : Type 0} {x : T} (r : Result T E) → Some x ≡ result_ok r → r ≡ Ok x
ok_of (Ok y) e = cc
ok_of (Err f) e = cc

pub returns : goal.returns
returns c =
    let fits : FitsSigned w32 c.args.written.offset = search rules in
    let seconds = rw (ok_of _ c.in_ok-offset.ensures.value) at c.from_seconds.ensures.value in
    answer_of_rfc3339 c.args.written _ c.in_ok-offset.offset _ c.fields_of.ensures
    (simp to_z-of_z at seconds) c.clock_stamp.ensures
