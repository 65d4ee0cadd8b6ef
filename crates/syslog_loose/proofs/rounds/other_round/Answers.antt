use Rattle.syslog_loose.proofs.Names.{rules, IsUtf8-string_bytes, refl, line_value}
use Rattle.syslog_loose.proofs.SettlingLemmas.Settles.{rests_so, told_later, told_settled}
use Rattle.syslog_loose.proofs.rounds.other_round.Goals as goal

pub returns-then-has_no_quirk : goal.returns-then-has_no_quirk
returns-then-has_no_quirk c = λ variant dating whole r.
    let m = line_value c.args.line.now in
    told_settled variant dating whole m r _ (IsUtf8-string_bytes c.print_line.new.text) c.in_ok-print_line.ensures
    (rests_so m.protocol m (c.if-has_no_quirk.ensures.0 refl))
