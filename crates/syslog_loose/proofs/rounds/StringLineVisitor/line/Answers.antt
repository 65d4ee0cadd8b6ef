use Rattle.syslog_loose.proofs.{Names.IsUtf8-string_bytes, Names.line_value, SettlingLemmas.Settles.told_settled}
use Rattle.syslog_loose.proofs.rounds.StringLineVisitor.line.Goals as goal

pub returns-then-is_known_settled : goal.returns-then-is_known_settled
returns-then-is_known_settled c = λ variant dating whole r.
    told_settled variant dating whole (line_value c.args.line.now) r _ (IsUtf8-string_bytes c.print_line.new.text)
    c.in_ok-print_line.ensures c.if-is_known_settled.ensures
