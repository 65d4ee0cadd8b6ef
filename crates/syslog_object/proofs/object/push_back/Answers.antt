use Rattle.syslog_object.proofs.Names.{line_value, on_ok_weaker, seen}
use Rattle.syslog_object.proofs.WriterLemmas.{back_written}
use Rattle.syslog_object.proofs.object.push_back.Goals as goal

pub returns : goal.returns
returns c =
    on_ok_weaker c.push.result
    (λ e. back_written (line_value c.args.line.now) (seen c.args.unparsed) (seen c.args.raw) _ _ _ _ _
    c.in_ok-push_field.ensures c.in_ok-push_field-2.ensures c.in_ok-push_field-3.ensures e)
    c.push.ensures
