use Rattle.std.proofs.Common.{◌∙◌}
use Rattle.syslog_5424.proofs.CallLemmas.{taken_answer}
use Rattle.syslog_5424.proofs.filter.ConversionsLineFilter.filter_bytes.Goals as goal

pub returns-clause-ok : goal.returns-clause-ok
returns-clause-ok c =
    taken_answer c.args.self.now c.args.line.now _ _ _ c.filter_line.result c.requires
    (c.as_str.ensures.value ∙ c.in_ok-text.ensures.text) c.as_str.utf8 c.filter_line.ensures.ok
