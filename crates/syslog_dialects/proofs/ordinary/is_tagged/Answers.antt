use Rattle.syslog_dialects.proofs.Names.{sym}
use Rattle.syslog_dialects.proofs.OrdinaryLemmas.{odd_answer, printed_answer, tag_answer}
use Rattle.syslog_dialects.proofs.ordinary.is_tagged.Goals as goal

pub returns-then-is_odd : goal.returns-then-is_odd
returns-then-is_odd c =
    odd_answer c.args.line.now c.in-Some.host c.in-Some-appname.app c.in-Some.is c.in-Some-appname.is
    c.if-is_odd.ensures

pub returns-then-line : goal.returns-then-line
returns-then-line c =
    printed_answer c.args.line.now c.in-Some.host c.in-Some-appname.app c.in-Some.is c.in-Some-appname.is
    (sym c.if-is_odd.ensures) c.if-is_none.ensures c.requires.form c.if-line.true c.requires.loose

pub returns-else-line : goal.returns-else-line
returns-else-line c =
    tag_answer c.args.line.now c.in-Some.host c.in-Some-appname.app c.in-Some.is c.in-Some-appname.is
    c.begins_with_tag.result (sym c.if-is_odd.ensures) c.if-is_none.ensures c.begins_with_tag.ensures
