use Rattle.syslog_dated_forms.proofs.CiscoLemmas.{in_asa, in_ios, in_nx_os}
use Rattle.syslog_dated_forms.proofs.cisco.by_system.Goals as goal

pub returns-then-is_asa : goal.returns-then-is_asa
returns-then-is_asa c text line = in_asa line c.sent-sent.result c.sent-sent.ensures c.if-is_asa.ensures

pub returns-then-is_nx_os : goal.returns-then-is_nx_os
returns-then-is_nx_os c text line =
    in_nx_os line c.sent-sent.result c.sent-sent.ensures c.if-is_asa.ensures c.if-is_nx_os.ensures

pub returns : goal.returns
returns c text line = in_ios line c.sent-sent.result c.sent-sent.ensures c.if-is_asa.ensures c.if-is_nx_os.ensures
