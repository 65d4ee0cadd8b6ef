use Rattle.syslog_dated_forms.proofs.FiledLemmas.{none_filed, of_asa, of_ios, of_nx_os, unfiled}
use Rattle.syslog_dated_forms.proofs.filed.read_filed.Goals as goal

pub returns-in_err-front : goal.returns-in_err-front
returns-in_err-front c text at g d = rw c.from_residual.ensures (unfiled (c.in_err-front.ensures text at g d))

pub returns-in_err-line : goal.returns-in_err-line
returns-in_err-line c text at g d =
    rw c.from_residual-in_err-line.ensures (none_filed (c.in_ok-front.ensures text at g d) c.in_err-line.ensures)

pub returns-then-is_asa : goal.returns-then-is_asa
returns-then-is_asa c text at g d = of_asa (c.in_ok-front.ensures text at g d) c.in_ok-line.ensures
    c.sent-sent.result c.sent-sent.ensures c.if-is_asa.ensures

pub returns-then-is_nx_os : goal.returns-then-is_nx_os
returns-then-is_nx_os c text at g d = of_nx_os (c.in_ok-front.ensures text at g d) c.in_ok-line.ensures
    c.sent-sent.result c.sent-sent.ensures c.if-is_asa.ensures c.if-is_nx_os.ensures

pub returns : goal.returns
returns c text at g d = of_ios (c.in_ok-front.ensures text at g d) c.in_ok-line.ensures
    c.sent-sent.result c.sent-sent.ensures c.if-is_asa.ensures c.if-is_nx_os.ensures
