use Rattle.syslog_text.proofs.Names.{host}
use Rattle.syslog_text.proofs.TextLemmas.Runs.{empty_is, no_run_front, nonempty_is}
use Rattle.syslog_text.proofs.TextLemmas.Words.{host_colon_read, no_host_colon}
use Rattle.syslog_text.proofs.text.host.Goals as goal

pub returns-then-is_empty : goal.returns-then-is_empty
returns-then-is_empty c =
    no_run_front _ _ _ _ c.split_run.ensures (empty_is _ c.if-is_empty.ensures) host (λ p q v h. (h.0, h.1))

pub returns-then-is_empty-2 : goal.returns-then-is_empty-2
returns-then-is_empty-2 c =
    let (front, e) = rw c.as_bytes.ensures.value at c.if-not-ends_in_colon.ensures in
    no_host_colon _ _ _ front c.split_run.ensures e _ c.split_at.ensures.front (empty_is _ c.if-is_empty-2.ensures)

pub returns : goal.returns
returns c =
    let (front, e) = rw c.as_bytes.ensures.value at c.if-not-ends_in_colon.ensures in
    host_colon_read _ _ _ front c.split_run.ensures e _ c.split_at.ensures.front _ c.split_at.ensures.back
    (nonempty_is _ c.if-is_empty-2.ensures)
