use Rattle.syslog_tidy.proofs.Names.{refl, sym, encodes-chars, Written}
use Rattle.syslog_tidy.proofs.filters.ChangedLinesLineFilter.filter_line.Goals as goal

pub returns-in_ok-push_line-clause-ok : goal.returns-in_ok-push_line-clause-ok
returns-in_ok-push_line-clause-ok c =
    let reads = c.in_ok-is_changed.ensures.0 c.if-is_changed.true in
    let spelt = sym (encodes-chars c.args.line.now c.utf8.line) in
    let added = rw c.as_bytes.ensures.value at c.in_ok-push_line.ensures.ok in
    (Written c.args.line.now, (c.utf8.line, (_, (reads, refl), spelt)), added, c.if-is_changed.true)
