use Rattle.syslog_tidy.proofs.Names.{append-nil, refl, sym, encodes-chars, Omitted, Written}
use Rattle.std.proofs.lemmas.Str.{IsUtf8-string_bytes}
use Rattle.syslog_tidy.proofs.filters.TidyLineFilter.filter_line.Goals as goal

pub returns-in_ok-push_line-in-Ok-clause-ok : goal.returns-in_ok-push_line-in-Ok-clause-ok
returns-in_ok-push_line-in-Ok-clause-ok c =
    let spelt = sym (encodes-chars _ (IsUtf8-string_bytes c.settle_line.new.text)) in
    let added = rw c.as_bytes.ensures.value at c.in_ok-push_line-in-Ok.ensures.ok in
    (Written _, (c.utf8.line, (_, c.in-Ok.ensures.settles, spelt)), added, refl)

pub returns-in-Err-Invalid-clause-ok : goal.returns-in-Err-Invalid-clause-ok
returns-in-Err-Invalid-clause-ok c =
    (Omitted, (λ utf8. c.in-Err-Invalid.ensures.settles c.in-Err-Invalid.field-0-is), sym (append-nil _), refl)
