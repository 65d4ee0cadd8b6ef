use Rattle.syslog_text.proofs.TextLemmas.Runs.{bare_ends}
use Rattle.syslog_text.proofs.Names.{◌≡◌, ◌-◌, ◌∙◌, sym, true, length, get_or, byte_in, Visible}
use Rattle.syslog_text.proofs.text.is_bare.Goals as goal

pub returns-in-len2-up : goal.returns-in-len2-up
returns-in-len2-up c = λ t.
    let bytes = c.args.bytes.now in
    let last : byte_in Visible (get_or bytes (length bytes - 1) 0) ≡ true = cc in
    bare_ends bytes c.in-len2-up.len_at_least (sym c.is_in.ensures ∙ c.if-is_in.true) last
