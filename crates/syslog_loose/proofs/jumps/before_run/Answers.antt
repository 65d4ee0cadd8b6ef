use Rattle.syslog_loose.proofs.Names.{None, sym, ◌∙◌, colon, arith, append_cancel_right}
use Rattle.std.proofs.lemmas.Str.Pattern.{strip_suffix_char}
use Rattle.syslog_loose.proofs.SettlingLemmas.Settles.{suffix_bytes}
use Rattle.syslog_loose.proofs.jumps.before_run.Goals as goal

pub returns-in-None : goal.returns-in-None
returns-in-None c = λ one front e ends.
    let short = c.in-Some.shorter.now in
    let whole = rw one at (suffix_bytes c.args.run.now c.args.text.now short c.in-Some.ensures.cases) in
    strip_suffix_char 58 short None c.in-None.ensures.cases (omega arith) ends.0
    (append_cancel_right short front colon (sym whole ∙ e) ∙ ends.1)
