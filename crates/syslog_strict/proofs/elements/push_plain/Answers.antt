use Rattle.syslog_strict.proofs.Words.{append_assoc, arith, chars, length, ap, text_in, ◌++◌, sym}
use Rattle.std.proofs.lemmas.List.{length-append}
use Rattle.syslog_strict.proofs.ValueLemmas.{value_run}
use Rattle.syslog_strict.proofs.elements.push_plain.Goals as goal

pub returns : goal.returns
returns c =
    let run = chars c.split_run.result.0.now in
    let rest = chars c.split_run.result.1.now in (
      rw (c.in_ok-push_text.ensures, c.split_run.ensures.characters, append_assoc)
          (ap (λ x. text_in c.args.out.now ++ x) (sym (value_run run rest c.split_run.ensures.each))),
      omega (arith, ap length c.split_run.ensures.characters, length-append run rest),
      c.split_run.ensures.ends,
      c.split_run.ensures.back_utf8,
    )
