use Rattle.syslog_command_line.proofs.Names.{◌≡◌, ◌∙◌, ◌++◌, ap, arith, false, rules, true, List, ℕ}
use Rattle.std.proofs.Common.{◌==◌, codes, decimal}
use Rattle.std.proofs.lemmas.List.{length-append}
use Rattle.syslog_command_line.proofs.ReportLemmas.{one_kind, two_kinds}
use Rattle.syslog_command_line.proofs.report.say_reasons.Goals as goal

pub returns-in-false-true-clause-text : goal.returns-in-false-true-clause-text
returns-in-false-true-clause-text c =
    let some : (c.args.invalid == 0) ≡ false = search rules in
    let none : (c.args.long == 0) ≡ true = search rules in
    rw (some, none) (
    c.joined-in-false-true.ensures (simp length-append (omega (arith, c.format-invalid_text.ensures.short)))
    ∙ rw c.format-invalid_text.ensures.text
    (ap (λ (l : List ℕ). codes " (" ++ l) (one_kind (decimal c.args.invalid)))
    )

pub returns-in-false-false-clause-text : goal.returns-in-false-false-clause-text
returns-in-false-false-clause-text c =
    let some : (c.args.invalid == 0) ≡ false = search rules in
    let others : (c.args.long == 0) ≡ false = search rules in
    rw (some, others) (
    c.joined-in-false-false.ensures (simp length-append (omega (
      arith,
      c.format-invalid_text.ensures.short,
      c.format-long_text.ensures.short,
    )))
    ∙ rw (c.format-invalid_text.ensures.text, c.format-long_text.ensures.text)
    (ap (λ (l : List ℕ). codes " (" ++ l) (two_kinds (decimal c.args.invalid) (decimal c.args.long)))
    )
