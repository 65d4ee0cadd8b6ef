use Rattle.syslog_command_line.proofs.Names.{◌≡◌, ◌++◌, ◌∙◌, arith, inline_text, refl}
use Rattle.syslog_command_line.proofs.ReportLemmas.{same_text, two_parts}
use Rattle.syslog_command_line.proofs.report.report_counts.Goals as goal

pub returns-clause-said : goal.returns-clause-said
returns-clause-said g c = λ fits.
    let whole : inline_text c.and_str-text.result ≡ c.as_str.result.now ++ c.as_str-2.result.now =
    two_parts 1024 _ _ _ _ _ c.new.ensures.text (c.and_str.ensures.to_end (omega arith))
    (c.and_str-text.ensures.to_end (omega arith)) (omega (arith, c.as_str.ensures.len, c.as_str-2.ensures.len)) in
    let refused = c.as_str.ensures.value ∙ c.say_refused-refused.ensures fits in
    let replaced = c.as_str-2.ensures.value ∙ c.say_replaced-replaced.ensures fits in
    same_text _ _ _ _ _ (c.as_str-3.ensures.value ∙ whole ∙ rw (refused, replaced) refl) c.write_text.ensures
