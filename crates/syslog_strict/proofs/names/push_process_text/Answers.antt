use Rattle.syslog_strict.proofs.Words.{ap, arith, refl, sym, ◌∙◌, chars, process_text, converted_process, subst}
use Rattle.syslog_strict.proofs.Words.{NamesProcess, named_names, signed_decimal, to_z-of_z}
use Rattle.syslog_strict.proofs.{NameLemmas.bare_stays, TextLemmas.appended}
use Rattle.syslog_strict.proofs.names.push_process_text.Goals as goal

pub returns-then-is_kept : goal.returns-then-is_kept
returns-then-is_kept c = appended c.push_text.result _ _ _ _ (sym (bare_stays c.args.word.now c.utf8.word (omega arith)
    (c.if-is_kept.ensures refl) (c.if-is_bare_word.ensures.0 refl))) c.push_text.ensures

pub returns-in-PID : goal.returns-in-PID
returns-in-PID c =
    let word = chars c.args.word.now in
    let names = subst (NamesProcess word) (sym c.in-PID.ensures) (named_names word) in
    appended c.push_number.result _ _ _ _ (ap signed_decimal (to_z-of_z _ _ names.1)
    ∙ ap (λ p. process_text (converted_process p)) c.in-PID.ensures) c.push_number.ensures

pub returns-in-Name : goal.returns-in-Name
returns-in-Name c = appended c.push_process_name.result _ _ _ _
    (ap (λ p. process_text (converted_process p)) c.in-Name.ensures) c.push_process_name.ensures
