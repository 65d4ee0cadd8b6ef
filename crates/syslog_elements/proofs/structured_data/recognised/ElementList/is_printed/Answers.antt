use Rattle.syslog_elements.proofs.Names.{rules, arith, ◌∙◌, ap, sym, chars, elements_text, list_elements, Text, ◌++◌}
use Rattle.syslog_elements.proofs.Names.{append-nil, nil_from_length, length, length-append, cases_Bool, inl, inr}
use Rattle.syslog_text.proofs.TextLemmas.Runs.{chars_empty, chars_nonempty}
use Rattle.syslog_elements.proofs.structured_data.recognised.ElementList.is_printed.Goals as goal

pub returns-then-self-gt0 : goal.returns-then-self-gt0
returns-then-self-gt0 c =
    let list = c.args.self.now in
    let printed = list.prints (search rules) in (
      (λ empty. printed ∙ ap (λ (x : Text). elements_text (list_elements list) ++ x)
          (nil_from_length _ (chars_empty list.unparsed.now (search rules))) ∙ append-nil _),
      (λ same. elim (cases_Bool c.is_empty.result) [
        | inl told ↦ told
        | inr untold ↦ absurd (
            let some = chars_nonempty list.unparsed.now list.unparsed_utf8 (search rules) in
            omega (
              arith,
              some,
              ap length (sym same ∙ printed),
              length-append (elements_text (list_elements list)) (chars list.unparsed.now),
            ))
      ]),
    )
