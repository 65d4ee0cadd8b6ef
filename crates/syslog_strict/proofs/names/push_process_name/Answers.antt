use Rattle.syslog_strict.proofs.Words.{ap, sym, ◌∙◌, chars, named_process, procid_text, converted_word}
use Rattle.syslog_strict.proofs.{TextLemmas.appended, TextLemmas.started, NameLemmas.word_named}
use Rattle.syslog_strict.proofs.names.push_process_name.Goals as goal

pub returns : goal.returns
returns c =
    let word = ap chars c.as_str.ensures.value ∙ started _ _ _ c.in_ok-push_word_text.ensures
    (ap chars c.new-word.ensures.bytes) in
    appended c.push_id.result _ _ _ _
    (ap procid_text c.process_of.ensures ∙ ap (λ x. procid_text (named_process x)) word
    ∙ sym (word_named (converted_word 128 (chars c.args.name.now))))
    c.push_id.ensures
