use Rattle.syslog_object.proofs.Names.{◌≡◌, ◌∙◌, ap, encodes-chars, procid_text, subst}
use Rattle.std.specs.{Fmt.signed_decimal, Str.IsAscii, Str.chars}
use Rattle.std.proofs.lemmas.{Int.to_z-of_z, Str.encodes-IsAscii}
use Rattle.syslog_pieces.proofs.ProcIdLemmas.{named_names, process_same}
use Rattle.syslog_pieces.specs.{ProcId.named_process, declared.procid.ProcId.TheVariants.PID}
use Rattle.syslog_pieces.specs.declared.procid.ProcId.TheVariants.{Name}
use Rattle.syslog_object.proofs.field.push_named.Goals as goal

pub returns-in-PID : goal.returns-in-PID
returns-in-PID c =
    let word = chars c.args.word.now in
    let named = process_same word (PID c.in-PID.number) _ c.in-PID.ensures (named_names word) in
    let text : c.format-digits.result.now ≡ procid_text (named_process word) =
    c.format-digits.ensures.text ∙ ap signed_decimal (to_z-of_z _ _ c.in-PID.ensures.1) ∙ ap procid_text named in
    rw (encodes-IsAscii (procid_text (named_process word)) (subst IsAscii text c.format-digits.ensures.ascii))
    (rw text at c.push_text.ensures.text)

pub returns-in-Name : goal.returns-in-Name
returns-in-Name c =
    let word = chars c.args.word.now in
    let same = process_same word (Name (chars c.in-Name.name.now)) _ c.in-Name.ensures (named_names word) in
    rw (← (ap procid_text same), encodes-chars c.in-Name.name.now c.push_text-in-Name.ensures.utf8)
    c.push_text-in-Name.ensures.text
