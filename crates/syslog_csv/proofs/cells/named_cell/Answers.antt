use Rattle.std.proofs.Common.{◌≡◌, ◌∙◌, ap, subst, sym}
use Rattle.std.specs.{Fmt.signed_decimal, Prelude.encode_utf8_all, Str.IsAscii, Str.chars}
use Rattle.std.proofs.lemmas.{Int.to_z-of_z, Str.encodes-IsAscii}
use Rattle.syslog_pieces.proofs.ProcIdLemmas.{named_names, process_same}
use Rattle.syslog_pieces.specs.{ProcId.named_process, ProcId.procid_text, declared.procid.ProcId.TheVariants.PID}
use Rattle.syslog_pieces.specs.declared.procid.ProcId.TheVariants.{Name}
use Rattle.syslog_csv.proofs.cells.named_cell.Goals as goal

pub returns-in-PID : goal.returns-in-PID
returns-in-PID c =
    let word = chars c.args.word.now in
    let named = process_same word (PID c.in-PID.number) _ c.in-PID.ensures (named_names word) in
    let text : c.format.result.now ≡ procid_text (named_process word) =
    c.format.ensures.text ∙ ap signed_decimal (to_z-of_z _ _ c.in-PID.ensures.1) ∙ ap procid_text named in
    c.as_bytes.ensures.value ∙ text
    ∙ sym (encodes-IsAscii (procid_text (named_process word)) (subst IsAscii text c.format.ensures.ascii))

pub returns-in-Name : goal.returns-in-Name
returns-in-Name c =
    let word = chars c.args.word.now in
    let same = process_same word (Name (chars c.in-Name.name.now)) _ c.in-Name.ensures (named_names word) in
    c.bytes_of.ensures ∙ ap (λ p. encode_utf8_all (procid_text p)) same
