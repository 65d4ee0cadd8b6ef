use Rattle.syslog_object.proofs
use proofs.Names.{append_assoc, [], List, ℕ, ◌++◌, ◌∷◌, ◌≡◌, ◌∙◌, ap, drop, escape, length, on_ok_weaker, refl}
use proofs.Names.{compact_text}
use Rattle.std.proofs.{Math.Seq.drop-append_seam, lemmas.List.take_rest}
use Rattle.json.specs.Print.{escape_byte}
use Rattle.syslog_object.specs.Object.{refused_json}
use proofs.{WriterLemmas.on_extended, WrittenLemmas.text_of_refused}
use Rattle.syslog_object.proofs.writer.ObjectWriter.write_refused.Goals as goal

pub returns-clause-ok : goal.returns-clause-ok
unfolding escape_byte
returns-clause-ok c =
    let line = c.args.line.now in
    let object = compact_text (refused_json line) in
    let before : List ℕ = c.args.self.now.text in
    let now = c.as_slice.result.now in
    let written : now ≡ before ++ object =
    c.as_slice.ensures ∙ c.in_ok-push_text.ensures.text
    ∙ ap (λ xs. before ++ xs) (rw (append_assoc (escape line) (34 ∷ []) _) refl) in
    let own : drop (length before) now ≡ object =
    ap (drop (length before)) written ∙ drop-append_seam before object in
    on_ok_weaker c.extend_from_slice.result (λ e. (_, text_of_refused line, e))
    (on_extended c.extend_from_slice.result _ _ _ _ c.extend_from_slice.ensures.items
    (take_rest now _ ∙ ap (λ (k : ℕ). drop k now) c.len-start.ensures ∙ own))
