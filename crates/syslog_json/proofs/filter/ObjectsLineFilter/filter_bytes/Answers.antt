use Rattle.syslog_json.proofs.Names.{◌≡◌, ◌∙◌, ap, sym}
use Rattle.std.proofs.Common.{◌++◌, List, ℕ, not}
use Rattle.syslog_lines.specs.Output.{answer_bytes}
use Rattle.syslog_json.proofs.UniqueLemmas.{invalid_answer, marked_output_if, marked_unless}
use Rattle.syslog_json.proofs.filter.ObjectsLineFilter.filter_bytes.Goals.{then-not-self+in_ok-mark, else-not-self}
use Rattle.syslog_json.proofs.filter.ObjectsLineFilter.filter_bytes.Goals as goal

pub returns-clause-ok : goal.returns-clause-ok
returns-clause-ok c =
    let filter = c.args.self.now in
    let (answer, given, added, same) = c.in_ok-is_message.ensures.ok in
    let made : c.filter_line.new.output.items ≡ answer_bytes answer = rw c.new-object.ensures.items at added in
    let whole : c.if-not-self.object.items
    ≡ marked_output_if filter.csv (not filter.latin1) c.filter_line.new.output.items =
    elim c.if-not-self.branch [
      | then-not-self+in_ok-mark w ↦ marked_unless filter.csv filter.latin1 _ _
          (λ off. ap (λ o. o.items) w.object-is ∙ w.in_ok-mark.ensures)
          (λ on. absurd (cc (w.if-not-self.true, on)))
      | else-not-self w ↦ marked_unless filter.csv filter.latin1 _ _ (λ off. absurd (cc (w.if-not-self.false, off)))
          (λ on. ap (λ o. o.items) w.object-is)
    ] in
    let text = c.as_str.ensures.value ∙ c.in_ok-text.ensures.text in
    let (other, is, bytes, kept) = invalid_answer filter c.args.line.now _ answer c.requires text c.as_str.utf8
    given in (
      other,
      is,
      (rw c.as_slice.ensures.value at c.in_ok-extend_from_slice.ensures.items)
          ∙ ap (λ (l : List ℕ). c.args.output.now.items ++ l)
          (whole ∙ ap (marked_output_if filter.csv (not filter.latin1)) made ∙ sym bytes),
      same ∙ sym kept,
    )
