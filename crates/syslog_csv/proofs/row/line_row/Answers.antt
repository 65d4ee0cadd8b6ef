use Rattle.std.proofs.Common.{◌≡◌, ◌∙◌, ◌++◌, ◌∷◌, [], ℕ, List, ap, option_map, sym}
use Rattle.syslog_text.specs.Pieces.View.{seen}
use Rattle.syslog_elements.specs.StructuredData.Visited.{list_elements}
use Rattle.syslog_loose.specs.Line.{line_value}
use Rattle.syslog_object.specs.Object.{beside_line, message_json, protocol_text, text_json, version_json}
use Rattle.syslog_csv.proofs.CellLemmas.{cells_of_message, cells_with, elements_same, from_empty, message_cells}
use Rattle.syslog_csv.proofs.CellLemmas.{row_made}
use Rattle.syslog_csv.proofs.RecordLemmas.{record_whole}
use Rattle.syslog_csv.specs.Records.{record_text}
use Rattle.syslog_csv.specs.Rows.{cell_of}
use Rattle.syslog_csv.proofs.row.line_row.Goals as goal

pub returns : goal.returns
returns c =
    let (u, left, texts) = c.in_ok-push_texts.ensures in
    let m = line_value c.args.line.now in
    let b = beside_line (seen c.args.dialect) u (seen c.args.raw) in
    let f = c.facility.result in
    let s = c.severity.result in
    let e = c.args.elements.now in
    let begun = from_empty _ _ _ c.in_ok-row.ensures.items c.in_ok-push_kind.ensures in
    let whole : c.push_texts.new.row.items ≡ record_text (cells_with m b f s e) =
    record_whole _ _ _ _ (protocol_text m.protocol)
    (cell_of (version_json m.protocol) ∷ cell_of (option_map text_json (seen c.args.dialect)) ∷ []) _ _ _ begun
    c.in_ok-push_priority.ensures c.in_ok-push_names.ensures texts in
    let same : record_text (cells_with m b f s e) ≡ record_text (message_cells m b) =
    ap (λ x. record_text (cells_with m b x s e)) c.facility.ensures
    ∙ ap (λ x. record_text (cells_with m b m.facility x e)) c.severity.ensures
    ∙ ap (λ x. record_text (cells_with m b m.facility m.severity x))
    (elements_same (list_elements c.args.line.now.list) e c.requires) in (
      u,
      left,
      row_made (message_json m b) (message_cells m b) _ (sym (cells_of_message m b))
          (c.in_ok-push.ensures.items ∙ ap (λ (l : List ℕ). l ++ (13 ∷ [])) (whole ∙ same)),
    )
