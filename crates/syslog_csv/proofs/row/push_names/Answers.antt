use Rattle.std.proofs.Common.{◌∙◌, [], ap}
use Rattle.std.specs.Option.{unwrap_or}
use Rattle.syslog_csv.proofs.CellLemmas.{stamp_same}
use Rattle.syslog_csv.proofs.RecordLemmas.{adds_next, adds_none}
use Rattle.syslog_csv.proofs.row.push_names.Goals as goal

pub returns : goal.returns
returns c =
    adds_next _ _ _ _ _ _
    (c.stamp_cell.ensures ∙ ap (λ o. unwrap_or o []) c.printed_stamp-stamp.ensures
    ∙ stamp_same c.args.line.now.timestamp)
    c.in_ok-push_later.ensures
    (adds_next _ _ _ _ _ _ c.text_cell.ensures c.in_ok-push_later-2.ensures
    (adds_next _ _ _ _ _ _ c.text_cell-2.ensures c.in_ok-push_later-3.ensures
    (adds_next _ _ _ _ _ _ c.process_cell.ensures c.in_ok-push_later-4.ensures
    (adds_next _ _ _ _ _ _ c.text_cell-3.ensures c.in_ok-push_later-5.ensures (adds_none _)))))
