use Rattle.syslog_loose.proofs.Names.{rules, ◌past◌, no_row, inl, refl, rows_none_here, no_row_division, visits_none}
use Rattle.syslog_loose.proofs.Names.{data_row, header_row, no_number, rfc5424_row}
use Rattle.syslog_loose.proofs.Rfc5424Lemmas.{header_det}
use Rattle.syslog_text.proofs.PieceLemmas.Class.{match_map}
use Rattle.syslog_loose.proofs.visit.visit_5424.Goals as goal

pub returns-then-not-reads_rfc5424 : goal.returns-then-not-reads_rfc5424
returns-then-not-reads_rfc5424 g c whole f = search rules

pub returns-then-not-begins_with_digit : goal.returns-then-not-begins_with_digit
returns-then-not-begins_with_digit g c whole f =
    let none = no_number 4294967295 _ c.utf8.text
    (rw c.as_bytes.ensures.value at c.if-not-begins_with_digit.ensures) in (
      (λ n. no_row_division rfc5424_row (rows_none_here header_row data_row
          (no_row header_row header_det (f past inl none)))),
      refl,
      visits_none g.E.ElementVisitor.was_given c.args.elements.now,
    )

pub returns : goal.returns
returns g c whole f =
    match_map c.visit_versioned.result (λ none. ((λ _. none.0), none.1, none.2))
    (λ made of. (of.0, (c.if-not-reads_rfc5424.ensures, of.1), of.2, of.3)) (c.visit_versioned.ensures whole f)
