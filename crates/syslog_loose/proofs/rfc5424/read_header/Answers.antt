use Rattle.syslog_loose.proofs.Names.{◌≡◌, ◌then◌, ◌past◌, Option, None, inl, refl, Text, row_of, no_row, header_row}
use Rattle.syslog_loose.proofs.Names.{front_row, names_row, rows_join, Bor, List, ℕ, Line}
use Rattle.syslog_text.proofs.PieceLemmas.Class.{Fails, match_map, rows_none_later}
use Rattle.syslog_loose.specs.Bodies.View5424.{ReadsHeader}
use Rattle.syslog_loose.proofs.Rfc5424Lemmas.{front_det, header_det}
use Rattle.syslog_loose.proofs.rfc5424.read_header.Goals as goal

-- Each exit says that the row fails at its piece, after the pieces that were read; the return joins them.

unread : {text : Text} (r : Option (Line × Bor (List ℕ))) → r ≡ None → Fails header_row text → ReadsHeader text r
unread r e fails = rw e (no_row header_row header_det fails)

pub returns-in_err-version-clause-reads : goal.returns-in_err-version-clause-reads
returns-in_err-version-clause-reads g c whole f = unread _ c.from_residual.ensures (f past inl c.in_err-version.ensures)

pub returns-in_err-start-clause-reads : goal.returns-in_err-start-clause-reads
returns-in_err-start-clause-reads g c whole f =
    unread _ c.from_residual-in_err-start.ensures (f past c.in_ok-version.ensures past inl c.in_err-start.ensures)

pub returns-in_default-clause-reads : goal.returns-in_default-clause-reads
returns-in_default-clause-reads g c whole f =
    unread None refl (f past c.in_ok-version.ensures past c.in_ok-start.ensures past inl c.in_default.ensures)

pub returns-clause-reads : goal.returns-clause-reads
returns-clause-reads g c whole f =
    let front = row_of front_row (f then c.in_ok-version.ensures then c.in_ok-start.ensures then c.in-Some.ensures
    then refl) in
    match_map c.read_names.result (λ n. rows_none_later front_row names_row front_det front n)
    (λ x h. (_, h.0, (rw (h.1, h.2) (rows_join front_row names_row front h.4)), (rw (h.1, h.2, h.3) front), rw h.3 h.5))
    c.read_names.ensures.reads
