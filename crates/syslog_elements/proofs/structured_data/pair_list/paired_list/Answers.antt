use Rattle.std.proofs.Common.{inl, refl}
use Rattle.syslog_elements.proofs.Names.{rules, ◌≡◌, ◌<◌, arith, sym, ◌∙◌, no_row, row_of, ◌past◌, ◌then◌}
use Rattle.syslog_elements.specs.StructuredData.Pairs.{open_row}
use Rattle.syslog_elements.proofs.StructuredDataLemmas.Pairs.{no_paired, no_paired_none, no_paired_unended}
use Rattle.syslog_elements.proofs.StructuredDataLemmas.Pairs.{open_row_det, paired_front}
use Rattle.syslog_elements.proofs.structured_data.pair_list.paired_list.Goals as goal

pub returns-in_err-inside-clause-list : goal.returns-in_err-inside-clause-list
returns-in_err-inside-clause-list c =
    rw c.from_residual.ensures (no_paired (no_row open_row open_row_det (inl c.in_err-inside.ensures)))

pub returns-in_err-count-clause-list : goal.returns-in_err-count-clause-list
returns-in_err-count-clause-list c = rw c.from_residual-in_err-count.ensures
    (no_paired (no_row open_row open_row_det (c.in_ok-inside.ensures past inl c.in_err-count.ensures)))

pub returns-then-count-eq0-clause-list : goal.returns-then-count-eq0-clause-list
returns-then-count-eq0-clause-list c =
    let (ps, f, n) = c.in_ok-count.ensures in
    let none : c.in_ok-count.count ≡ 0 = search rules in
    no_paired_none (row_of open_row (c.in_ok-inside.ensures then f then refl)) (sym n ∙ none)

pub returns-then-not-allows-clause-list : goal.returns-then-not-allows-clause-list
returns-then-not-allows-clause-list c =
    let (ps, f, n) = c.in_ok-count.ensures in
    no_paired_unended (row_of open_row (c.in_ok-inside.ensures then f then refl)) c.if-not-allows.ensures

pub returns-clause-list : goal.returns-clause-list
returns-clause-list c =
    let (ps, f, n) = c.in_ok-count.ensures in
    let some : 0 < c.in_ok-count.count = search rules in
    paired_front (row_of open_row (c.in_ok-inside.ensures then f then refl)) (omega (arith, some, n))
    c.if-not-allows.ensures (c.of_pairs.ensures.elements _ ps f)
