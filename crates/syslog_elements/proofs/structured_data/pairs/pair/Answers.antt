use Rattle.std.proofs.Common.{inl, refl}
use Rattle.syslog_elements.proofs.Names.{Row, Text, mapped_front, no_mapped, no_row, row_of, ◌past◌, ◌then◌}
use Rattle.syslog_elements.specs.StructuredData.Pairs.{pair_of, pair_row}
use Rattle.syslog_elements.proofs.StructuredDataLemmas.Pairs.{pair_row_det}
use Rattle.syslog_elements.proofs.structured_data.pairs.pair.Goals as goal

pub returns-in_err-after_colon : goal.returns-in_err-after_colon
returns-in_err-after_colon c = rw c.from_residual-in_err-after_colon.ensures
    (no_mapped (Row pair_row) (Text × Text) pair_of (no_row pair_row pair_row_det
    (c.in_ok-name.ensures past inl c.in_err-after_colon.ensures)))

pub returns-in_err-opened : goal.returns-in_err-opened
returns-in_err-opened c = rw c.from_residual-in_err-opened.ensures
    (no_mapped (Row pair_row) (Text × Text) pair_of (no_row pair_row pair_row_det
    (c.in_ok-name.ensures past c.in_ok-after_colon.ensures past inl c.in_err-opened.ensures)))

pub returns-in_err-value : goal.returns-in_err-value
returns-in_err-value c = rw c.from_residual-in_err-value.ensures
    (no_mapped (Row pair_row) (Text × Text) pair_of (no_row pair_row pair_row_det
    (c.in_ok-name.ensures past c.in_ok-after_colon.ensures past c.in_ok-opened.ensures past inl
    c.in_err-value.ensures)))

pub returns-in_err-rest : goal.returns-in_err-rest
returns-in_err-rest c = rw c.from_residual-in_err-rest.ensures
    (no_mapped (Row pair_row) (Text × Text) pair_of (no_row pair_row pair_row_det
    (c.in_ok-name.ensures past c.in_ok-after_colon.ensures past c.in_ok-opened.ensures past c.in_ok-value.ensures past
    inl c.in_err-rest.ensures)))

pub returns : goal.returns
returns c = mapped_front (Row pair_row) (Text × Text) pair_of (row_of pair_row (c.in_ok-name.ensures then
    c.in_ok-after_colon.ensures then c.in_ok-opened.ensures then c.in_ok-value.ensures then c.in_ok-rest.ensures then
    refl))
