use Rattle.syslog_dialects.proofs.Names.{◌then◌, front_division, inl, opened_row, refl, rest_front, row_of}
use Rattle.syslog_dialects.proofs.paired.opened.Goals as goal

pub returns-clause-opened : goal.returns-clause-opened
returns-clause-opened c = inl (
  c.if-not-has_pairs.ensures,
  record {
    elements = _;
    msg = _;
    division = front_division opened_row
        (row_of opened_row (c.in-Some.ensures.list then c.blanks-line.ensures then rest_front _ then refl));
    same = refl;
  },
)
