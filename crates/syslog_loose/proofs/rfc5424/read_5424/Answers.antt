use Rattle.syslog_loose.proofs.Names.{texted, ◌past◌, ◌then◌, inl, refl, no_row, row_of, trimmed, rest_front, rows_join}
use Rattle.syslog_loose.proofs.Names.{rows_none_here, header_row, data_row, rfc5424_row, no_row_division}
use Rattle.syslog_loose.proofs.{LineLemmas.texted_as, Names.front_division, Names.tail_row}
use Rattle.syslog_text.proofs.PieceLemmas.Class.{rows_none_later}
use Rattle.syslog_elements.specs.StructuredData.{forgiving}
use Rattle.syslog_loose.proofs.Rfc5424Lemmas.{data_det, header_det, rest_fits}
use Rattle.syslog_loose.proofs.rfc5424.read_5424.Goals as goal

pub returns-in_default-clause-reads : goal.returns-in_default-clause-reads
returns-in_default-clause-reads g c whole f =
    no_row_division rfc5424_row (rows_none_here header_row data_row (c.in_default.ensures.reads (trimmed whole) f))

pub returns-in_default-visit_forgiving_list-clause-reads : goal.returns-in_default-visit_forgiving_list-clause-reads
returns-in_default-visit_forgiving_list-clause-reads g c whole f =
    let (version, is, header, front, names) = c.in-Some.ensures.reads (trimmed whole) f in
    no_row_division rfc5424_row (rows_none_later header_row data_row header_det header
    (no_row data_row data_det (c.blanks-at_list.ensures past inl c.in_default-visit_forgiving_list.ensures.list)))

pub returns-clause-reads : goal.returns-clause-reads
returns-clause-reads g c whole f =
    let (version, is, header, front, names) = c.in-Some.ensures.reads (trimmed whole) f in
    let list = c.in-Some-visit_forgiving_list.ensures in
    let body = row_of data_row (c.blanks-at_list.ensures then list.list then c.blanks-msg.ensures then rest_front _
    then refl) in
    let own = row_of (tail_row (texted forgiving)) (c.blanks-at_list.ensures then texted_as forgiving list.list
    list.text then c.blanks-msg.ensures then rest_front _ then refl) in
    record {
      read = record {
        values = _;
        division = front_division rfc5424_row (rows_join header_row data_row header body);
        means = rw is refl;
      };
      version = version;
      has_version = is;
      front = front;
      after = _;
      names = names;
      parts = front_division (tail_row (texted forgiving)) own;
      is_printed = rw is (rest_fits c.in-Some.ensures.prints c.blanks-at_list.ensures list.list list.text
          c.are_all-is_printed.ensures c.is_one_space.ensures c.is_printed.ensures c.is_one_space-2.ensures);
    }
