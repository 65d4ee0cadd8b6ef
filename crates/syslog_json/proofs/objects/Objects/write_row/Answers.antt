use Rattle.syslog_json.proofs.Names.{Option, subst, Text, line_value, message_json}
use Rattle.syslog_object.specs.Object.{beside_line}
use Rattle.syslog_csv.specs.Rows.{IsRowOf}
use Rattle.syslog_sent.specs.Dialect.{dialect_text}
use Rattle.syslog_json.proofs.objects.Objects.write_row.Goals as goal

pub returns-clause-ok : goal.returns-clause-ok
returns-clause-ok c =
    let m = line_value c.args.found.now.line in
    let dialect = dialect_text c.args.found.now.dialect in
    let (u, left, is) = c.in_ok-row.ensures in (
      _,
      (
        u,
        left,
        subst (λ (o : Option Text). IsRowOf (message_json m (beside_line dialect u o)) c.in_ok-row.row.items)
            c.raw_line.ensures (rw c.dialect_name.ensures at is),
      ),
      rw c.as_slice-2.ensures.value at c.in_ok-extend_from_slice.ensures.items,
    )
