use Rattle.syslog_pieces.proofs.Names.{refl}
use Rattle.syslog_pieces.proofs.TimestampLemmas.Civil.{civil-fields_of, shown_nanos}
use Rattle.syslog_pieces.proofs.TimestampLemmas.Rfc3339.{same_timestamp}
use Rattle.syslog_pieces.proofs.timestamp.zone.shown_at.Goals as goal

pub invariant_of-result : goal.invariant_of-result
invariant_of-result c = record {
  civil = rw c.datetime_fields.ensures (civil-fields_of c.to_datetime.result);
  in_range = rw (shown_nanos c.to_datetime.result c.datetime_fields.result c.args.instant.nanosecond
      c.args.offset.seconds c.datetime_fields.ensures c.to_datetime.ensures) c.args.instant.in_range;
}

pub returns : goal.returns
returns c = same_timestamp _ _ (shown_nanos c.to_datetime.result c.datetime_fields.result c.args.instant.nanosecond
    c.args.offset.seconds c.datetime_fields.ensures c.to_datetime.ensures) refl
