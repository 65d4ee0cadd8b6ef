use Rattle.syslog_pieces.proofs.Names.{sym, ap, ◌∙◌, has_written_of_eq, fields_text, CivilFields}
use Rattle.syslog_pieces.proofs.TimestampLemmas.Civil.{printed_stamp-is}
use Rattle.syslog_pieces.proofs.front.OffsetTimestampDisplay.fmt.Goals as goal

pub returns-clause-writes : goal.returns-clause-writes
returns-clause-writes g c canonical ok =
    let offset = c.args.self.now.offset.seconds in
    let shown = ap (λ (f : CivilFields). fields_text f offset) c.datetime_fields.ensures in
    let pushed = rw c.empty-text.ensures at c.push_fields.ensures.text in
    has_written_of_eq _ _ _ _ _ (c.as_str.ensures ∙ pushed ∙ shown ∙ sym (printed_stamp-is _ _ offset
    c.to_datetime-dt.ensures)) (c.write_str.ensures.writes canonical ok)
