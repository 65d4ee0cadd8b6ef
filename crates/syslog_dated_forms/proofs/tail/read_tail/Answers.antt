use Rattle.syslog_dated_forms.proofs.Names.{◌then◌, refl, rest_front, row_of, tail_row}
use Rattle.syslog_loose.specs.Bodies.View3164.{names_value}
use Rattle.syslog_dated_forms.proofs.tail.read_tail.Goals as goal

pub returns : goal.returns
returns c =
    let f = row_of tail_row (c.host_field.ensures then c.tag_field.ensures then c.blanks.ensures then
    c.past_colon.ensures.1
    then c.blanks-msg.ensures then rest_front _ then refl) in
    record {
      piece = f.piece;
      whole = f.whole;
      is = (
        _,
        _,
        _,
        names_value c.resolve-names.result,
        f.is,
        c.resolve-names.ensures.names,
        refl,
        refl,
        c.resolve-names.ensures.process,
      );
    }
