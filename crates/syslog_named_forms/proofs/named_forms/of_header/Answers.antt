use Rattle.syslog_named_forms.proofs.Names.{◌++◌, ◌before◌, Class, found, header_forms, List, no_row_division}
use Rattle.syslog_named_forms.proofs.Names.{rows_none_here}
use Rattle.syslog_named_forms.specs.NearHeader as header
use Rattle.syslog_named_forms.specs.declared.untagged.Mark.TheVariants as mark
use Rattle.syslog_named_forms.proofs.named_forms.of_header.Goals as goal

pub returns-in-Some : goal.returns-in-Some
returns-in-Some c = c.of_start.ensures c.in-Some.ensures

pub returns-in-None : goal.returns-in-None
returns-in-None c =
    let none = λ (more : List Class). no_row_division (header.head_row ++ more)
    (rows_none_here header.head_row more c.in-None.ensures) in
    found header_forms (none (header.vendor_more mark.Cef) before none (header.vendor_more mark.Leef) before
    none header.paired_more before none header.nil_more before none header.tag_more before
    none header.heroku_more before none header.bare_more before record { finds = c.of_seconds.ensures })
