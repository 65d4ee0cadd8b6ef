use Rattle.syslog_named_forms.proofs.Names.{◌otherwise◌, box, box_of, box_row, drop, first_front, host_row}
use Rattle.syslog_named_forms.proofs.Names.{mapped_front, match_map, NamedTexts, no_mapped, no_otherwise, Row}
use Rattle.syslog_named_forms.proofs.Names.{rows_none_here, second_front, serial, serial_of, serial_row}
use Rattle.syslog_named_forms.proofs.ProgramLemmas.{no_box_alone, no_box_open, no_serial_open}
use Rattle.syslog_named_forms.specs.Programs.{one_of_names}
use Rattle.syslog_named_forms.proofs.programs.after_serial.Goals as goal

pub returns-in_err-host : goal.returns-in_err-host
returns-in_err-host c text after = let none = rw c.in_err-host.was at after in
    rw c.from_residual.ensures (no_mapped (serial otherwise box) NamedTexts one_of_names (no_otherwise
    (no_mapped (Row serial_row) NamedTexts serial_of (rows_none_here host_row (drop 2 serial_row) none))
    (no_mapped (Row box_row) NamedTexts box_of (no_box_alone none))))

pub returns-in-Some : goal.returns-in-Some
returns-in-Some c text after = let host = rw c.in_ok-host.was at after in
    let no_serial = no_mapped (Row serial_row) NamedTexts serial_of (no_serial_open host c.in-Some.ensures.1) in
    match_map c.without_host.result
    (λ n. no_mapped (serial otherwise box) NamedTexts one_of_names (no_otherwise no_serial n))
    (λ x f. mapped_front (serial otherwise box) NamedTexts one_of_names (second_front no_serial f))
    (c.without_host.ensures text _ host c.in-Some.ensures.1)

pub returns-in-None : goal.returns-in-None
returns-in-None c text after = let host = rw c.in_ok-host.was at after in
    let no_box = no_mapped (Row box_row) NamedTexts box_of (no_box_open host c.in-None.ensures) in
    match_map c.with_host.result
    (λ n. no_mapped (serial otherwise box) NamedTexts one_of_names (no_otherwise n no_box))
    (λ x f. mapped_front (serial otherwise box) NamedTexts one_of_names (first_front f))
    (c.with_host.ensures text host)
