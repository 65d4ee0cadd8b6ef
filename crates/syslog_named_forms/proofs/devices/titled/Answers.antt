use Rattle.syslog_named_forms.proofs.Names.{◌past◌, ◌then◌, drop, Fails, Front, host_row, inl, mapped, mapped_front}
use Rattle.syslog_named_forms.proofs.Names.{NamedTexts, no_mapped, no_row, NoFront, Option, refl, rest_front, Row}
use Rattle.syslog_named_forms.proofs.Names.{row_of, rows_join, rows_none_later, Text, titled_row}
use Rattle.syslog_named_forms.proofs.HostLemmas.{no_host}
use Rattle.syslog_named_forms.specs.Devices.{titled_of}
use Rattle.syslog_named_forms.proofs.RowLemmas.{host_row_det, titled_det}
use Rattle.syslog_named_forms.proofs.devices.titled.Goals as goal

-- not what follows the host
not_past : {text u : Text} {h : Option Text} → Front (Row host_row) text u (h, (tt, tt)) → Fails (drop 2 titled_row) u
    → NoFront (mapped (Row titled_row) NamedTexts titled_of) text
not_past f n = no_mapped (Row titled_row) NamedTexts titled_of
    (rows_none_later host_row (drop 2 titled_row) host_row_det f (no_row (drop 2 titled_row) titled_det.1.1 n))

pub returns-in_err-host : goal.returns-in_err-host
returns-in_err-host c text after = rw c.from_residual.ensures
    (no_host (drop 2 titled_row) titled_of (rw c.in_err-host.was at after))

pub returns-in_err-name : goal.returns-in_err-name
returns-in_err-name c text after = rw c.from_residual-in_err-name.ensures (not_past (rw c.in_ok-host.was at after)
    (inl c.in_err-name.ensures))

pub returns-in_err-rest : goal.returns-in_err-rest
returns-in_err-rest c text after = rw c.from_residual-in_err-rest.ensures (not_past (rw c.in_ok-host.was at after)
    (c.in_ok-name.ensures past inl c.in_err-rest.ensures))

pub returns : goal.returns
returns c text after = rw c.tagged.ensures (mapped_front (Row titled_row) NamedTexts titled_of
    (rows_join host_row (drop 2 titled_row) (rw c.in_ok-host.was at after) (row_of (drop 2 titled_row)
    (c.in_ok-name.ensures then c.in_ok-rest.ensures.1 then c.blanks.ensures then rest_front _ then refl))))
