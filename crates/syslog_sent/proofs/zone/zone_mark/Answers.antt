use Rattle.std.proofs.Common.{ℤ, FitsSigned, Option, rules, w32}
use Rattle.std.proofs.lemmas.Int.{to_z-of_z}
use Rattle.syslog_text.proofs.PieceLemmas.Class.{mapped_front, no_mapped}
use Rattle.syslog_sent.specs.{Named.◌otherwise◌, Zone.numeric_offset, Zone.offset_of, Zone.zone_name}
use Rattle.syslog_sent.proofs.NamedLemmas.{first_front, no_otherwise, second_front}
use Rattle.syslog_sent.proofs.zone.zone_mark.Goals as goal

pub returns-in-Some : goal.returns-in-Some
returns-in-Some c =
    let fits : FitsSigned w32 c.in-Some.seconds = search rules in
    rw to_z-of_z (mapped_front (numeric_offset otherwise zone_name) (Option ℤ) offset_of
    (first_front c.in-Some.ensures))

pub returns-in_err-name : goal.returns-in_err-name
returns-in_err-name c = rw c.from_residual.ensures (no_mapped (numeric_offset otherwise zone_name) (Option ℤ) offset_of
    (no_otherwise c.in_default.ensures c.in_err-name.ensures))

pub returns : goal.returns
returns c = rw c.name_offset.ensures (mapped_front (numeric_offset otherwise zone_name) (Option ℤ) offset_of
    (second_front c.in_default.ensures c.in_ok-name.ensures))
