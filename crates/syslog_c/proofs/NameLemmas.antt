-- The names of facilities and severities, once they are encoded; and the facility of a priority.
use Rattle.syslog_c.proofs.Words.{◌≡◌, ℕ, arith, encode_utf8_all}
use Rattle.std.proofs.Common.{◌*◌, ◌/◌, true}
use Rattle.std.{proofs.lemmas.Str.chars-encodes, specs.Str.all_scalars, specs.Str.chars}
use Rattle.syslog_pieces.specs.Pri.{facility_name, severity_name}
use Rattle.syslog_pieces.specs.declared.pri.SyslogFacility.{SyslogFacility}
use Rattle.syslog_pieces.specs.declared.pri.SyslogSeverity.{SyslogSeverity}

facility_scalars : (f : SyslogFacility) → all_scalars (facility_name f) ≡ true
facility_scalars f = grind arith

severity_scalars : (s : SyslogSeverity) → all_scalars (severity_name s) ≡ true
severity_scalars s = grind arith

pub facility_spelt : (f : SyslogFacility) → chars (encode_utf8_all (facility_name f)) ≡ facility_name f
facility_spelt f = chars-encodes (facility_name f) (facility_scalars f)

pub severity_spelt : (s : SyslogSeverity) → chars (encode_utf8_all (severity_name s)) ≡ severity_name s
severity_spelt s = chars-encodes (severity_name s) (severity_scalars s)

pub eighth : (n : ℕ) → n * 8 / 8 ≡ n
eighth n = omega arith
