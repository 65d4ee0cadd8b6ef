use Rattle.std.proofs.Common.{◌≡◌, string_bytes, take}
use Rattle.std.specs.Str.{encode_utf8_all}
use Rattle.syslog_utf8.proofs.decoding.decode_latin1.Given as goal

abbrev pub invariant-loop-byte : goal.invariant-loop-byte
invariant-loop-byte l = string_bytes l.text ≡ encode_utf8_all (take l.byte-index l.bytes)
