use Rattle.std.proofs.Common.{◌∙◌, ap, arith}
use Rattle.std.proofs.lemmas.List.{take_all}
use Rattle.std.specs.Str.{chars, encode_utf8_all}
use Rattle.syslog_utf8.proofs.DecodeLemmas.{chars_of_bytes, encodes_more}
use Rattle.syslog_utf8.proofs.decoding.decode_latin1.Goals as goal

pub loop-byte-preserved : goal.loop-byte-preserved
loop-byte-preserved c =
    (rw (c.from.ensures, c.loop-byte.invariant) at c.in_ok-push.ensures.bytes)
    ∙ encodes_more c.args.bytes.now c.loop-byte.byte-index c.loop-byte-test.true

pub returns-clause-whole : goal.returns-clause-whole
returns-clause-whole c =
    let bytes = c.args.bytes.now in
    ap chars (c.loop-byte.invariant ∙ ap encode_utf8_all (take_all c.loop-byte.byte-index bytes (omega arith)))
    ∙ chars_of_bytes bytes (λ k. omega (arith, c.type_inv.bytes k))
