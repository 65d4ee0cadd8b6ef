use Rattle.syslog_c.proofs.Words.{◌++◌, ◌∙◌, ap, sym, subst, ℕ, List, line_value}
use Rattle.std.specs.Str.{encode_utf8_all}
use Rattle.syslog_pieces.proofs.Names.{encodes-chars}
use Rattle.syslog_loose.specs.Printed.{rest_text}
use Rattle.syslog_c.specs.Room.{Takes}
use Rattle.syslog_c.proofs.TextLemmas.{takes_after}
use Rattle.syslog_c.proofs.put_line.put_line.Goals as goal

pub returns : goal.returns
returns c =
    let (bytes, valid, spelt, takes) = c.put_rest.ensures in
    let rest = sym (encodes-chars bytes valid) ∙ ap encode_utf8_all spelt in
    let front = c.as_str.result.now in
    let more = encode_utf8_all (rest_text (line_value c.args.line.now)) in
    let whole = ap (λ (x : List ℕ). front ++ x) rest ∙ ap (λ (x : List ℕ). x ++ more) c.as_str.ensures
    ∙ c.front-front.ensures in
    subst (λ (x : List ℕ). Takes c.args.buffer.now x c.put_rest.new.buffer) whole
    (takes_after _ _ _ _ _ c.push.ensures takes)
