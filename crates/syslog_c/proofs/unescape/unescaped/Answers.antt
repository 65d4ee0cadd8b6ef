use Rattle.syslog_c.proofs.Words.{◌∙◌, ℕ, List, [], inl, rules, sym, subst, Text}
use Rattle.std.specs.Str.{chars}
use Rattle.syslog_elements.specs.StructuredData.Escapes.{IsUnescaped}
use Rattle.syslog_c.specs.Texts.{IsUnescapedValue, Unescaped}
use Rattle.syslog_c.proofs.TextLemmas.{taken_none, told, with_room}
use Rattle.syslog_c.proofs.unescape.unescaped.Goals as goal

pub returns : goal.returns
returns c =
    let value = c.args.value.now in
    let first = c.new-buffer.result in
    let now = c.push_unescaped.new.buffer in
    let (text, unescaped, (bytes, valid, spelt, takes)) = c.push_unescaped.ensures in
    let h = takes first [] (taken_none first c.new-buffer.ensures.none.1) in
    let same = h.same ∙ c.new-buffer.ensures.same in
    let is : IsUnescapedValue value bytes = record {
      value_utf8 = c.in-Ok.ensures.1;
      utf8 = valid;
      unescaped = subst (λ (v : List ℕ). IsUnescaped (chars v) (chars bytes)) c.in-Ok.ensures.0
          (subst (λ (t : Text). IsUnescaped (chars c.in-Ok.text.now) t) (sym spelt) unescaped);
    } in
    with_room
    (λ room. Unescaped value c.args.room.now room c.report_length.new.needed c.report_length.result) now.room.now _
    (search (rules, same))
    (inl (
      bytes,
      is,
      told first now bytes c.args.room.now c.report_length.new.needed c.report_length.result
          c.new-buffer.ensures.none.0 h c.report_length.ensures,
    ))
