use Rattle.syslog_strict.proofs.Words.{ap, ◌∙◌, on_ok_weaker, chars-nil, chars, line_value, converted, text_in}
use Rattle.syslog_strict.specs.Conversion.{whole}
use Rattle.syslog_strict.proofs.TextLemmas.{line_joined}
use Rattle.syslog_strict.proofs.conversion.write_line.Goals as goal

pub returns : goal.returns
returns g c =
    let (u, left, same) = c.unparsed-unparsed.ensures in
    on_ok_weaker c.push_msg.result
    (λ e. (
      u,
      left,
      line_joined (converted (whole (line_value c.args.line.now) u))
          (text_in c.reserve.new.self) (text_in c.push_front.new.out) (text_in c.push_char.new.out)
          (text_in c.push_host.new.out) (text_in c.push_char-2.new.out) (text_in c.push_word.new.out)
          (text_in c.push_char-3.new.out) (text_in c.push_process.new.out) (text_in c.push_data.new.out) _
          (ap chars (c.in_ok-reserve.ensures.bytes ∙ c.clear.ensures.bytes) ∙ chars-nil)
          c.in_ok-push_front.ensures c.in_ok-push_char.ensures c.in_ok-push_host.ensures c.in_ok-push_char-2.ensures
          c.in_ok-push_word.ensures c.in_ok-push_char-3.ensures
          c.in_ok-push_process.ensures c.in_ok-push_data.ensures e,
    ))
    (c.push_msg.ensures u same)
