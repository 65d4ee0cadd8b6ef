use Rattle.syslog_strict.proofs.Words.{ap, ap₂, rules, sym, ◌∙◌, ◌+◌, ◌*◌, line_value, timestamp_text, converted}
use Rattle.syslog_strict.proofs.Words.{front_text}
use Rattle.std.specs.Prelude.{unwrap_or}
use Rattle.syslog_pieces.specs.{Pri.facility_number, Pri.severity_number}
use Rattle.syslog_pieces.specs.{declared.pri.SyslogFacility.TheVariants.LOG_USER}
use Rattle.syslog_pieces.specs.{declared.pri.SyslogSeverity.TheVariants.SEV_NOTICE}
use Rattle.syslog_strict.proofs.{StampLemmas.front_chars, TextLemmas.appended}
use Rattle.syslog_strict.proofs.stamp.push_front.Goals as goal

pub returns-then-is_canonical_clock : goal.returns-then-is_canonical_clock
returns-then-is_canonical_clock c =
    let line = c.args.line.now in
    appended c.push_text.result _ _ _ _
    (front_chars _ c.strict_priority-priority.result line.timestamp _ (c.as_str.ensures ∙ c.front-front.ensures)
    (sym (search rules))
    ∙ ap (λ n. front_text n (timestamp_text (converted (line_value line)).timestamp))
    (c.strict_priority-priority.ensures.number
    ∙ ap₂ (λ f s. facility_number (unwrap_or f LOG_USER) * 8 + severity_number (unwrap_or s SEV_NOTICE))
    c.facility.ensures c.severity.ensures))
    c.push_text.ensures
