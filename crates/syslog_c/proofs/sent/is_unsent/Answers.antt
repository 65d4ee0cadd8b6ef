use Rattle.syslog_c.proofs.Words.{in_year_map, inl, inr}
use Rattle.syslog_c.proofs.SentLemmas.{not_dashed, read_unnoted}
use Rattle.std.specs.Str.{chars}
use Rattle.syslog_c.proofs.sent.is_unsent.Goals as goal

pub returns-in_default : goal.returns-in_default
returns-in_default c = inl (not_dashed (chars c.args.text.now) _ c.trimmed.ensures c.in_default.ensures)

pub returns-in-Some-parse_sent_line : goal.returns-in-Some-parse_sent_line
returns-in-Some-parse_sent_line c =
    inr (in_year_map (λ year read. read_unnoted c.args.rules.now _ (chars c.args.text.now) _ _ read)
    c.in-Some-parse_sent_line.ensures.reads)
