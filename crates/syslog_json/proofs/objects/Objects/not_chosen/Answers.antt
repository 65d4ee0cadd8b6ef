use Rattle.std.proofs.Common.{rules, IsTrue}
use Rattle.syslog_loose.specs.Line.{line_value}
use Rattle.syslog_json.proofs.objects.Objects.not_chosen.Goals as goal

pub returns-then-is_chosen : goal.returns-then-is_chosen
returns-then-is_chosen c =
    let yes : IsTrue c.is_chosen.result = search rules in
    rw c.requires
    (c.in-Some.found.dialect, line_value c.in-Some.found.line, c.in-Some.ensures, c.is_chosen.ensures.0 yes)

pub returns-else-is_chosen : goal.returns-else-is_chosen
returns-else-is_chosen c =
    rw c.requires (
      c.in-Some.found.dialect,
      line_value c.in-Some.found.line,
      c.in-Some.ensures,
      λ has. absurd (cc (c.is_chosen.ensures.1 has, c.if-is_chosen.false)),
    )
