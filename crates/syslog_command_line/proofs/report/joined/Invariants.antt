use Rattle.syslog_command_line.proofs.Names.{◌≡◌, ◌≤◌, ◌++◌, length, map, inline_text}
use Rattle.std.proofs.Common.{drop}
use Rattle.std.specs.List.{concat}
use Rattle.syslog_command_line.proofs.report.joined.Given as goal

abbrev pub invariant-loop-part : goal.invariant-loop-part
invariant-loop-part l = length (concat (map (λ part. part.now) l.parts)) ≤ 512
    → inline_text l.text ++ concat (map (λ part. part.now) (drop l.part-index l.parts))
    ≡ concat (map (λ part. part.now) l.parts)
