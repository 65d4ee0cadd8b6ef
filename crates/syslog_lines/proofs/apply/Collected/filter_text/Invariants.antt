use Rattle.syslog_lines.proofs.Names.{◌≤◌, Some, length, AddsWhole, EndsInFeed}
use Rattle.syslog_lines.specs.Output.{taken}
use denote.Shadow.{shadow}
use denote.Text.{Utf8}
use Rattle.syslog_lines.proofs.apply.Collected.filter_text.Given as goal

abbrev pub invariant-loop-rest : goal.invariant-loop-rest
invariant-loop-rest g l = record {
  text : shadow (Utf8 l.rest);
  short : length l.rest ≤ length l.lines;
  closed : EndsInFeed l.rest;
  so_far : AddsWhole l.frames (taken l.frames (g.F.LineFilter.answers l.filter)) l.lines l.rest
      (Some l.fn.self.output.items) (Some l.self.output.items) l.fn.self.tally l.self.tally;
}

abbrev pub decreases-loop-rest : goal.decreases-loop-rest
decreases-loop-rest g l = length l.rest
