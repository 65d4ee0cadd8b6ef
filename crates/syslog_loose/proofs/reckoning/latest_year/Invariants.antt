use Rattle.std.proofs.Common.{◌≡◌, ◌+ℤ◌, ℤ, ◌<ℤ◌, pos}
use Rattle.jiff.specs.Words.{epoch_day}
use Rattle.syslog_loose.specs.Reckoning.{IsDateBy}
use Rattle.syslog_loose.proofs.reckoning.latest_year.Given as goal

-- no later year was one, and so many were tried
abbrev pub invariant-loop : goal.invariant-loop
invariant-loop l = record {
  later : (other : ℤ) → l.year <ℤ other → ¬ (IsDateBy (epoch_day l.limit) other l.date.0 l.date.1);
  place : l.year +ℤ pos l.counter ≡ l.limit.year;
}
