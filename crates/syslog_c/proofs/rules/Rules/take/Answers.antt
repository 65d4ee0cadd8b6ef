use Rattle.std.specs.Prelude.{Bool, true, false, MatchBool, IsTrue}
use Rattle.syslog_c.proofs.Words.{refl}
use Rattle.syslog_c.proofs.Words.{◌≡◌, arith, length, of_z, rules, to_z, w32}
use Rattle.syslog_c.proofs.OptionLemmas.{zone_ahead_of}
use Rattle.syslog_c.proofs.rules.Rules.take.Goals as goal

pub returns-then-options-eq0-2-clause-taken : goal.returns-then-options-eq0-2-clause-taken
returns-then-options-eq0-2-clause-taken c = λ yes.
    let options = c.args.options.now in
    let offset : to_z w32 (of_z w32 options.offset) ≡ options.offset = search rules in
    let ahead = rw offset at c.in-Some-zone_ahead.ensures in
    let size : length options.zone ≡ 96 = search rules in
    record {
      named = c.in-Some.ensures;
      dates = record {
        today = rw c.new-self.ensures.today (c.in-Some-month_of.ensures.1 c.if-options-eq0.true);
        zone = rw c.new-self.ensures.zone
            (zone_ahead_of options _ (omega (arith, size)) c.if-options-eq0-2.true ahead.0 ahead.1);
      };
      dialects = search rules;
    }

refused : (P Q : Type 0) (told : Bool) → MatchBool told P Q → ¬ (IsTrue told) → Q
refused P Q true p = λ no. absurd (no refl)
refused P Q false q = λ no. q

pub returns-clause-refused : goal.returns-clause-refused
returns-clause-refused c = λ no taken. refused _ _ _ c.take_dates.ensures no taken.0.dates taken.1.dates
