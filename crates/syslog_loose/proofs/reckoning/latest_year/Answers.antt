use Rattle.std.proofs.Common.{◌≡◌, ◌-ℤ◌, ◌∙◌, arith, inl, inr, refl, rules, pos, of_z, to_z, w16, w32, sym, true≢false}
use Rattle.std.proofs.lemmas.Int.{by_lt_z}
use Rattle.jiff.proofs.SpanFacts.{signed_arith}
use Rattle.syslog_loose.proofs.YearLemmas.{none_after, none_before}
use Rattle.syslog_loose.proofs.reckoning.latest_year.Goals as goal

pub loop-init : goal.loop-init
loop-init c =
    let limit = c.day_after-limit.result in
    let first : to_z w16 (of_z w16 c.year-year.result) ≡ limit.year = search rules in record {
      later = λ other after by. none_after limit other c.args.date.0 c.args.date.1 (rw first at after) by;
      place = search rules;
    }

pub returns-then-is_by : goal.returns-then-is_by
returns-then-is_by c =
    let found : to_z w32 (of_z w32 c.from.result) ≡ to_z w16 c.loop.year-bits = search rules in
    let by = c.is_by.ensures.0 c.if-is_by.true in
    inl (rw found (record {
      in_time = (c.day_after-limit.ensures _ c.args.date.0 c.args.date.1).0 by;
      last = λ other is. by_lt_z (to_z w16 c.loop.year-bits) other
          (λ after. absurd (c.loop.invariant.later other after
          ((c.day_after-limit.ensures other c.args.date.0 c.args.date.1).1 is)))
          (λ before. before);
    }))

pub loop-preserved : goal.loop-preserved
loop-preserved c =
    let year = to_z w16 c.loop.year-bits in
    let next : to_z w16 (of_z w16 (year -ℤ pos 1)) ≡ year -ℤ pos 1 = search (rules, arith) in record {
      later = λ other after by.
          let past = rw next at after in
          by_lt_z year other (λ past. c.loop.invariant.later other past by) (λ rest.
          let same : other ≡ year = omega (arith, signed_arith, past, rest) in
          absurd (true≢false (sym (c.is_by.ensures.1 (rw same at by)) ∙ c.if-is_by.false)));
      place = omega (arith, signed_arith, next, c.loop.invariant.place);
    }

pub returns : goal.returns
returns c = inr (
  λ other is. none_before c.day_after-limit.result c.args.date.0 c.args.date.1
      (λ year near by. c.loop.invariant.later year
      (omega (arith, signed_arith, c.loop.invariant.place, near, c.loop-test.false)) by) other
      ((c.day_after-limit.ensures other c.args.date.0 c.args.date.1).1 is),
  refl,
)
