use Rattle.syslog_loose.proofs.Names.{rules, ◌∙◌, Some, None, refl, sym, chars, dating_of, visits_none}
use Rattle.syslog_loose.proofs.ReadingLemmas.{dated_in, dated_invalid, undated_invalid, strict_shows_none, visits_after}
use Rattle.syslog_loose.proofs.ReadingLemmas.{asked_month, dated_front, left_to_try, other_front, in_year_map, unasked}
use Rattle.syslog_loose.proofs.ReadingLemmas.{asks_none, dated_left, line_3164, line_5424, shows_date, shows_none}
use Rattle.syslog_loose.proofs.visit.visit_dated_line.Goals.{in-Some+in-Some-month_stamp}
use Rattle.syslog_loose.proofs.visit.visit_dated_line.Goals.{in-None+in_default-visit_5424+in-Some-front_stamp}
use Rattle.syslog_loose.proofs.visit.visit_dated_line.Goals as goal

pub map-year-requires : goal.map-year-requires
map-year-requires g c =
    λ x e. c.requires x (asked_month c.in-Some.date _ x c.in-Some.ensures.front c.asked_numbers.ensures e)

pub returns-in_default-clause-makes : goal.returns-in_default-clause-makes
returns-in_default-clause-makes g c =
    let f = rw c.trimmed.ensures at c.optional_priority-priority.ensures in
    let v = c.args.variant in
    let whole = chars c.args.input.now in
    let d = c.in-Some.date in
    let b = c.in-Some.ensures in
    in_year_map (λ year none. (
      dated_invalid v whole f d b (dating_of year c.args.tz c.args.local) none,
      refl,
      visits_none g.E.ElementVisitor.was_given c.args.elements.now,
    )) (dated_in v whole f d b _ c.args.tz c.args.local _ _ None c.asked_numbers.ensures c.map-year.ensures.cases
    c.in_default.ensures)

pub returns-in-Some-visit_5424-clause-makes : goal.returns-in-Some-visit_5424-clause-makes
returns-in-Some-visit_5424-clause-makes g c =
    let f = rw c.trimmed.ensures at c.optional_priority-priority.ensures in
    let whole = chars c.args.input.now in
    let (line, read, makes, given) = c.in-Some-visit_5424.ensures whole f in
    unasked (asks_none c.args.variant whole f c.in-None.ensures) (λ year.
    (line, line_5424 c.args.variant (dating_of year c.args.tz c.args.local) line read, makes, given))

pub returns-clause-makes : goal.returns-clause-makes
returns-clause-makes g c =
    let f = rw c.trimmed.ensures at c.optional_priority-priority.ensures in
    let whole = chars c.args.input.now in
    let v = c.args.variant in
    let (line, read, makes, given) = c.visit_3164.ensures in
    elim c.match-front_date.branch [
      | in-Some+in-Some-month_stamp w ↦ (let d = w.in-Some.date in
          let b = w.in-Some.ensures in
          in_year_map (λ year stamp. (let dating = dating_of year c.args.tz c.args.local in (
            line,
            line_3164 v dating line (dated_left v whole f d b) ((rw w.timestamp-is at (read dating whole))
                (dated_front v whole f d b dating w.in-Some-month_stamp.stamp stamp)),
            rw w.visitor-is at makes,
            rw w.elements-is at given,
          ))) (dated_in v whole f d b _ c.args.tz c.args.local _ _ (Some w.in-Some-month_stamp.stamp)
          w.asked_numbers.ensures w.map-year.ensures.cases
          w.in-Some-month_stamp.ensures))
      | in-None+in_default-visit_5424+in-Some-front_stamp w ↦ (let front = w.in-Some-front_stamp.ensures in
          let (strict, same, nothing) = w.in_default-visit_5424.ensures whole f in
          unasked (asks_none v whole f w.in-None.ensures) (λ year. (let dating = dating_of year c.args.tz
          c.args.local in (
            line,
            line_3164 v dating line (left_to_try v whole front.reads strict) ((rw w.timestamp-is at (read dating whole))
                (other_front v whole f w.in-None.ensures dating w.in-Some-front_stamp.stamp front)),
            rw (sym same) (rw w.visitor-is at makes),
            visits_after g.E.ElementVisitor.was_given _ _ _ _ nothing (rw w.elements-is at given),
          ))))
    ]

-- ---- the form of the date

pub returns-in-Some-visit_5424-clause-form : goal.returns-in-Some-visit_5424-clause-form
returns-in-Some-visit_5424-clause-form g c =
    let f = rw c.trimmed.ensures at c.optional_priority-priority.ensures in
    let whole = chars c.args.input.now in
    let (line, read, makes, given) = c.in-Some-visit_5424.ensures whole f in
    (None, strict_shows_none whole _ read.1.read, refl)

pub returns-clause-form : goal.returns-clause-form
returns-clause-form g c =
    let f = rw c.trimmed.ensures at c.optional_priority-priority.ensures in
    let whole = chars c.args.input.now in
    elim c.match-front_date.branch [
      | in-Some+in-Some-month_stamp w ↦ (
        Some w.in-Some.date,
        shows_date c.args.variant whole f w.in-Some.date w.in-Some.ensures,
        w.form-is ∙ w.form_of.ensures,
      )
      | in-None+in_default-visit_5424+in-Some-front_stamp w ↦ (
        None,
        shows_none c.args.variant whole f w.in-None.ensures w.in-Some-front_stamp.ensures.reads,
        w.form-is,
      )
    ]
