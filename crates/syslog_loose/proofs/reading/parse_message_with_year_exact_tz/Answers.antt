use Rattle.syslog_loose.proofs.Names.{chars, dating_of, refl}
use Rattle.syslog_loose.proofs.ReadBackLemmas.{answered, fields, itself}
use Rattle.syslog_loose.proofs.ReadingLemmas.{message_answers, in_year_map, quoted}
use Rattle.syslog_loose.proofs.reading.parse_message_with_year_exact_tz.Goals as goal

pub returns-clause-reads : goal.returns-clause-reads
returns-clause-reads g c =
    in_year_map (λ year h. message_answers c.args.variant (dating_of year c.args.tz c.args.local)
    (chars c.args.input.now) _ _ _ _ c.visit_line-made.result c.answer_of.result h c.new-collect.ensures
    c.answer_of.ensures)
    c.visit_line-made.ensures

pub returns-clause-itself : goal.returns-clause-itself
returns-clause-itself g c =
    let h = returns-clause-reads g c in
    itself c.args.variant _ (chars c.args.input.now) c.answer_of.result (h.holds h.answered (λ date asks. refl))

pub returns-clause-fields : goal.returns-clause-fields
returns-clause-fields g c =
    in_year_map (λ year. answered c.args.variant (dating_of year c.args.tz c.args.local) (chars c.args.input.now)
    (fields c.args.variant (dating_of year c.args.tz c.args.local) (chars c.args.input.now)) c.answer_of.result)
    (returns-clause-reads g c)

pub returns-clause-quotes : goal.returns-clause-quotes
returns-clause-quotes g c =
    in_year_map (λ year. answered c.args.variant (dating_of year c.args.tz c.args.local) (chars c.args.input.now)
    (quoted c.args.variant (dating_of year c.args.tz c.args.local) (chars c.args.input.now)) c.answer_of.result)
    (returns-clause-reads g c)
