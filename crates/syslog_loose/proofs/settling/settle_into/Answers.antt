use Rattle.syslog_loose.proofs.Names.{◌≡◌, arith, Ok, chars, dating_of, answer_in}
use Rattle.syslog_loose.proofs.ReadingLemmas.{in_year_map}
use Rattle.syslog_loose.proofs.SettlingLemmas.Settles.{answer_canonical, last_pass, passes_on}
use Rattle.syslog_loose.proofs.settling.settle_into.Goals as goal

pub returns-then-settled-clause-settles : goal.returns-then-settled-clause-settles
returns-then-settled-clause-settles g c = in_year_map (λ year h. h.1) (rw c.if-settled.true at c.in_ok-settled.ensures)

pub returns-then-settled-clause-passes : goal.returns-then-settled-clause-passes
returns-then-settled-clause-passes g c =
    in_year_map (λ year h. last_pass c.args.variant (dating_of year c.args.tz c.args.local) 5 _ _ h.0)
    (rw c.if-settled.true at c.in_ok-settled.ensures)

pub returns-then-settled-clause-canonical : goal.returns-then-settled-clause-canonical
returns-then-settled-clause-canonical g c =
    in_year_map (λ year h. answer_canonical c.args.variant (dating_of year c.args.tz c.args.local)
    (chars c.args.input.now) (Ok c.next_round.new.text) h) (returns-then-settled-clause-settles g c)

pub returns-clause-settles : goal.returns-clause-settles
returns-clause-settles g c =
    in_year_map (λ year told. let h = rw c.if-settled.false at told in
    let (told, (lower, e, more)) = h in
    c.settle_on.ensures.settles _ (chars c.args.input.now) (let same : lower ≡ 4 = omega (arith, e) in rw same at more))
    c.in_ok-settled.ensures

pub returns-clause-passes : goal.returns-clause-passes
returns-clause-passes g c =
    in_year_map (λ year told. let dating = dating_of year c.args.tz c.args.local in
    let (told, (lower, e, more)) = rw c.if-settled.false at told in
    let same : lower ≡ 4 = omega (arith, e) in
    passes_on c.args.variant dating 5 _ _ (answer_in c.settle_on.result c.settle_on.new.text) told
    (c.settle_on.ensures.passes dating (chars c.args.input.now) (rw same at more))) c.in_ok-settled.ensures

pub returns-clause-canonical : goal.returns-clause-canonical
returns-clause-canonical g c =
    in_year_map (λ year h. answer_canonical c.args.variant (dating_of year c.args.tz c.args.local)
    (chars c.args.input.now) (answer_in c.settle_on.result c.settle_on.new.text) h) (returns-clause-settles g c)
