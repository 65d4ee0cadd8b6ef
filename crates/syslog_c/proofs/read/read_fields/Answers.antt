use Rattle.syslog_c.proofs.Words.{inr, refl, rules, in_year_map, in_year_told, dating_in}
use Rattle.std.specs.Str.{chars}
use Rattle.syslog_c.specs.Reported.{ReportsFields}
use Rattle.syslog_c.proofs.LineLemmas.{not_text, tried_line}
use Rattle.syslog_c.specs.declared.outcome.Outcome.TheVariants.{NoReading}
use Rattle.syslog_c.proofs.SentLemmas.{reported, unread_reported, with_unnoted}
use Rattle.syslog_c.proofs.read.read_fields.Goals as goal

pub returns-in_default : goal.returns-in_default
returns-in_default c = not_text _ _ _ _ (c.take.ensures.taken c.if-not-take.false) c.in_default.ensures
    (search rules) (search rules)

pub returns-then-is_note : goal.returns-then-is_note
returns-then-is_note c =
    let a = c.args in
    inr (inr (tried_line (λ are dating text. ReportsFields are dating text a.fields.now a.fields.now NoReading) _ _ _ _
    (c.take.ensures.taken c.if-not-take.false) c.in-Ok.ensures
    (in_year_map (λ year unsent. inr ((refl, unsent), refl)) c.if-is_note.ensures)))

pub returns-in_default-visit_dated_line : goal.returns-in_default-visit_dated_line
returns-in_default-visit_dated_line c =
    let a = c.args in
    let by = c.take.new.self in
    let text = chars c.in-Ok.text.now in
    inr (inr (tried_line (λ are dating text. ReportsFields are dating text a.fields.now c.read_unread.new.fields
    c.read_unread.result) _ _ _ _ (c.take.ensures.taken c.if-not-take.false) c.in-Ok.ensures
    (in_year_told (in_year_map (λ year none. unread_reported by (dating_in _ year) text a.fields.now a.fields.now
    c.read_unread.new.fields c.read_unread.result refl (c.read_unread.ensures (dating_in _ year) none.0))
    c.in_default-visit_dated_line.ensures.makes) (λ date year is. search (rules, is)))))

pub line-is_ordinary-requires : goal.line-is_ordinary-requires
line-is_ordinary-requires c =
    let in_year = c.in-Some.ensures.makes in
    let made = in_year.holds in_year.answered (λ date asks. refl) in
    record { form = rw made.2.0 made.2.1 }

pub returns : goal.returns
returns c =
    let a = c.args in
    let by = c.take.new.self in
    let text = chars c.in-Ok.text.now in
    inr (inr (tried_line _ _ _ _ _ (c.take.ensures.taken c.if-not-take.false) c.in-Ok.ensures
    (in_year_map (λ year is. reported by (dating_in _ year) text _ a.fields.now c.take_read.new.fields
    (c.take_read.ensures c.in-Some.ensures.form (dating_in _ year) c.in-Some.line (rw is.0.2.0 is.0.1)
    c.line-is_ordinary.ensures.0 c.line-is_ordinary.ensures.1 is.1).1)
    (with_unnoted by text c.if-is_note.ensures
    (in_year_told c.in-Some.ensures.makes (λ date year is. search (rules, is)))))))
