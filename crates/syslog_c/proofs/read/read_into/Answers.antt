use Rattle.syslog_c.proofs.Words.{inr, refl, rules, in_year_map, in_year_told, dating_in}
use Rattle.syslog_c.proofs.Words.{ReadsInto}
use Rattle.std.specs.Str.{chars}
use Rattle.syslog_c.specs.declared.outcome.Outcome.TheVariants.{NoReading}
use Rattle.syslog_c.proofs.LineLemmas.{tried_line}
use Rattle.syslog_c.proofs.ReadLemmas.{none_into, read_into, tried_arrays, unread_into}
use Rattle.syslog_c.proofs.SentLemmas.{with_unnoted}
use Rattle.syslog_c.proofs.read.read_into.Goals as goal

pub returns-then-is_note : goal.returns-then-is_note
returns-then-is_note c =
    let a = c.args in
    inr (inr (tried_line (λ are dating text. ReadsInto are dating text a.fields.now a.fields.now a.elements.now
    a.elements.now a.params.now a.params.now NoReading) _ _ _ _ (c.take.ensures.taken c.if-not-take.false)
    (refl, c.utf8.text) (in_year_map (λ year unsent. inr ((refl, unsent), refl, refl, refl)) c.if-is_note.ensures)))

pub returns-in_default-take_unread : goal.returns-in_default-take_unread
returns-in_default-take_unread c =
    let a = c.args in
    let by = c.take.new.self in
    let arrays = c.visit_dated_line.new.elements in
    let fields = c.take_unread.new.fields in
    tried_arrays _ _ by _ a.fields.now fields a.elements.now a.params.now arrays _ _
    (c.take.ensures.taken c.if-not-take.false) c.utf8.text
    (in_year_told (in_year_map (λ year h. none_into by (dating_in _ year) (chars a.text.now) a.fields.now
    c.visit_dated_line.new.visitor fields _ arrays arrays refl refl h refl
    (λ none. c.in_default-take_unread.ensures (dating_in _ year) none)) c.in_default.ensures.makes)
    (λ date year is. search (rules, is))) (λ held. search rules) (λ held. search rules)

pub returns-in_default : goal.returns-in_default
returns-in_default c =
    let a = c.args in
    let by = c.take.new.self in
    let fields = c.take_unread.new.fields in
    tried_arrays _ _ by _ a.fields.now fields a.elements.now a.params.now c.put_own.new.arrays _ _
    (c.take.ensures.taken c.if-not-take.false) c.utf8.text
    (in_year_told (in_year_map (λ year h. unread_into by (dating_in _ year) (chars a.text.now) a.fields.now
    c.visit_dated_line.new.visitor fields _ c.visit_dated_line.new.elements c.put_own.new.arrays refl refl
    c.in-Some-take_unread.own c.put_own.result h (λ none. c.in-Some-take_unread.ensures (dating_in _ year) none)
    c.put_own.ensures.given c.put_own.ensures.filled) c.in_default.ensures.makes)
    (λ date year is. search (rules, is))) (λ held. search rules) (λ held. search rules)

pub returns : goal.returns
returns c =
    let a = c.args in
    let by = c.take.new.self in
    let fields = c.take_read-own.new.fields in
    tried_arrays _ _ by _ a.fields.now fields a.elements.now a.params.now c.put_own-2.new.arrays _ _
    (c.take.ensures.taken c.if-not-take.false) c.utf8.text
    (in_year_map (λ year is. read_into by (dating_in _ year) (chars a.text.now) a.fields.now
    c.visit_dated_line.new.visitor fields _ c.visit_dated_line.new.elements c.put_own-2.new.arrays refl refl
    c.in-Some.is_ordinary c.take_read-own.result c.put_own-2.result is.0
    (λ line of are keeps. c.take_read-own.ensures c.in-Some.ensures.form (dating_in _ year) line of are keeps is.1)
    c.put_own-2.ensures.given c.put_own-2.ensures.filled) (with_unnoted by (chars a.text.now) c.if-is_note.ensures
    (in_year_told c.in-Some.ensures.makes (λ date year is. search (rules, is))))) (λ held. search rules)
    (λ held. search rules)
