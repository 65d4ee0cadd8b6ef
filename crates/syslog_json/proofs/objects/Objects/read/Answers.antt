use Rattle.std.proofs.Common.{rules}
use Rattle.syslog_json.proofs.Names.{chars}
use Rattle.syslog_json.proofs.UniqueLemmas.{line_read, line_refused, line_sent, line_unread, made_form}
use Rattle.syslog_loose.proofs.ReadingLemmas.{in_year_map}
use Rattle.syslog_loose.specs.declared.visit.Itself.{Itself}
use Rattle.syslog_json.proofs.objects.Objects.read.Goals as goal

pub sent_line-requires : goal.sent_line-requires
sent_line-requires c =
    made_form {V = Itself} c.args.self.now (chars c.args.line.now) c.args.writer.now c.visit_line.new.elements
    c.in-Some.found
    (in_year_map (λ year made. (_, _, made)) c.in-Some.ensures)

pub returns-in_default : goal.returns-in_default
returns-in_default c =
    line_refused {V = Itself} c.args.self.now (chars c.args.line.now) c.args.writer.now c.visit_line.new.elements
    c.in-Some.found (in_year_map (λ year made. (_, _, made)) c.in-Some.ensures) (λ date y is. search (rules, is))
    c.in_default.ensures.reads

pub returns-in-Some-sent_line : goal.returns-in-Some-sent_line
returns-in-Some-sent_line c =
    line_read {V = Itself} c.args.self.now (chars c.args.line.now) c.args.writer.now c.visit_line.new.elements
    c.in-Some.found
    (in_year_map (λ year made. (_, _, made)) c.in-Some.ensures) (λ date y is. search (rules, is)) c.requires
    c.in-Some-sent_line.sent
    c.visit_own.new.elements c.in-Some-sent_line.ensures.reads c.in-Some-sent_line.ensures.elements c.visit_own.ensures
    c.in-Some-sent_line.ensures.leaves

pub returns-in_default-unread_line : goal.returns-in_default-unread_line
returns-in_default-unread_line c =
    line_unread {V = Itself} c.args.self.now (chars c.args.line.now) c.args.writer.now c.visit_line.new.elements
    (in_year_map (λ year made. (_, _, made)) c.in-None.ensures) (λ date y is. search (rules, is)) c.requires
    c.in_default-unread_line.ensures.reads

pub returns-in-Some-unread_line : goal.returns-in-Some-unread_line
returns-in-Some-unread_line c =
    line_sent {V = Itself} c.args.self.now (chars c.args.line.now) c.args.writer.now c.visit_line.new.elements
    (in_year_map (λ year made. (_, _, made)) c.in-None.ensures) (λ date y is. search (rules, is)) c.requires
    c.in-Some-unread_line.sent
    c.visit_own-in-None.new.elements c.in-Some-unread_line.ensures.reads c.in-Some-unread_line.ensures.dialect
    c.visit_own-in-None.ensures
    c.in-Some-unread_line.ensures.leaves
