use Rattle.syslog_dialects.proofs.Names.{◌∙◌, ap, chars, IsOpened, KnowsForm, Line, line_value, list_text, subst, sym}
use Rattle.syslog_dialects.proofs.SentReadingLemmas.{no_stamp, unformed}
use Rattle.syslog_sent.specs.Sent.{sent_value}
use Rattle.syslog_dialects.proofs.visit.dialect_line.Goals as goal

pub returns-in_err-dialect : goal.returns-in_err-dialect
returns-in_err-dialect c =
    let front = rw c.trimmed.ensures at c.optional_priority-priority.ensures in
    rw c.from_residual.ensures (unformed c.args.dates.now c.args.is_read (chars c.args.input.now) _ _ front
    c.in_err-dialect.ensures)

pub returns-in_default : goal.returns-in_default
returns-in_default c =
    let front = rw c.trimmed.ensures at c.optional_priority-priority.ensures in
    no_stamp c.args.dates.now c.args.is_read (chars c.args.input.now) _ _ c.in_ok-dialect.dialect
    (sent_value c.in_ok-dialect.sent) front c.in_ok-dialect.ensures c.in_default.ensures.line

pub returns : goal.returns
returns c =
    let front = rw c.trimmed.ensures at c.optional_priority-priority.ensures in
    let is = c.in-Some.ensures.line in
    let same = c.of.ensures.0 in
    let opened = c.opened.ensures in
    let sent = sent_value c.in_ok-dialect.sent in
    let number = c.optional_priority-priority.result.0 in
    record {
      dialect = c.in_ok-dialect.dialect;
      named = c.of.ensures.1;
      sent = record {
        priority = number;
        follows = _;
        sent = sent;
        front = front;
        form = c.in_ok-dialect.ensures;
        whole = line_value c.in-Some.line;
        says = is.means;
        opened = subst (λ (l : Line). IsOpened c.in_ok-dialect.dialect (line_value c.in-Some.line) (line_value l))
            (sym same) opened.opened;
      };
      year = c.of.ensures.2;
      offset = c.of.ensures.3;
      no_list = ap (λ (l : Line). list_text l.list) same ∙ opened.text is.list;
      form = subst (λ (l : Line). KnowsForm l) (sym same) opened.form;
    }
