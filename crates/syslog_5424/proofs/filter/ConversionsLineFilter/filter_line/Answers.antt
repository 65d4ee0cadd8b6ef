use Rattle.std.proofs.Common.{ap, append-nil, inl, refl, rules, sym, IsTrue}
use Rattle.std.proofs.lemmas.Str.{IsUtf8-string_bytes, encodes-chars}
use Rattle.syslog_lines.{proofs.AnswerLemmas.OnErr-any, specs.Frames.frame_of, specs.Output.Framed}
use Rattle.syslog_lines.specs.Output.{Unasked}
use Rattle.syslog_5424.{proofs.CallLemmas.written_not_refused, specs.Conversions.conversions}
use Rattle.syslog_5424.proofs.filter.ConversionsLineFilter.filter_line.Goals as goal

pub returns-then-not-asks_for-clause-ok : goal.returns-then-not-asks_for-clause-ok
returns-then-not-asks_for-clause-ok c = (
  Unasked,
  (
    _,
    inl (c.utf8.line, refl),
    (
      λ refused. written_not_refused c.args.self.now _ _ c.in-Ok.ensures.1 refused,
      λ asked. absurd (cc (c.asks_for.ensures.1 asked, c.if-not-asks_for.true)),
    ),
  ),
  sym (append-nil _),
  refl,
)

pub returns-in_ok-push_frame-in-Ok-clause-ok : goal.returns-in_ok-push_frame-in-Ok-clause-ok
returns-in_ok-push_frame-in-Ok-clause-ok c =
    let spelt = sym (encodes-chars _ (IsUtf8-string_bytes c.convert_line.new.text)) in
    let added = rw c.as_bytes.ensures.value at c.in_ok-push_frame-in-Ok.ensures.ok in
    let framed = ap (frame_of c.args.self.now.framing) spelt in
    let yes : IsTrue c.asks_for.result = search rules in (
      Framed _,
      (_, inl (c.utf8.line, refl), (c.asks_for.ensures.0 yes, _, c.in-Ok.ensures.0, c.in-Ok.ensures.1, framed)),
      added,
      refl,
    )

pub returns-in_err-push_frame-in-Ok-clause-refusal : goal.returns-in_err-push_frame-in-Ok-clause-refusal
returns-in_err-push_frame-in-Ok-clause-refusal c =
    OnErr-any _ ((conversions c.args.self.now).Wants c.args.line.now)
    (λ utf8. written_not_refused c.args.self.now _ _ c.in-Ok.ensures.1)
