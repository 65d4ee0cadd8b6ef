use Rattle.syslog_text.proofs.Names.{◌++◌, ap, ◌∙◌, arith, Text}
use Rattle.syslog_text.proofs.Names.{number, front_same, shown}
use Rattle.syslog_text.proofs.PieceLemmas.Class.{front_of}
use Rattle.syslog_text.proofs.TextLemmas.Words.{number_det}
use Rattle.syslog_text.proofs.TextLemmas.Bounded.{digits_lead}
use Rattle.syslog_text.proofs.text.bounded.numeral.Goals as goal

pub returns-then-value-least : goal.returns-then-value-least
returns-then-value-least c = λ p q v e h.
    let same = (front_same (number c.args.most) (number_det c.args.most) (front_of p e h.0) c.in_ok-value.ensures).1 in
    omega (arith, same, h.1)

pub returns-then-leads_with_zero : goal.returns-then-leads_with_zero
returns-then-leads_with_zero c = λ p q v e h. h.2 (digits_lead p q _ e h.0.0 h.0.2 c.if-leads_with_zero.ensures)

pub returns : goal.returns
returns c =
    let f = c.in_ok-value.ensures in
    front_of f.piece f.whole (
      f.is,
      c.if-value-least.false,
      (λ (b, more, e, digit). c.if-leads_with_zero.ensures
          (b, more ++ shown c.in_ok-value.rest, f.whole ∙ ap (λ (x : Text). x ++ shown c.in_ok-value.rest) e, digit)),
    )
