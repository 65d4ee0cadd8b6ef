use Rattle.syslog_dated_forms.proofs.Names.{◌∙◌, ◌≡◌, ap, chars, false, front_of, front_same, host_det, None, Some, sym}
use Rattle.syslog_dated_forms.proofs.Names.{true}
use Rattle.syslog_text.specs.Text.{host}
use Rattle.syslog_dated_forms.specs.Address.{is_address}
use Rattle.syslog_dated_forms.proofs.CiscoLemmas.{none_begun}
use Rattle.syslog_dated_forms.proofs.address.address.Goals as goal

pub returns-then-not-may_begin : goal.returns-then-not-may_begin
returns-then-not-may_begin c = none_begun (sym c.if-not-may_begin.ensures)

pub returns-in_err-name : goal.returns-in_err-name
returns-in_err-name c = rw c.from_residual.ensures (λ p q t e h. c.in_err-name.ensures p q (Some t) e h.0)

pub returns-in_err-word : goal.returns-in_err-word
returns-in_err-word c = rw c.from_residual-in_err-word.ensures (λ p q t e h.
    let f = rw c.in_err-word.was at c.in_ok-name.ensures in
    let same : Some t ≡ None = (front_same host host_det (front_of p e h.0) f).1 in cc)

pub returns-then-not-is_address : goal.returns-then-not-is_address
returns-then-not-is_address c = λ p q t e h.
    let f = rw c.in_ok-word.was at c.in_ok-name.ensures in
    let same : Some t ≡ Some (chars c.in_ok-word.word.now) = (front_same host host_det (front_of p e h.0) f).1 in
    let is : t ≡ chars c.in_ok-word.word.now = cc in
    let bad : true ≡ false = sym h.1 ∙ (ap is_address is ∙ sym c.if-not-is_address.ensures) in cc
