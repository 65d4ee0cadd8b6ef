use Rattle.syslog_strict.proofs.Words.{◌≡◌, ◌⊎◌, ◌∙◌, ◌++◌, ◌∷◌, [], ap, arith, inl, inr, sym, chars, on_ok_weaker, ◌≤◌}
use Rattle.syslog_strict.proofs.Words.{text_in}
use Rattle.std.proofs.lemmas.Grind.{common_steps}
use Rattle.syslog_strict.proofs.{NameLemmas.host_last, NameLemmas.host_more}
use Rattle.syslog_strict.proofs.{names.push_other_host.Goals.else-chars-test}
use Rattle.syslog_strict.proofs.{names.push_other_host.Goals.then-chars-test+in_default-first}
use Rattle.syslog_strict.proofs.names.push_other_host.Goals as goal

pub chars-preserved : goal.chars-preserved
chars-preserved c = (
  c.in-Some-first.ensures.1,
  grind (arith, common_steps, host_more c.chars.left c.chars.last _ _ _ c.chars-test.true c.in-Some-first.ensures.0),
)

pub returns : goal.returns
returns c =
    let ends : (c.chars.left ≤ 0) ⊎ (chars c.chars.rest.now ≡ []) = elim c.chars-test.branch [
      | else-chars-test w ↦ inl (omega arith)
      | then-chars-test+in_default-first w ↦ inr w.in_default-first.ensures
    ] in
    on_ok_weaker c.push_char-2.result
    (λ e. e ∙ ap (λ x. text_in c.chars.out ++ x) (ap (λ x. x ∷ []) c.without_colon.ensures
    ∙ sym (host_last c.chars.left c.chars.last (chars c.chars.rest.now) ends)) ∙ c.chars.invariant.1)
    c.push_char-2.ensures
