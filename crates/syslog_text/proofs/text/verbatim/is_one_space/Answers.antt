use Rattle.std.proofs.Common.{eq-eqb}
use Rattle.syslog_text.proofs.Names.{ap, length, arith, eqb-true, ◌∙◌, false_is}
use Rattle.syslog_text.proofs.TextLemmas.Runs.{space_bytes, space_stands}
use Rattle.syslog_text.proofs.text.verbatim.is_one_space.Goals as goal

pub returns-then-begins_with : goal.returns-then-begins_with
returns-then-begins_with c = (
  (λ same. (let f = rw c.as_bytes.ensures.value at c.if-begins_with.ensures in
      space_stands _ _ c.utf8.text c.utf8.rest c.requires.0 c.requires.1 f
      (omega (arith, eqb-true _ _ same, ap length f)))),
  (λ stands. eq-eqb _ _ (omega (arith, ap length (space_bytes _ _ c.utf8.text c.utf8.rest stands)))),
)

pub returns-else-begins_with : goal.returns-else-begins_with
returns-else-begins_with c = rw c.if-begins_with.false (false_is (λ stands.
    c.if-begins_with.ensures _ (c.as_bytes.ensures.value ∙ space_bytes _ _ c.utf8.text c.utf8.rest stands)))
