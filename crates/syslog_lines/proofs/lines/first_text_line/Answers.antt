use Rattle.syslog_lines.proofs.Names.{arith, ◌∙◌, eqb-true, between_is, inl, inr, refl}
use Rattle.std.proofs.lemmas.Str.{lead_after_ascii}
use Rattle.syslog_lines.proofs.WholeLemmas.{first_ending, no_ending}
use Rattle.syslog_lines.proofs.lines.first_text_line.Goals as goal

pub range_from-requires : goal.range_from-requires
range_from-requires c =
    let (first, feed) = rw c.as_bytes.ensures.value at c.in-Some.ensures in
    λ some. (
      omega (arith, first.high),
      lead_after_ascii c.args.text.now c.in-Some.end c.utf8.text (omega (arith, eqb-true _ 10 feed)),
    )

pub returns-in-Some-clause-first : goal.returns-in-Some-clause-first
returns-in-Some-clause-first c =
    let (first, feed) = rw c.as_bytes.ensures.value at c.in-Some.ensures in
    let (free, split) = first_ending 10 c.args.text.now c.in-Some.end first feed in
    rw (c.range.ensures.value ∙ between_is c.args.text.now 0 c.in-Some.end, c.range_from.ensures.value)
    (free, inl split)

pub returns-in-None-clause-first : goal.returns-in-None-clause-first
returns-in-None-clause-first c =
    (no_ending 10 c.args.text.now (rw c.as_bytes.ensures.value at c.in-None.ensures), inr (refl, refl))
