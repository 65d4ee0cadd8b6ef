use Rattle.syslog_elements.proofs.Names.{some_run, some_run_det, texted, texted_det, no_truth}
use Rattle.syslog_text.{proofs.PieceLemmas.Rules.no_such_meaning, specs.Text.is_tag_char}
use Rattle.syslog_elements.specs.StructuredData.Pairs.{IsSdName}
use Rattle.syslog_elements.proofs.structured_data.pairs.pair_name.Goals as goal

pub returns-then-not-is_only : goal.returns-then-not-is_only
returns-then-not-is_only c =
    no_such_meaning (texted (some_run is_tag_char)) IsSdName (texted_det (some_run is_tag_char)
    (some_run_det is_tag_char))
    c.in_ok-name.ensures (λ each. no_truth (c.if-not-is_only.ensures.1 each))
