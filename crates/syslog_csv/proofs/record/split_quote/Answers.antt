use Rattle.std.proofs.Common.{arith}
use Rattle.syslog_csv.proofs.QuoteLemmas.{doubled_none, quote_found}
use Rattle.syslog_csv.proofs.record.split_quote.Goals as goal

pub returns-in-Some : goal.returns-in-Some
returns-in-Some c =
    quote_found c.args.text.now _ _ c.in-Some.at c.in-Some.ensures.0.high c.in-Some.ensures.0.before c.in-Some.ensures.1
    c.split_at.ensures.front c.split_at.ensures.back

pub returns-in-None : goal.returns-in-None
returns-in-None c = doubled_none c.args.text.now (λ k below. c.in-None.ensures k (omega arith) below)
