use Rattle.syslog_strict.proofs.ConversionLaws.{converted_again, converted_canonical, converted_parsed, read_whole}
use Rattle.syslog_strict.proofs.laws.converted_text_is_read_back.Goals as goal

pub returns-clause-canonical : goal.returns-clause-canonical
returns-clause-canonical c = λ variant dating text m u r leaves.
    converted_canonical _ (read_whole variant dating text m u r leaves)

pub returns-clause-again : goal.returns-clause-again
returns-clause-again c = λ variant dating receiver text m u r leaves.
    converted_again _ receiver (read_whole variant dating text m u r leaves)

pub returns-clause-parsed : goal.returns-clause-parsed
returns-clause-parsed c = λ variant dating text m u r leaves.
    converted_parsed _ (read_whole variant dating text m u r leaves)
