use Rattle.syslog_sent.proofs.RunLemmas.{either_low, ends_ascii, plain_low, word_low}
use Rattle.syslog_sent.specs.Runs.{is_either_char, is_plain_char, is_word_char}
use Rattle.syslog_sent.proofs.runs.run_end.Goals as goal

pub returns-in-Word : goal.returns-in-Word
returns-in-Word c = rw c.in-Word.is (ends_ascii is_word_char word_low _ _ c.utf8.text
    (rw c.as_bytes.ensures.value at c.run_len.ensures.within)
    (rw c.as_bytes.ensures.value at c.run_len.ensures.pass) (rw c.as_bytes.ensures.value at c.run_len.ensures.stop))

pub returns-in-Plain : goal.returns-in-Plain
returns-in-Plain c = rw c.in-Plain.is (ends_ascii is_plain_char plain_low _ _ c.utf8.text
    (rw c.as_bytes-in-Plain.ensures.value at c.run_len-in-Plain.ensures.within)
    (rw c.as_bytes-in-Plain.ensures.value at c.run_len-in-Plain.ensures.pass)
    (rw c.as_bytes-in-Plain.ensures.value at c.run_len-in-Plain.ensures.stop))

pub returns-in-Unquoted : goal.returns-in-Unquoted
returns-in-Unquoted c = rw c.in-Unquoted.is c.unquoted_end.ensures

pub returns-in-Either : goal.returns-in-Either
returns-in-Either c = rw c.in-Either.is (ends_ascii is_either_char either_low _ _ c.utf8.text
    (rw c.as_bytes-in-Either.ensures.value at c.run_len-in-Either.ensures.within)
    (rw c.as_bytes-in-Either.ensures.value at c.run_len-in-Either.ensures.pass)
    (rw c.as_bytes-in-Either.ensures.value at c.run_len-in-Either.ensures.stop))
