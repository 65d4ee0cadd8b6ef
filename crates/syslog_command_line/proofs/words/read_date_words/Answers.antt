use Rattle.syslog_command_line.proofs.Names.{[], ◌∷◌, ap, inr, ◌∙◌, MatchResult-weaker, end_word}
use Rattle.syslog_command_line.proofs.WordLemmas.{among_later, date_after_dash}
use Rattle.syslog_command_line.proofs.words.read_date_words.Goals as goal

pub returns-in-Some : goal.returns-in-Some
returns-in-Some c = MatchResult-weaker c.read_last_word.result c.read_last_word.ensures
    (λ date named. (named.0, inr (c.in-Some.ensures ∙ ap (λ ws. end_word ∷ ws) named.1), named.2))
    (λ wrong none. (
      among_later (end_word ∷ []) _ _ wrong c.in-Some.ensures none.0,
      λ today. date_after_dash _ _ today c.in-Some.ensures (λ word. none.1 word today),
    ))
