use Rattle.syslog_dialects.proofs.Names.{inl}
use Rattle.syslog_dialects.proofs.laws.texts_are_the_ports_without_dialects.Goals as goal

pub returns-clause-read : goal.returns-clause-read
returns-clause-read c = λ dates dating dialects variant text m never is. (is, λ asked. absurd (never asked))

pub returns-clause-unread : goal.returns-clause-unread
returns-clause-unread c = λ dates dating dialects variant text never none. inl (none, λ asked. absurd (never asked))
