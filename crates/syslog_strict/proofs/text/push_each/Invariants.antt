use Rattle.syslog_strict.proofs.Words.{◌≡◌, ◌++◌, chars, cleaned, text_in}
use Rattle.syslog_text.specs.Text.CharClass.{has}
use denote.Text.{Utf8}
use denote.Shadow.{shadow}
use Rattle.syslog_strict.proofs.text.push_each.Given as goal

abbrev pub invariant-chars : goal.invariant-chars
invariant-chars l = shadow (Utf8 l.rest)
    × (text_in l.out ++ cleaned (has l.class) l.left (chars l.rest)
    ≡ text_in l.fn.out ++ cleaned (has l.class) l.most (chars l.text))

abbrev pub decreases-chars : goal.decreases-chars
decreases-chars l = l.left
