use Rattle.syslog_strict.proofs.Words.{◌≡◌, ◌++◌, ◌∷◌, chars, cleaned, converted_host, name_text, text_in}
use Rattle.syslog_strict.proofs.Words.{is_printusascii, without_last_colon}
use denote.Text.{Utf8}
use denote.Shadow.{shadow}
use Rattle.syslog_strict.proofs.names.push_other_host.Given as goal

abbrev pub invariant-chars : goal.invariant-chars
invariant-chars l = shadow (Utf8 l.rest)
    × (text_in l.out ++ without_last_colon (l.last ∷ cleaned is_printusascii l.left (chars l.rest))
    ≡ text_in l.fn.out ++ name_text (converted_host (chars l.host)))

abbrev pub decreases-chars : goal.decreases-chars
decreases-chars l = l.left
