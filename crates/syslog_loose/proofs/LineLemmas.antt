-- What a line has of its text.
use Rattle.syslog_loose.proofs.Names.{rules, ◌≡◌, ◌++◌, ◌∙◌, sym, subst, append_cancel_right, Text, Class, Front}
use Rattle.syslog_loose.proofs.Names.{texted, None, Dating, Line, IsLineOf, shown, trimmed}
use Rattle.syslog_text.proofs.PieceLemmas.Class.{texted_front}
use Rattle.syslog_loose.specs.{Rows.IsAfterStamp, declared.variant.Variant.Variant}

-- the text of a piece, which is all before what follows
pub texted_as : (C : Class) {t q own : Text} {v : C.Value} → Front C t q v → t ≡ own ++ q → Front (texted C) t q own
texted_as C {t = t} {q = q} {own = own} f whole =
    subst (Front (texted C) t q) (append_cancel_right f.piece own q (sym f.whole ∙ whole)) (texted_front C f)

-- a line of RFC 3164 has all after its timestamp as its rest
pub line_rest : {variant : Variant} {dating : Dating} {text : Text} (line : Line) → IsLineOf variant dating text line
    → line.version ≡ None → IsAfterStamp dating (trimmed text) line.priority line.timestamp (shown line.rest)
line_rest line of none = search rules
