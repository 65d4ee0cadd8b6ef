use Rattle.syslog_strict.proofs.Words.{◌≡◌, [], ap, append_assoc, converted, converted_elements, false, line_value}
use Rattle.syslog_strict.proofs.Words.{list_elements, rules}
use Rattle.std.proofs.{Common.is_some, lemmas.Result.IfOk-equal}
use Rattle.syslog_strict.proofs.TextLemmas.{appended, no_data, no_word}
use Rattle.syslog_strict.proofs.conversion.push_data.Goals as goal

pub returns : goal.returns
returns c = search (rules, IfOk-equal, append_assoc)

pub returns-then-is_empty : goal.returns-then-is_empty
returns-then-is_empty c =
    let none : is_some c.args.line.now.msgid ≡ false = c.if-is_none.ensures in
    let empty : list_elements c.args.line.now.list ≡ [] = c.if-is_empty.ensures in
    appended c.push_text.result _ _ _ _
    (no_data (converted (line_value c.args.line.now)) (no_word c.args.line.now.msgid none)
    (ap converted_elements empty))
    c.push_text.ensures
