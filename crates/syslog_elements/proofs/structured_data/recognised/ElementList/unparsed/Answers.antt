use Rattle.syslog_elements.proofs.Names.{rules, refl, chars, [], subst, nil_from_length}
use Rattle.syslog_text.proofs.TextLemmas.Runs.{chars_empty, chars_nonempty}
use Rattle.syslog_elements.{proofs.StructuredDataLemmas.Unparsed.any_of_some, specs.StructuredData.Unparsed.IsUnparsed}
use Rattle.syslog_elements.proofs.StructuredDataLemmas.Pairs.{nothing_left, some_left_in}
use Rattle.syslog_elements.proofs.structured_data.recognised.ElementList.unparsed.Goals as goal

pub returns-then-is_empty : goal.returns-then-is_empty
returns-then-is_empty c =
    let list = c.args.self.now in
    let none = nil_from_length _ (chars_empty list.unparsed.now (search rules)) in
    ([], subst (IsUnparsed (chars list.text.now)) (nothing_left list.text.now list.unparsed.now none) list.left, refl)

pub returns-else-is_empty-2 : goal.returns-else-is_empty-2
returns-else-is_empty-2 c =
    let list = c.args.self.now in
    let some = some_left_in list.text.now list.unparsed.now (search rules) in (
      chars list.unparsed.now,
      subst (IsUnparsed (chars list.text.now)) some list.left,
      any_of_some _ (chars_nonempty list.unparsed.now list.unparsed_utf8 (search rules)),
    )
