use Rattle.syslog_json.proofs.Names.{◌≡◌, ℕ, List, Option, Json, Text, refl, rules, subst}
use Rattle.syslog_json.proofs.Names.{line_value, message_json, IsTextOf}
use Rattle.std.proofs.Common.{Bool, false, true}
use Rattle.syslog_csv.specs.Rows.{IsRowOf}
use Rattle.syslog_sent.specs.Dialect.{dialect_text}
use Rattle.syslog_object.specs.Object.{beside_line}
use Rattle.syslog_json.{proofs.ReadLemmas.read_as, proofs.UniqueLemmas.only_read, proofs.UniqueLemmas.only_refused}
use Rattle.syslog_json.specs.Objects.{IsOutputOf, IsReadAs}
use Rattle.syslog_json.proofs.objects.Objects.write_line.Goals as goal

-- what is asked for was written
as_row : (csv : Bool) (value : Json) (bytes : List ℕ) → csv ≡ true → IsRowOf value bytes → IsOutputOf csv value bytes
as_row true value bytes is row = row
as_row false value bytes is row = absurd (cc is)

as_object : (csv : Bool) (value : Json) (bytes : List ℕ) → csv ≡ false → IsReadAs value bytes
    → IsOutputOf csv value bytes
as_object true value bytes is read = absurd (cc is)
as_object false value bytes is read = read

pub returns-then-self-clause-ok : goal.returns-then-self-clause-ok
returns-then-self-clause-ok c =
    let m = line_value c.in-Some.found.line in
    let (read, written, leaves) = c.in-Some.ensures in
    let (bytes, (u, left, row), added) = c.in_ok-write_row-in-Some.ensures.ok in (
      bytes,
      (
        _,
        only_read c.args.self.now _ _ (c.utf8.line, (_, m, u, read, leaves u left, refl)),
        as_row c.args.self.now.csv _ _ c.if-self.true row,
      ),
      added,
    )

pub returns-in_ok-write-in-Some-clause-ok : goal.returns-in_ok-write-in-Some-clause-ok
returns-in_ok-write-in-Some-clause-ok c =
    let m = line_value c.in-Some.found.line in
    let (read, written, leaves) = c.in-Some.ensures in
    let dialect = dialect_text c.in-Some.found.dialect in
    let (u, left, (bytes, text, added)) = c.in_ok-write-in-Some.ensures.ok in (
      bytes,
      (
        _,
        only_read c.args.self.now _ _ (c.utf8.line, (_, m, u, read, leaves u left, refl)),
        as_object c.args.self.now.csv _ _ c.if-self.false
            (read_as _ _ (subst (λ (o : Option Text). IsTextOf (message_json m (beside_line dialect u o)) bytes)
            (search rules)
            (rw c.dialect_name-dialect.ensures at text))),
      ),
      added,
    )

pub returns-in_ok-write_refused-in-None-clause-ok : goal.returns-in_ok-write_refused-in-None-clause-ok
returns-in_ok-write_refused-in-None-clause-ok c =
    let (bytes, text, added) = c.in_ok-write_refused-in-None.ensures.ok in (
      bytes,
      (
        _,
        only_refused c.args.self.now _ _ (c.utf8.line, c.in-None.ensures, refl),
        as_object c.args.self.now.csv _ _ c.if-self-2.false (read_as _ _ text),
      ),
      added,
    )
