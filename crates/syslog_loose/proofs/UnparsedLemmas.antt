-- What is left unparsed of a text: one text, which is that of its line, and nothing of a printed message.
use Rattle.syslog_loose.proofs.Names.{rules, ◌≡◌, ◌⊎◌, inl, inr, ◌++◌, ◌∙◌, ◌also◌, ◌then◌, [], refl, sym, ap, subst}
use Rattle.syslog_loose.proofs.Names.{List, Option, Some, None, Text, Front, Row, AllDeterministic, all_joined, run_det}
use Rattle.syslog_loose.proofs.Names.{rest_det, texted, optional, trimmed, is_blank, unique_division, front_division}
use Rattle.syslog_loose.proofs.Names.{division_front, row_pieces, row_of, rows_join, MessageValue, rfc5424_row}
use Rattle.syslog_loose.proofs.Names.{IsRead5424, IsRead3164, DashRule, Dating, Line, IsLineOf, rfc3164_list}
use Rattle.syslog_loose.proofs.Names.{ElementValue, names_row, front_row, header_row, rows_split, data_row, IsNot5424}
use Rattle.syslog_loose.proofs.{Names.tail_row, Names.list_row, Rfc5424Lemmas.header_det, Rfc5424Lemmas.names_front}
use Rattle.syslog_text.proofs.PieceLemmas.Class.{firsts, lasts}
use Rattle.syslog_loose.specs.{Reading.dash_rule, Words.forgiving, Words.list_text, declared.variant.Variant.Variant}
use Rattle.syslog_elements.proofs.StructuredDataLemmas.Unparsed.{IsBracketed, full_leaves, leaving_det, left_bracketed}
use Rattle.syslog_elements.proofs.StructuredDataLemmas.Unparsed.{nothing_leaves, unparsed_same}
use Rattle.syslog_elements.specs.StructuredData.Unparsed.{IsUnparsed, leaving}
use Rattle.syslog_loose.specs.LineTexts.{IsLine3164, IsLine5424}
use Rattle.syslog_loose.specs.Unparsed.{Leaves, Leaves5424, left_of, leaving_row}
use Rattle.syslog_loose.specs.declared.variant.Variant.TheVariants.{Either, RFC3164, RFC5424}

leaving_row_det : AllDeterministic leaving_row
leaving_row_det = all_joined header_row (tail_row leaving) header_det
    (run_det is_blank also leaving_det also run_det is_blank also rest_det also tt)

pub leaves_5424_same : (text u w : Text) → Leaves5424 text u → Leaves5424 text w → u ≡ w
leaves_5424_same text u w a b =
    a.means ∙ ap left_of (unique_division leaving_row leaving_row_det a.division b.division).1 ∙ sym b.means

leaving_front : {t q u : Text} → Front leaving t q u → (es : List ElementValue) × Front forgiving t q es
leaving_front f = let ((es, is), left) = f.is in (es, record { piece = f.piece; whole = f.whole; is = is })

-- the pieces of the structured data and of the message part, after the header
tail_split : {text u : Text} (a : Leaves5424 text u) → (t : Text) × Front (Row header_row) (trimmed text) t
    (firsts header_row (tail_row leaving) a.values)
    × Front (Row (tail_row leaving)) t [] (lasts header_row (tail_row leaving) a.values)
tail_split a = rows_split header_row (tail_row leaving) (division_front leaving_row a.division)

-- what leaves something is read
leaves_read : {text u : Text} → Leaves5424 text u → IsNot5424 text → ⊥
leaves_read a none =
    let (_, header, tail) = tail_split a in
    let (_, s1, (_, list, (_, s2, (_, msg, end)))) = row_pieces (tail_row leaving) tail in
    let (es, forgiven) = leaving_front list in
    none _ (front_division rfc5424_row (rows_join header_row data_row header
    (row_of data_row (s1 then forgiven then s2 then msg then end))))

pub leaves_same : (variant : Variant) (text u w : Text) → Leaves variant text u → Leaves variant text w → u ≡ w
leaves_same RFC5424 text u w a b = leaves_5424_same text u w a b
leaves_same RFC3164 text u w a b = a ∙ sym b
leaves_same Either text u w (inl a) (inl b) = leaves_5424_same text u w a b
leaves_same Either text u w (inl a) (inr (n, b)) = absurd (leaves_read a n)
leaves_same Either text u w (inr (n, a)) (inl b) = absurd (leaves_read b n)
leaves_same Either text u w (inr (n, a)) (inr (m, b)) = a ∙ sym b

-- ---- what is left begins and ends in brackets

left_shape : (text u : Text) → Leaves5424 text u → (u ≡ []) ⊎ IsBracketed u
left_shape text u a =
    let (_, _, tail) = tail_split a in
    let (_, _, (t, list, _)) = row_pieces (tail_row leaving) tail in
    subst (λ (x : Text). (x ≡ []) ⊎ IsBracketed x) (sym a.means) (left_bracketed list.piece t _ list.is)

pub leaves_shape : (variant : Variant) (text u : Text) → Leaves variant text u → (u ≡ []) ⊎ IsBracketed u
leaves_shape RFC5424 text u a = left_shape text u a
leaves_shape RFC3164 text u a = inl a
leaves_shape Either text u a = search (rules, left_shape)

-- ---- of a line

strict_leaves : (text : Text) (line : Line) (u : Text) → IsLine5424 text line → IsUnparsed (list_text line.list) u
    → Leaves5424 text u
strict_leaves text line u is left =
    let names = names_front is.names in
    let (t1, s1, (t2, list, (t3, s2, (t4, msg, end)))) =
    row_pieces (tail_row (texted forgiving)) (division_front (tail_row (texted forgiving)) is.parts) in
    let (es, forgiven, own) = list.is in
    let what : Front leaving t1 t2 u = record {
      piece = list.piece;
      whole = list.whole;
      is = ((es, forgiven), subst (λ (x : Text). IsUnparsed x u) own left);
    } in
    let tail = row_of (tail_row leaving) (s1 then what then s2 then msg then end) in
    record {
      values = _;
      division = front_division leaving_row (rows_join front_row (names_row ++ tail_row leaving) is.front
          (rows_join names_row (tail_row leaving) names tail));
      means = refl;
    }

-- no message is read by both protocols
apart : {rule : DashRule} {dating : Dating} {text : Text} {m : MessageValue} → IsRead5424 text m
    → IsRead3164 rule dating text m → ⊥
apart {m = m} r s = search rules

loose_list : (rule : DashRule) (p q : Text) (v : Option (List ElementValue)) → (optional (rfc3164_list rule)).Is p q v
    → IsUnparsed p []
loose_list rule p q None h = nothing_leaves p h.0
loose_list rule p q (Some es) (inl (d, before, none)) = ∣ inl (d, refl) ∣₁
loose_list rule p q (Some es) (inr (some, h)) = full_leaves p q es some h

-- a list of RFC 3164 is strict
loose_leaves : (dating : Dating) (text : Text) (line : Line) (u : Text) → IsLine3164 dating text line
    → IsUnparsed (list_text line.list) u → u ≡ []
loose_leaves dating text line u is left =
    let (t1, list, _) = row_pieces (list_row dash_rule) (division_front (list_row dash_rule) is.parts) in
    let (es, forgiven, own) = list.is in
    unparsed_same (list_text line.list) u [] left
    (subst (λ (x : Text). IsUnparsed x []) (sym own) (loose_list dash_rule list.piece t1 es forgiven))

pub leaves_of : (variant : Variant) (dating : Dating) (text : Text) (line : Line) (u : Text)
    → IsLineOf variant dating text line → IsUnparsed (list_text line.list) u → Leaves variant text u
leaves_of RFC5424 dating text line u of left = elim of.shows [
  | inl strict ↦ strict_leaves text line u strict left
  | inr loose ↦ absurd (apart of.only.read loose.read)
]
leaves_of RFC3164 dating text line u of left = elim of.shows [
  | inl strict ↦ absurd (apart strict.read of.only.read)
  | inr loose ↦ loose_leaves dating text line u loose left
]
leaves_of Either dating text line u of left = search (rules, strict_leaves, loose_leaves)
