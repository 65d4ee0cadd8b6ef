use Rattle.syslog_loose.proofs.Names.{rules, ◌≡◌, ◌↔◌, ◌∙◌, ◌++◌, ◌then◌, List, ℕ, [], Option, refl, sym, ap, arith}
use Rattle.syslog_loose.proofs.Names.{Text, Ends, ElementValue, elements_or, rfc3164_list, is_blank, front_same}
use Rattle.syslog_loose.proofs.Names.{run_det, rows_join, rest_front, begins_no_list, dash_rule, row_of}
use Rattle.syslog_loose.proofs.Names.{spaced_elements, optional, run, stamped_row, fields_row, body_row, fields_before}
use Rattle.syslog_loose.proofs.Names.{names_value, rest, front_division, BeginsNoList, chars_empty, nil_from_length}
use Rattle.syslog_loose.proofs.Names.{Front, empty_is, length, IsTrue, ◌&&◌, encode_utf8_all, encodes-chars, chars}
use Rattle.syslog_loose.proofs.Names.{Bool, Names3164, nat_eq, IsUtf8, piece_front, list_row}
use Rattle.std.proofs.{Common.eq-eqb, lemmas.Bool.and_parts}
use Rattle.syslog_loose.proofs.LineLemmas.{texted_as}
use Rattle.syslog_loose.proofs.Rfc3164Lemmas.{is_read, from_list, list_none}
use Rattle.syslog_loose.proofs.rfc3164.read_3164.Goals as goal

empty_told : (b : Bool) (bytes : List ℕ) → IsUtf8 bytes → b ≡ nat_eq (length bytes) 0 → IsTrue b ↔ (chars bytes ≡ [])
empty_told b bytes u e = (
  λ h. nil_from_length _ (chars_empty bytes (empty_is _ (sym h ∙ e))),
  λ n. e ∙ eq-eqb (length bytes) 0 (ap length (sym (encodes-chars bytes u) ∙ ap encode_utf8_all n)),
)

module _ {rest after msg own : Text} {es : Option (List ElementValue)} {elements : List ElementValue}
    (list : Front (optional (rfc3164_list dash_rule)) rest after es) (whole : rest ≡ own ++ after)
    (same : elements ≡ elements_or es) (ends : Ends is_blank rest) (gap : Front (run is_blank) after msg tt) where
  -- where the list is empty text, there is none, and what follows is the message part
  bare : own ≡ [] → (spaced_elements elements ++ msg ≡ rest) × BeginsNoList dash_rule msg
  bare empty =
      let here : rest ≡ after = whole ∙ ap (λ (x : Text). x ++ after) empty in
      let (none, unlisted) = list_none dash_rule es list (omega (arith, ap length here)) in
      let left = (front_same (run is_blank) (run_det is_blank) (rw (sym here) at gap)
      (piece_front (run is_blank) [] rest tt (tt, ends))).0 in
      (rw (same, none, left) refl, rw left (begins_no_list dash_rule rest unlisted))

  -- so the line is in printed form exactly where its names are, and its list is empty text
  fits : (names : Names3164) {text : Text} {Host Tag : Type 0} {b empty : Bool}
      → IsTrue b ↔ (Host × Tag × (text ≡ fields_before names rest)) → IsTrue empty ↔ (own ≡ [])
      → IsTrue (b && empty) ↔ (Host × Tag × (own ≡ [])
      × (text ≡ fields_before names (spaced_elements elements ++ msg)))
  fits names {b = b} {empty = empty} printed none = search (rules, bare)

pub returns-clause-reads : goal.returns-clause-reads
returns-clause-reads g c dating whole f =
    let known = c.read_fields-fields.ensures in
    let fields = known.read in
    let names = names_value c.read_fields-fields.result.names in
    let (es, list, same) = c.visit_rfc3164_list.ensures.list in
    let text = c.visit_rfc3164_list.ensures.text in
    let empty = empty_told c.is_empty.result c.text.result.now c.text.utf8 c.is_empty.ensures in
    record {
      read = is_read dash_rule dating whole _ _ _ refl (names, fields.means, rw same refl)
          (rows_join (stamped_row dating) (body_row dash_rule) f (rows_join fields_row (from_list dash_rule)
          fields.front (row_of (from_list dash_rule) (list then c.blanks.ensures then rest_front _ then refl))));
      front = f;
      after = _;
      host = fields.values.0;
      tag = fields.values.1.0;
      colon = fields.values.1.1.1.0;
      names = fields.front;
      process = known.process;
      parts = front_division (list_row dash_rule) (row_of (list_row dash_rule) (texted_as (optional
          (rfc3164_list dash_rule)) list text then c.blanks.ensures then rest_front _ then refl));
      is_printed = fits list text same known.ends c.blanks.ensures names known.prints (rw c.text.ensures at empty);
    }

pub returns-clause-form : goal.returns-clause-form
returns-clause-form g c =
    let fields = c.read_fields-fields.ensures in
    let names = names_value c.read_fields-fields.result.names in
    let (es, list, same) = c.visit_rfc3164_list.ensures.list in
    let text = c.visit_rfc3164_list.ensures.text in
    let empty = empty_told c.is_empty.result c.text.result.now c.text.utf8 c.is_empty.ensures in
    let told = fits list text same fields.ends c.blanks.ensures names fields.prints (rw c.text.ensures at empty) in
    record {
      utf8 = c.utf8.text;
      prints = λ e. (told.0 e).3;
      quiet = λ e none canonical. record {
        timestamp = canonical;
        names = fields.quiet (and_parts _ c.is_empty.result e).0;
        no_list = λ none. (bare list text same fields.ends c.blanks.ensures (told.0 e).2).1;
      };
    }
