-- Lines that have blanks between a program's name and the bracket before its process. The name is what is read as a
-- host, so the bracket follows what is read before it.
use Rattle.syslog_named_forms.proofs.Names.{[], ◌++◌, ◌<◌, ◌then◌, ◌∙◌, ◌∷◌, ◌≡◌, AfterHost, ap, arith, BeginsWith}
use Rattle.syslog_named_forms.proofs.Names.{colon, dash, Each, each_map, Ends, false, Front, front_of, front_same, host}
use Rattle.syslog_named_forms.proofs.Names.{host_row, is_blank, is_not_whitespace, length, NamedTexts, nat_tests}
use Rattle.syslog_named_forms.proofs.Names.{no_front_no, no_mapped, NoFront, None, Option, padded_of, padded_row}
use Rattle.syslog_named_forms.proofs.Names.{ReadsHost, refl, Row, row_det, row_of, row_pieces, Some, some_run, subst}
use Rattle.syslog_named_forms.proofs.Names.{sym, Text, threaded_of, threaded_row, true}
use Rattle.syslog_text.specs.Text.{EndsInColon}
use Rattle.syslog_text.specs.Text.CharClass.{is_label_char}
use Rattle.syslog_text.proofs.PieceLemmas.Class.{each_after, piece_front}
use Rattle.syslog_text.proofs.TextLemmas.Words.{host_back}
use Rattle.syslog_sent.specs.Named.{begins_name}
use Rattle.syslog_named_forms.specs.Graded.{padded, threaded}
use Rattle.syslog_named_forms.specs.Untagged.{opens_bracket, opens_square}
use Rattle.syslog_named_forms.proofs.RowLemmas.{host_row_det}

name_no_colon : (n : Text) → Each is_label_char n → EndsInColon n → ⊥
name_no_colon n each (front, e) =
    let last = (each_after is_label_char front colon (subst (λ (x : Text). Each is_label_char x) e each)).0 in
    absurd (let bad : false ≡ true = last in cc)

pub name_visible : (n : Text) → Each is_label_char n → Each is_not_whitespace n
name_visible n each = each_map is_label_char is_not_whitespace (λ c h. grind (arith, nat_tests, h)) n each

name_no_dash : (n : Text) → BeginsWith begins_name n → n ≡ dash → ⊥
name_no_dash n begins e =
    let first : BeginsWith begins_name dash = subst (λ (x : Text). BeginsWith begins_name x) e begins in
    absurd (let bad : false ≡ true = first in cc)

pub blank_ends : (b s : Text) → 0 < length b → Each is_blank b → Ends is_not_whitespace (b ++ s)
blank_ends [] s some each = absurd (omega (arith, some))
blank_ends (c ∷ b) s some each = grind (arith, nat_tests, each.0)

-- a name, blanks and a bracket: a host is read, and then the bracket
bracket_next : (n b s : Text) → BeginsWith begins_name n → 0 < length n → Each is_label_char n → 0 < length b
    → Each is_blank b → Front (Row host_row) (n ++ (b ++ (91 ∷ s))) (91 ∷ s) (Some n, (tt, tt))
bracket_next n b s begins long each some blank = row_of host_row
    (piece_front host n (b ++ (91 ∷ s)) (Some n) (host_back (Some n) (b ++ (91 ∷ s))
    ((long, name_visible n each), name_no_dash n begins, name_no_colon n each) (blank_ends b (91 ∷ s) some blank))
    then piece_front (some_run is_blank) b (91 ∷ s) tt (some, blank, refl) then refl)

-- what was read before is of a text in which none follows
not_open : (r : Option AfterHost) {text : Text}
    → ReadsHost text r → opens_bracket r ≡ false → (n b s : Text)
    → BeginsWith begins_name n → 0 < length n → Each is_label_char n → 0 < length b → Each is_blank b
    → text ≡ n ++ (b ++ (91 ∷ s)) → ⊥
not_open None after shut n b s begins long each some blank e = no_front_no (Row host_row) after
    (subst (λ (x : Text). Front (Row host_row) x (91 ∷ s) (Some n, (tt, tt))) (sym e)
    (bracket_next n b s begins long each some blank))
not_open (Some x) after shut n b s begins long each some blank e =
    let same = (front_same (Row host_row) (row_det host_row host_row_det) after
    (subst (λ (y : Text). Front (Row host_row) y (91 ∷ s) (Some n, (tt, tt))) (sym e)
    (bracket_next n b s begins long each some blank))).0 in
    let begun : opens_square (91 ∷ s) ≡ false = subst (λ (y : Text). opens_square y ≡ false) same shut in
    absurd (let bad : true ≡ false = begun in cc)

module _ (r : Option AfterHost) {text : Text}
    (after : ReadsHost text r) (shut : opens_bracket r ≡ false) where
  pub no_threaded : NoFront threaded text
  no_threaded = no_mapped (Row threaded_row) NamedTexts threaded_of (λ p q vs e h.
      let (u, n, (w, g, (x, o, more))) = row_pieces threaded_row (front_of p e h) in
      let ((z, (long, each, ends), is), begins) = n.is in
      let (some, blank, over) = g.is in
      not_open r after shut n.piece g.piece x (subst (λ (y : Text). BeginsWith begins_name y) is begins) long each
      some blank (n.whole ∙ ap (λ (y : Text). n.piece ++ y)
      (g.whole ∙ ap (λ (y : Text). g.piece ++ y) (o.whole ∙ ap (λ (y : Text). y ++ x) o.is))))

  pub no_padded : NoFront padded text
  no_padded = no_mapped (Row padded_row) NamedTexts padded_of (λ p q vs e h.
      let (u, n, (v, two, (w, g, (x, o, more)))) = row_pieces padded_row (front_of p e h) in
      let ((z, (long, each, ends), is), begins) = n.is in
      let (blank, over) = g.is in
      not_open r after shut n.piece (32 ∷ 32 ∷ g.piece) x (subst (λ (y : Text). BeginsWith begins_name y) is begins)
      long each (omega arith) (refl, (refl, blank)) (n.whole ∙ ap (λ (y : Text). n.piece ++ y)
      (two.whole ∙ ap (λ (y : Text). y ++ v) two.is ∙ ap (λ (y : Text). 32 ∷ 32 ∷ y)
      (g.whole ∙ ap (λ (y : Text). g.piece ++ y) (o.whole ∙ ap (λ (y : Text). y ++ x) o.is)))))
