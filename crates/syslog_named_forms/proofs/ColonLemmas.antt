-- Lines whose first word ends in a colon, with a blank after it: no host and blanks begin them.
use Rattle.syslog_named_forms.proofs.Names.{[], ◌++◌, ◌<◌, ◌∙◌, ◌∷◌, ◌≡◌, access_of, access_row, ap, arith, Class}
use Rattle.syslog_named_forms.proofs.Names.{colon, Each, each_map, Ends, false, Front, front_of, front_same, heads}
use Rattle.syslog_named_forms.proofs.Names.{host_row, hostless_of, hostless_row, inl, inr, is_blank, is_not_whitespace}
use Rattle.syslog_named_forms.proofs.Names.{is_plain_char, is_tag_char, length, NamedTexts, nat_tests, no_mapped}
use Rattle.syslog_named_forms.proofs.Names.{NoFront, None, Option, optional, point_row, program, refl, Row, row_pieces}
use Rattle.syslog_named_forms.proofs.Names.{Some, some_run, some_run_det, subst, sym, Text, texted, texted_det}
use Rattle.syslog_named_forms.proofs.Names.{topic_row, true, Values, ℕ}
use Rattle.std.proofs.Common.{append_assoc}
use Rattle.syslog_text.specs.Text.{IsHost}
use Rattle.syslog_text.specs.Text.CharClass.{is_id_char}
use Rattle.syslog_text.proofs.PieceLemmas.Class.{each_append}
use Rattle.syslog_sent.specs.Named.{id_row, process_id, program_row}
use Rattle.syslog_named_forms.specs.Programs.{access_point, hostless}
use Rattle.syslog_named_forms.proofs.BracketLemmas.{blank_ends, name_visible}

-- ---- no host ends in the colon

some_last : (w : Text) → 0 < length (w ++ colon)
some_last [] = omega arith
some_last (c ∷ w) = omega arith

blank_first : (b r x : Text) (c : ℕ) → 0 < length b → Each is_blank b → b ++ r ≡ c ∷ x → is_blank c ≡ true
blank_first [] r x c some each e = absurd (omega (arith, some))
blank_first (d ∷ b) r x c some each e = subst (λ (n : ℕ). is_blank n ≡ true) (heads _ _ _ _ e) each.0

abbrev any_word : Class
any_word = texted (some_run is_not_whitespace)

colon_last : (w u p s b r : Text) (v : Option Text) → Each is_not_whitespace w → Ends is_not_whitespace u
    → w ++ (58 ∷ u) ≡ p ++ s → s ≡ b ++ r → 0 < length b → Each is_blank b → IsHost p s v → ⊥
colon_last w u p s b r v each ends e after some blank (long, visible, inl (no_end, over, names)) =
    let read : Front any_word (w ++ (58 ∷ u)) s p = front_of p e (tt, (long, visible, over), refl) in
    let shown : Front any_word (w ++ (58 ∷ u)) u (w ++ colon) = front_of (w ++ colon) (sym (append_assoc w colon u))
    (tt, (some_last w, each_append is_not_whitespace w colon each (refl, tt), ends), refl) in
    let same = front_same any_word (texted_det (some_run is_not_whitespace) (some_run_det is_not_whitespace)) shown
    read in
    no_end (w, sym same.1)
colon_last w u p s b r v each ends e after some blank (long, visible, inr (x, is, over, names)) =
    let white = blank_first b r x 58 some blank (sym after ∙ is) in
    absurd (let bad : false ≡ true = white in cc)

colon_next : (w u q : Text) {vs : Values host_row} → Each is_not_whitespace w → Ends is_not_whitespace u
    → Front (Row host_row) (w ++ (58 ∷ u)) q vs → ⊥
colon_next w u q each ends f =
    let (s, h, (r, g, more)) = row_pieces host_row f in
    let (some, blank, over) = g.is in
    colon_last w u h.piece s g.piece r _ each ends h.whole g.whole some blank h.is

-- what follows is a blank
gap_ends : (u w : Text) → Front (some_run is_blank) u w tt → Ends is_not_whitespace u
gap_ends u w g = let (some, blank, over) = g.is in
    subst (λ (x : Text). Ends is_not_whitespace x) (sym g.whole) (blank_ends g.piece w some blank)

-- ---- programs

-- a text that the front is, without white space
record IsWordBefore (t q : Text) : Type 0 where
  word : Text
  whole : t ≡ word ++ q
  visible : Each is_not_whitespace word

id_word : (t q : Text) (v : Option Text) → Front (optional process_id) t q v → IsWordBefore t q
id_word t q None f = record { word = []; whole = f.whole ∙ ap (λ (x : Text). x ++ q) f.is.0; visible = tt }
id_word t q (Some v) f =
    let (vs, h, i) = f.is in
    let (u1, a, (u2, b, (u3, c, e))) = row_pieces id_row (front_of f.piece f.whole h) in
    let (z, (some, each, ends), is) = b.is in
    record {
      word = 91 ∷ (b.piece ++ (93 ∷ []));
      whole = a.whole ∙ ap (λ (x : Text). x ++ u1) a.is ∙ ap (λ (x : Text). 91 ∷ x)
          (b.whole ∙ ap (λ (x : Text). b.piece ++ x)
          (c.whole ∙ ap (λ (x : Text). x ++ u3) c.is ∙ ap (λ (x : Text). 93 ∷ x) e)
          ∙ sym (append_assoc b.piece (93 ∷ []) q));
      visible = (
        refl,
        each_append is_not_whitespace b.piece (93 ∷ [])
            (each_map is_id_char is_not_whitespace (λ n k. grind (arith, nat_tests, k)) b.piece each) (refl, tt),
      );
    }

program_word : (t q : Text) {v : program.Value} → Front program t q v → IsWordBefore t (58 ∷ q)
program_word t q f =
    let (vs, h, i) = f.is in
    let (u1, n, (u2, d, (u3, c, e))) = row_pieces program_row (front_of f.piece f.whole h) in
    let ((z, (some, each, ends), is), begins) = n.is in
    let id = id_word u1 u2 _ d in
    record {
      word = n.piece ++ id.word;
      whole = n.whole ∙ ap (λ (x : Text). n.piece ++ x)
          (id.whole ∙ ap (λ (x : Text). id.word ++ x)
          (c.whole ∙ ap (λ (x : Text). x ++ u3) c.is ∙ ap (λ (x : Text). 58 ∷ x) e))
          ∙ sym (append_assoc n.piece id.word (58 ∷ q));
      visible = each_append is_not_whitespace n.piece id.word (name_visible n.piece each) id.visible;
    }

pub no_hostless : {text q : Text} {hs : Values host_row} → Front (Row host_row) text q hs → NoFront hostless text
no_hostless {text} {q} {hs} after = no_mapped (Row hostless_row) NamedTexts hostless_of (λ p r vs e h.
    let (u, f, (w, g, more)) = row_pieces hostless_row (front_of p e h) in
    let before = program_word text u f in
    colon_next before.word u q before.visible (gap_ends u w g)
    (subst (λ (x : Text). Front (Row host_row) x q hs) before.whole after))

-- ---- access points

topic_word : (t q : Text) {vs : Values topic_row} → Front (Row topic_row) t q vs → IsWordBefore t q
topic_word t q f =
    let (u1, a, (u2, b, e)) = row_pieces topic_row f in
    let (some, each, ends) = a.is in
    record {
      word = a.piece ++ (44 ∷ []);
      whole = a.whole ∙ ap (λ (x : Text). a.piece ++ x)
          (b.whole ∙ ap (λ (x : Text). x ++ u2) b.is ∙ ap (λ (x : Text). 44 ∷ x) e)
          ∙ sym (append_assoc a.piece (44 ∷ []) q);
      visible = each_append is_not_whitespace a.piece (44 ∷ [])
          (each_map is_plain_char is_not_whitespace (λ n k. grind (arith, nat_tests, k)) a.piece each) (refl, tt);
    }

point_word : (t q : Text) {vs : Values point_row} → Front (Row point_row) t q vs → IsWordBefore t q
point_word t q f =
    let (u1, a, (u2, b, (u3, c, (u4, d, e)))) = row_pieces point_row f in
    let (some, each, ends) = d.is in
    let model = topic_word t u1 a in
    let address = topic_word u1 u2 b in
    record {
      word = model.word ++ (address.word ++ (118 ∷ d.piece));
      whole = model.whole ∙ ap (λ (x : Text). model.word ++ x)
          (address.whole ∙ ap (λ (x : Text). address.word ++ x)
          (c.whole ∙ ap (λ (x : Text). x ++ u3) c.is ∙ ap (λ (x : Text). 118 ∷ x)
          (d.whole ∙ ap (λ (x : Text). d.piece ++ x) e))
          ∙ sym (append_assoc address.word (118 ∷ d.piece) q))
          ∙ sym (append_assoc model.word (address.word ++ (118 ∷ d.piece)) q);
      visible = each_append is_not_whitespace model.word (address.word ++ (118 ∷ d.piece)) model.visible
          (each_append is_not_whitespace address.word (118 ∷ d.piece) address.visible
          (refl, each_map is_tag_char is_not_whitespace (λ n k. grind (arith, nat_tests, k)) d.piece each));
    }

pub no_access_point : {text q : Text} {hs : Values host_row} → Front (Row host_row) text q hs
    → NoFront access_point text
no_access_point {text} {q} {hs} after = no_mapped (Row access_row) NamedTexts access_of (λ p r vs e h.
    let (u, f, (v, c, (w, g, more))) = row_pieces access_row (front_of p e h) in
    let (ws, row, same) = f.is in
    let before = point_word text u (front_of f.piece f.whole row) in
    let at_colon : text ≡ before.word ++ (58 ∷ v) = before.whole ∙ ap (λ (x : Text). before.word ++ x)
    (c.whole ∙ ap (λ (x : Text). x ++ v) c.is) in
    colon_next before.word v q before.visible (gap_ends v w g)
    (subst (λ (x : Text). Front (Row host_row) x q hs) at_colon after))
