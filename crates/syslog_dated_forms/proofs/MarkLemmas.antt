-- A text without `%` and `#` is no line of Cisco's with a date.
use Rattle.syslog_dated_forms.proofs.Names.{[], ◌++◌, ◌<◌, ◌∷◌, ◌≡◌, ◌⊎◌, arith, chars, cisco_forms, cisco_row, Class}
use Rattle.syslog_dated_forms.proofs.Names.{division_front, Each, each_after, false, filed_forms, filed_row, Front}
use Rattle.syslog_dated_forms.proofs.Names.{front_of, get_or, inl, inr, IsAny, IsAsa, IsMnemonic, IsNxOs, IsOfNone}
use Rattle.syslog_dated_forms.proofs.Names.{IsUtf8, length, List, marked_forms, message_row, nat_eq, nat_tests}
use Rattle.syslog_dated_forms.proofs.Names.{NoDivision, NoFront, None, none_joined, refl, Row, row_pieces, subst}
use Rattle.syslog_dated_forms.proofs.Names.{such_that, sym, Text, timed_forms, timed_row, true, Values, ℕ}
use Rattle.memchr.specs.Find.{IsFirstByte, is_byte2}
use Rattle.std.proofs.Common.{◌+◌, length-append}
use Rattle.std.proofs.lemmas.Bool.{cases_Bool}
use Rattle.std.proofs.lemmas.List.{get_or-append-add}
use Rattle.std.proofs.lemmas.Str.{encodes-chars}
use Rattle.std.specs.Char.{encode_utf8}
use Rattle.std.specs.Str.{encode_utf8_all}
use Rattle.syslog_text.proofs.PieceLemmas.Class.{each_front}
use Rattle.syslog_dated_forms.specs.Cisco.{is_unmarked}
use Rattle.syslog_dated_forms.proofs.CiscoLemmas.{none_cisco}

-- ---- what a search of the bytes says

-- none of the bytes is `%` or `#`
abbrev Lacks : List ℕ → Type 0
Lacks bs = (k : ℕ) → k < length bs → is_byte2 37 35 (get_or bs k 0) ≡ true → ⊥

later : (c : ℕ) (cs : Text) → Lacks (encode_utf8_all (c ∷ cs)) → Lacks (encode_utf8_all cs)
later c cs n k l h =
    let ahead = encode_utf8 c in
    let more = encode_utf8_all cs in
    n (length ahead + k) (omega (arith, l, length-append ahead more)) (rw (get_or-append-add ahead more k 0) h)

marked : (c : ℕ) (cs : Text) → (c ≡ 37) ⊎ (c ≡ 35) → Lacks (encode_utf8_all (c ∷ cs)) → ⊥
unfolding encode_utf8
marked c cs (inl is) n =
    let some : 0 < length (37 ∷ encode_utf8_all cs) = omega arith in
    (subst (λ (x : ℕ). Lacks (encode_utf8_all (x ∷ cs))) is n) 0 some refl
marked c cs (inr is) n =
    let some : 0 < length (35 ∷ encode_utf8_all cs) = omega arith in
    (subst (λ (x : ℕ). Lacks (encode_utf8_all (x ∷ cs))) is n) 0 some refl

either : (c : ℕ) → is_unmarked c ≡ false → (c ≡ 37) ⊎ (c ≡ 35)
either c h = elim (cases_Bool (nat_eq c 37)) [
  | inl is ↦ inl (grind (arith, nat_tests, is))
  | inr other ↦ inr (grind (arith, nat_tests, other, h))
]

each_unmarked : (cs : Text) → Lacks (encode_utf8_all cs) → Each is_unmarked cs
each_unmarked [] n = tt
each_unmarked (c ∷ cs) n = (
  elim (cases_Bool (is_unmarked c)) [ inl is ↦ is | inr other ↦ absurd (marked c cs (either c other) n) ],
  each_unmarked cs (later c cs n),
)

pub unmarked : (bs : List ℕ) → IsUtf8 bs → IsFirstByte (is_byte2 37 35) bs None → Each is_unmarked (chars bs)
unmarked bs u n = each_unmarked (chars bs)
    (rw (encodes-chars bs u) (λ (k : ℕ) (l : k < length bs). n k (omega arith) l))

-- ---- such a text

word_marked : (w : Text) → Each is_unmarked w → IsMnemonic w → ⊥
word_marked [] e h = h
word_marked (c ∷ []) e h = h
word_marked (c ∷ d ∷ more) e h = grind (arith, nat_tests, e.0, h)

-- what is left of it
left : {C : Class} {t u : Text} {v : C.Value} → Front C t u v → Each is_unmarked t → Each is_unmarked u
left {u = u} f e = each_after is_unmarked f.piece u (subst (λ (x : Text). Each is_unmarked x) f.whole e)

no_message : {t : Text} → Each is_unmarked t → NoFront (Row message_row) t
no_message each p q vs e h =
    let (z, n, rest) = row_pieces message_row (front_of p e h) in
    let ((k, r, is), mnemonic) = n.is in
    let word = each_front is_unmarked n.piece z (subst (λ (i : Text). Each is_unmarked i) n.whole each) in
    word_marked _ (subst (λ (i : Text). Each is_unmarked i) (sym is) word) mnemonic

no_line : {t : Text} → Each is_unmarked t → NoFront (Row cisco_row) t
no_line {t} each p q vs e h =
    let (u, s, (w, d, (x, l, (y, m, more)))) = row_pieces cisco_row (front_of p e h) in
    no_message (left l (left d (left s each))) m.piece y _ m.whole m.is

unmarked_cisco : {t : Text} → Each is_unmarked t → IsOfNone cisco_forms t
unmarked_cisco each = none_cisco (no_line each)

not_filed : (P : Values cisco_row → Type 0) {t : Text} → Each is_unmarked t
    → NoDivision (filed_row (such_that (Row cisco_row) P)) t
not_filed P each vs d =
    let (a, f, (b, g, (c, h, (e, i, (k, j, (l, m, more)))))) = row_pieces (filed_row (such_that (Row cisco_row) P))
    (division_front (filed_row (such_that (Row cisco_row) P)) d) in
    no_line (left j (left i (left h (left g (left f each))))) m.piece l _ m.whole m.is.0

unmarked_filed : {t : Text} → Each is_unmarked t → IsOfNone filed_forms t
unmarked_filed each = (not_filed IsAsa each, (not_filed IsNxOs each, (not_filed IsAny each, tt)))

unmarked_timed : {t : Text} → Each is_unmarked t → IsOfNone timed_forms t
unmarked_timed each = (
  λ vs d. (let (a, f, (b, g, (c, h, (e, i, (k, j, (l, m, (n, o, (r, s, (u, w, more))))))))) = row_pieces timed_row
      (division_front timed_row d) in
      no_message (left s (left o (left m (left j (left i (left h (left g (left f each)))))))) w.piece u _ w.whole w.is),
  tt,
)

pub unmarked_marked : {t : Text} → Each is_unmarked t → IsOfNone marked_forms t
unmarked_marked {t} each = none_joined cisco_forms (filed_forms ++ timed_forms) t (unmarked_cisco each)
    (none_joined filed_forms timed_forms t (unmarked_filed each) (unmarked_timed each))
