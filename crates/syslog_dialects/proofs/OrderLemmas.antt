-- What a text tells, by the pieces of a row that tell it. `search ways` finds how a row does, by its classes.
use Rattle.syslog_dialects.proofs.Names.{[], ◌++◌, ◌otherwise◌, ◌∙◌, ◌∷◌, ◌≡◌, ◌⊎◌, and_parts, ap, append_assoc}
use Rattle.syslog_dialects.proofs.Names.{beginning, Bool, Class, date_first, Each, ended, Ends, exactly, Front}
use Rattle.syslog_dialects.proofs.Names.{front_of, host, host_first, if_there, inl, inr, is_blank, join, List, mapped}
use Rattle.syslog_dialects.proofs.Names.{MatchOption, Name, nat_eq, None, number, Option, optional, Part, present_front}
use Rattle.syslog_dialects.proofs.Names.{refl, rest, Row, row_head, run, SentValue, Some, some_run, spaced, subst}
use Rattle.syslog_dialects.proofs.Names.{such_that, sym, tag_word, Tells, Text, texted, true, Values}
use Rattle.std.proofs.Common.{◌||◌, ◌&&◌}
use Rattle.std.proofs.lemmas.Bool.{or_left}
use Rattle.std.proofs.lemmas.List.{append-nil}
use Rattle.syslog_text.specs.Text.{IsHost, Names, dash, word}
use Rattle.syslog_text.proofs.PieceLemmas.Class.{absent_stays, each_map, nil_front, spaced_parts}
use Rattle.syslog_dialects.specs.Found.{IsLeftOut, IsOfOne, IsTold, Says, Version, is_sign}
use Rattle.syslog_named_forms.specs.Programs.{name_in, process_in}
use Rattle.syslog_sent.specs.Named.{ProgramText, id_of, id_row, process_id, program, program_of, program_row}

-- ---- the end of a text

-- a row of one class
pub end_of : (C : Class) {t : Text} {v : Values (C ∷ [])} → Front (Row (C ∷ [])) t [] v → Front C t [] v.0
end_of C {t = t} {v = v} f =
    let (q, it, none) = row_head C [] f in subst (λ (x : Text). Front C t x v.0) (nil_front none) it

-- a piece after which nothing is left is the text
pub whole_of : (C : Class) {t : Text} {v : C.Value} → (f : Front C t [] v) → f.piece ≡ t
whole_of C f = sym (f.whole ∙ append-nil f.piece)

-- ---- a piece, and what is told after it

-- the text tells these parts, and the message, which begins with no blank
pub record Told (left : List Class) (text : Text) (parts : List Part) (msg : Text) : Type 0 where
  pub tells : Tells left text parts msg
  pub front : Ends is_blank msg

whole_more : {C : Class} {t q : Text} {v : C.Value} (ps : List Text) (msg : Text) → (f : Front C t q v)
    → q ≡ join ps ++ msg → t ≡ join (f.piece ∷ ps) ++ msg
whole_more ps msg f same =
    f.whole ∙ ap (λ (x : Text). f.piece ++ x) same ∙ sym (append_assoc f.piece (join ps) msg)

-- a piece that is left out
pub out_more : {left : List Class} (C : Class) {t q : Text} {v : C.Value} {parts : List Part} {msg : Text}
    → (f : Front C t q v) → IsLeftOut left f.piece q → Told left q parts msg → Told left t parts msg
out_more {left} C {msg = msg} f out told =
    let it = told.tells in record {
      tells = record {
        pieces = f.piece ∷ it.pieces;
        whole = whole_more it.pieces msg f it.whole;
        each = inl (subst (IsLeftOut left f.piece) it.whole out, it.each);
      };
      front = told.front;
    }

-- a piece that says the next part
pub says_more : {left : List Class} (C : Class) {t q : Text} {v : C.Value} (x : Part) {parts : List Part} {msg : Text}
    → (f : Front C t q v) → Says f.piece q x → Told left q parts msg → Told left t (x ∷ parts) msg
says_more C x {parts} {msg} f says told =
    let it = told.tells in record {
      tells = record {
        pieces = f.piece ∷ it.pieces;
        whole = whole_more it.pieces msg f it.whole;
        each = inr (x, parts, refl, subst (λ (y : Text). Says f.piece y x) it.whole says, it.each);
      };
      front = told.front;
    }

-- what a line says is told, with the date before the host or after it
abbrev pub ToldSo : List Class → Text → SentValue → Type 0
ToldSo left text sent = Told left text (date_first sent) sent.msg ⊎ Told left text (host_first sent) sent.msg

pub is_told : {left : List Class} {text : Text} (sent : SentValue) → ToldSo left text sent
    → IsTold left text sent × Ends is_blank sent.msg
is_told sent (inl told) = (inl told.tells, told.front)
is_told sent (inr told) = (inr told.tells, told.front)

-- ---- texts and signs

pub name_before : {left : List Class} {q : Text} {parts : List Part} {msg : Text} (n : Text) → Told left q parts msg
    → Told left (n ++ q) (Name n ∷ parts) msg
name_before n told = says_more (exactly n) (Name n) (front_of n refl refl) refl told

pub signs_before : {left : List Class} {q : Text} {parts : List Part} {msg : Text} (s : Text) → Each is_sign s
    → Told left q parts msg → Told left (s ++ q) parts msg
signs_before s signs told = out_more (exactly s) (front_of s refl refl) (inl signs) told

pub blank_signs : (p : Text) → Each is_blank p → Each is_sign p
blank_signs = each_map is_blank is_sign
    (λ c blank. or_left (is_blank c) (nat_eq c 58 || (nat_eq c 91 || (nat_eq c 93 || nat_eq c 45))) blank)

-- the piece is a name, or `-` for none
abbrev pub IsNamed : Text → Option Text → Type 0
IsNamed p v = MatchOption v (p ≡ dash) (λ t. t ≡ p)

pub name_more : {left : List Class} (C : Class) {t q : Text} {w : C.Value} {parts : List Part} {msg : Text}
    (v : Option Text) → (f : Front C t q w) → IsNamed f.piece v → Told left q parts msg
    → Told left t (if_there Name v parts) msg
name_more C None f is told = out_more C f (inl (subst (Each is_sign) (sym is) (refl, tt))) told
name_more C (Some n) f is told = says_more C (Name n) f (sym is) told

pub names_named : (p : Text) (v : Option Text) → Names p v → IsNamed p v
names_named p None is = is
names_named p (Some t) is = is.0

-- a host is its piece, also before a colon
pub host_named : (p q : Text) (v : Option Text) → IsHost p q v → IsNamed p v
host_named p q v (some, each, inl (no_colon, ends, is)) = names_named p v is
host_named p q v (some, each, inr (s, follows, ends, same)) = subst (IsNamed p) (sym same) refl

-- ---- pieces that are left out

-- each piece of the class is
pub record IsOut (left : List Class) (C : Class) : Type 0 where
  pub is_out : (p q : Text) (v : C.Value) → C.Is p q v → IsLeftOut left p q

-- one of the list
pub data Among (C : Class) : List Class → Type 1 where
  first : {Cs : List Class} → Among C (C ∷ Cs)
  later : {D : Class} {Cs : List Class} → Among C Cs → Among C (D ∷ Cs)

of_one : {C : Class} {Cs : List Class} → Among C Cs → (p q : Text) (v : C.Value) → C.Is p q v → IsOfOne Cs p q
of_one first p q v is = inl (v, is)
of_one (later a) p q v is = inr (of_one a p q v is)

pub listed : {left : List Class} {C : Class} → Among C left → IsOut left C
listed a = record { is_out = λ p q v is. inr (of_one a p q v is) }

-- signs
abbrev are_signs : Text → Bool
are_signs [] = true
are_signs (c ∷ t) = is_sign c && are_signs t

each_sign : (t : Text) → are_signs t ≡ true → Each is_sign t
each_sign [] h = tt
each_sign (c ∷ t) h = let (here, more) = and_parts (is_sign c) (are_signs t) h in (here, each_sign t more)

pub signs : {left : List Class} {t : Text} → are_signs t ≡ true → IsOut left (exactly t)
signs {t = t} h = record { is_out = λ p q v is. inl (subst (Each is_sign) (sym is) (each_sign t h)) }

pub blanks : {left : List Class} → IsOut left (run is_blank)
blanks = record { is_out = λ p q v is. inl (blank_signs p is.0) }

pub gap : {left : List Class} → IsOut left (some_run is_blank)
gap = record { is_out = λ p q v is. inl (blank_signs p is.1) }

-- of two classes
either_out : {left : List Class} {C D : Class} → IsOut left C → IsOut left D → (p q : Text) (v : C.Value ⊎ D.Value)
    → (C otherwise D).Is p q v → IsLeftOut left p q
either_out c d p q (inl v) is = c.is_out p q v is
either_out c d p q (inr v) is = d.is_out p q v is.1

pub either : {left : List Class} {C D : Class} → IsOut left C → IsOut left D → IsOut left (C otherwise D)
either c d = record { is_out = either_out c d }

pub at_end : {left : List Class} {C : Class} → IsOut left C → IsOut left (ended C)
at_end out = record { is_out = λ p q v is. out.is_out p q v is.0 }

maybe_out : {left : List Class} {C : Class} → IsOut left C → (p q : Text) (v : Option C.Value)
    → (optional C).Is p q v → IsLeftOut left p q
maybe_out out p q None is = inl (subst (Each is_sign) (sym is.0) tt)
maybe_out out p q (Some v) is = out.is_out p q v is

pub maybe : {left : List Class} {C : Class} → IsOut left C → IsOut left (optional C)
maybe out = record { is_out = maybe_out out }

-- ---- what a piece of a class adds

abbrev pub Has : (left : List Class) (C : Class) → (C.Value → List Part → List Part) → Type 0
Has left C adds = (t q : Text) (v : C.Value) → Front C t q v → (parts : List Part) (msg : Text) → Told left q parts msg
    → Told left t (adds v parts) msg

pub record Shows (left : List Class) (C : Class) : Type 0 where
  pub adds : C.Value → List Part → List Part
  pub has : Has left C adds

abbrev pub passed : {left : List Class} {C : Class} → IsOut left C → Shows left C
passed {C = C} out = record {
  adds = λ v parts. parts;
  has = λ t q v f parts msg told. out_more C f (out.is_out f.piece q v f.is) told;
}

-- a name or none
abbrev pub named : {left : List Class} (C : Class) (name_of : C.Value → Option Text)
    → ((p q : Text) (v : C.Value) → C.Is p q v → IsNamed p (name_of v)) → Shows left C
named C name_of is = record {
  adds = λ v parts. if_there Name (name_of v) parts;
  has = λ t q v f parts msg told. name_more C (name_of v) f (is f.piece q v f.is) told;
}

-- of a piece whose meaning has a property
pub such_has : {left : List Class} {C : Class} {P : C.Value → Type 0} (adds : C.Value → List Part → List Part)
    → Has left C adds → Has left (such_that C P) adds
such_has adds has t q v f parts msg told = has t q v (front_of f.piece f.whole f.is.0) parts msg told

abbrev pub such : {left : List Class} {C : Class} {P : C.Value → Type 0} → Shows left C → Shows left (such_that C P)
such s = record { adds = s.adds; has = such_has s.adds s.has }

-- of a piece with another meaning
pub mapped_has : (left : List Class) (C : Class) (B : Type 0) (meaning : C.Value → B)
    (adds : B → List Part → List Part) → Has left C (λ v. adds (meaning v)) → Has left (mapped C B meaning) adds
mapped_has left C B meaning adds has t q b f parts msg told =
    let (v, is, same) = f.is in
    subst (λ (x : B). Told left t (adds x parts) msg) (sym same)
    (has t q v (front_of f.piece f.whole is) parts msg told)

abbrev pub meant : {left : List Class} (C : Class) (B : Type 0) (meaning : C.Value → B)
    (adds : B → List Part → List Part) → Has left C (λ v. adds (meaning v)) → Shows left (mapped C B meaning)
meant {left} C B meaning adds has = record { adds = adds; has = mapped_has left C B meaning adds has }

-- one part
pub record SaysOne (left : List Class) (C : Class) : Type 0 where
  pub part : C.Value → Part
  pub has : Has left C (λ v parts. part v ∷ parts)

abbrev pub shown : {left : List Class} (C : Class) (part : C.Value → Part)
    → ((p q : Text) (v : C.Value) → C.Is p q v → Says p q (part v)) → SaysOne left C
shown C part says = record {
  part = part;
  has = λ t q v f parts msg told. says_more C (part v) f (says f.piece q v f.is) told;
}

abbrev pub such_one : {left : List Class} {C : Class} {P : C.Value → Type 0} → SaysOne left C
    → SaysOne left (such_that C P)
such_one s = record { part = s.part; has = such_has (λ v parts. s.part v ∷ parts) s.has }

abbrev pub meant_one : {left : List Class} (C : Class) (meaning : C.Value → Text)
    → Has left C (λ v parts. Name (meaning v) ∷ parts) → SaysOne left (mapped C Text meaning)
meant_one {left} C meaning has =
    record { part = Name; has = mapped_has left C Text meaning (λ t parts. Name t ∷ parts) has }

abbrev pub one : {left : List Class} {C : Class} → SaysOne left C → Shows left C
one s = record { adds = λ v parts. s.part v ∷ parts; has = s.has }

-- the part of a piece that may be absent
pub perhaps_has : {left : List Class} {C : Class} (s : SaysOne left C)
    → Has left (optional C) (λ o parts. if_there s.part o parts)
perhaps_has {left} {C} s t q None f parts msg told =
    subst (λ (x : Text). Told left x parts msg) (sym (absent_stays C f)) told
perhaps_has {C = C} s t q (Some v) f parts msg told = s.has t q v (present_front C f) parts msg told

abbrev pub perhaps : {left : List Class} {C : Class} → SaysOne left C → Shows left (optional C)
perhaps s = record { adds = λ o parts. if_there s.part o parts; has = perhaps_has s }

-- ---- rows

-- what each class of a row shows
infixr 20 ◌with◌
pub data AllShow (left : List Class) : List Class → Type 1 where
  none : AllShow left []
  ◌with◌ : {C : Class} {Cs : List Class} → Shows left C → AllShow left Cs → AllShow left (C ∷ Cs)

-- what the pieces of a row add
abbrev pub added : {left Cs : List Class} → AllShow left Cs → Values Cs → List Part → List Part
added none vs parts = parts
added (s with ss) vs parts = s.adds vs.0 (added ss vs.1 parts)

pub row_has : (left Cs : List Class) (shows : AllShow left Cs) → Has left (Row Cs) (added shows)
row_has left _ none t q vs f parts msg told =
    subst (λ (x : Text). Told left x parts msg) (sym (nil_front f)) told
row_has left _ (◌with◌ {C = C} {Cs = Cs} s ss) t q vs f parts msg told =
    let (u, here, others) = row_head C Cs f in
    s.has t u vs.0 here (added ss vs.1 parts) msg (row_has left Cs ss u q vs.1 others parts msg told)

-- ---- what shows a name, or several

-- the piece itself
abbrev pub a_text : {left : List Class} {C : Class} → SaysOne left (texted C)
a_text {C = C} = shown (texted C) Name (λ p q t is. sym is.2)

abbrev pub a_version : {left : List Class} → SaysOne left (number 999)
a_version = shown (number 999) Version (λ p q n is. is)

abbrev pub a_host : {left : List Class} → Shows left host
a_host = named host (λ v. v) host_named

abbrev pub a_word : {left : List Class} → Shows left word
a_word = named word (λ v. v) (λ p q v is. names_named p v is.4)

pub ruleset outs = (passed, blanks, gap, signs, maybe, listed, first, later, either, at_end)

-- what finds how pieces show what they do
pub ruleset pieces = (none, ◌with◌, outs, one, a_text, such_one, perhaps, a_version, a_host, a_word, such)

-- the id of a process
pub id_has : (left : List Class) → Has left (Row id_row) (λ v parts. Name (id_of v) ∷ parts)
id_has left = row_has left id_row (search pieces depth 9)

abbrev pub an_id : {left : List Class} → SaysOne left process_id
an_id {left} = meant_one (Row id_row) id_of (id_has left)

-- a program's name, and the id of its process
abbrev pub program_parts : ProgramText → List Part → List Part
program_parts p parts = Name p.name ∷ if_there Name p.process parts

pub program_has : (left : List Class) → Has left (Row program_row) (λ v. program_parts (program_of v))
program_has left = row_has left program_row (search (an_id, pieces) depth 9)

abbrev pub a_program : {left : List Class} → Shows left program
a_program {left} = meant (Row program_row) ProgramText program_of program_parts (program_has left)

-- or neither
pub maybe_program : (left : List Class)
    → Has left (optional program) (λ p parts. if_there Name (name_in p) (if_there Name (process_in p) parts))
maybe_program left t q None f parts msg told =
    subst (λ (x : Text). Told left x parts msg) (sym (absent_stays program f)) told
maybe_program left t q (Some p) f parts msg told =
    (a_program {left = left}).has t q p (present_front program f) parts msg told

abbrev pub a_program_or_none : {left : List Class} → Shows left (optional program)
a_program_or_none {left} = record {
  adds = λ p parts. if_there Name (name_in p) (if_there Name (process_in p) parts);
  has = maybe_program left;
}

-- ---- fields, which may be there and empty

module _ (Is : Text → Text → Option Text → Type 0)
    (is_named : (p q : Text) (v : Option Text) → Is p q v → IsNamed p v) where
  abbrev pub NameClass : Class
  NameClass = record { Value = Option Text; Is = Is }

  -- `-` in a field is no text
  pub dash_field : {left : List Class} {t q : Text} {parts : List Part} {msg : Text}
      → Front (optional (spaced NameClass)) t q (Some None) → Told left q parts msg → Told left t parts msg
  dash_field {left} {q = q} {parts = parts} {msg = msg} g told =
      let (r, whole, f) = spaced_parts NameClass (present_front (spaced NameClass) g) in
      subst (λ (x : Text). Told left x parts msg) (sym whole) (signs_before (32 ∷ []) (refl, tt)
      (name_more NameClass None f (is_named f.piece q None f.is) told))

  -- the text of a field, where it tells this
  pub text_field : {left : List Class} {t q : Text} {parts : List Part} {msg : Text} (h : Text)
      → Front (optional (spaced NameClass)) t q (Some (Some h)) → Told left (h ++ q) parts msg
      → Told left t parts msg
  text_field {left} {q = q} {parts = parts} {msg = msg} h g told =
      let (r, whole, f) = spaced_parts NameClass (present_front (spaced NameClass) g) in
      let same = f.whole ∙ ap (λ (x : Text). x ++ q) (sym (is_named f.piece q (Some h) f.is)) in
      subst (λ (x : Text). Told left x parts msg) (sym whole) (signs_before (32 ∷ []) (refl, tt)
      (subst (λ (x : Text). Told left x parts msg) (sym same) told))

-- without a field
pub no_field : {left : List Class} (C : Class) {t q : Text} {parts : List Part} {msg : Text}
    → Front (optional C) t q None → Told left q parts msg → Told left t parts msg
no_field {left} C {parts = parts} {msg = msg} g told =
    subst (λ (x : Text). Told left x parts msg) (sym (absent_stays C g)) told

pub tag_named : (p q : Text) (v : Option Text) → tag_word.Is p q v → IsNamed p v
tag_named p q v is = names_named p v is.3

-- ---- the message at the end

-- a text that is a piece of the class tells these parts, and ends in the message
abbrev pub Ending : (left : List Class) (C : Class) → (C.Value → List Part) → (C.Value → Text) → Type 0
Ending left C parts msg = (t : Text) (v : C.Value) → Front C t [] v → Told left t (parts v) (msg v)

pub record EndsSo (left : List Class) (C : Class) : Type 0 where
  pub parts : C.Value → List Part
  pub msg : C.Value → Text
  pub ends : Ending left C parts msg

-- of a piece with another meaning
pub mapped_found : (left : List Class) (C : Class) (B : Type 0) (meaning : C.Value → B) (parts : B → List Part)
    (msg : B → Text) → Ending left C (λ v. parts (meaning v)) (λ v. msg (meaning v))
    → Ending left (mapped C B meaning) parts msg
mapped_found left C B meaning parts msg ends t b f =
    let (v, is, same) = f.is in
    subst (λ (x : B). Told left t (parts x) (msg x)) (sym same) (ends t v (front_of f.piece f.whole is))

-- a piece that ends the text is the message
pub record IsMessage (C : Class) : Type 0 where
  pub msg : C.Value → Text
  pub is : (p : Text) (v : C.Value) → C.Is p [] v → msg v ≡ p

abbrev pub the_rest : IsMessage rest
the_rest = record { msg = λ v. v; is = λ p v is. is.1 }

abbrev pub begun : {D : Class} → IsMessage (beginning D)
begun = record { msg = λ v. v; is = λ p v is. is.1 }

abbrev pub such_message : {C : Class} {P : C.Value → Type 0} → IsMessage C → IsMessage (such_that C P)
such_message m = record { msg = m.msg; is = λ p v is. m.is p v is.0 }

pub whole_found : {C : Class} (m : IsMessage C) (left : List Class) (t : Text) (v : C.Value) → Ends is_blank t
    → Front C t [] v → Told left t [] (m.msg v)
whole_found {C} m left t v front f =
    let same = m.is f.piece v f.is ∙ whole_of C f in
    subst (λ (x : Text). Told left x [] (m.msg v)) same (record {
      tells = record { pieces = []; whole = refl; each = refl };
      front = subst (Ends is_blank) (sym same) front;
    })

-- all blanks that are there
pub record IsGap (B : Class) : Type 0 where
  pub is : (p q : Text) (v : B.Value) → B.Is p q v → Each is_blank p × Ends is_blank q

pub run_gap : IsGap (run is_blank)
run_gap = record { is = λ p q v is. is }

pub some_gap : IsGap (some_run is_blank)
some_gap = record { is = λ p q v is. (is.1, is.2) }

-- how a row tells its parts: what its pieces show, and the message after blanks, or a piece that ends in it
infixr 20 ◌on◌
pub data Way (left : List Class) : List Class → Type 1 where
  all : {B C : Class} → IsGap B → IsMessage C → Way left (B ∷ C ∷ [])
  ending : {C : Class} → EndsSo left C → Way left (C ∷ [])
  ◌on◌ : {C : Class} {Cs : List Class} → Shows left C → Way left Cs → Way left (C ∷ Cs)

abbrev pub parts_of : {left Cs : List Class} → Way left Cs → Values Cs → List Part
parts_of (all g m) vs = []
parts_of (ending e) vs = e.parts vs.0
parts_of (s on w) vs = s.adds vs.0 (parts_of w vs.1)

abbrev pub msg_of : {left Cs : List Class} → Way left Cs → Values Cs → Text
msg_of (all g m) vs = m.msg vs.1.0
msg_of (ending e) vs = e.msg vs.0
msg_of (s on w) vs = msg_of w vs.1

pub way_ends : {left : List Class} (Cs : List Class) (w : Way left Cs) → Ending left (Row Cs) (parts_of w) (msg_of w)
way_ends {left} _ (all {B = B} {C = C} g m) t vs f =
    let (q, here, more) = row_head B (C ∷ []) f in
    let (blank, front) = g.is here.piece q vs.0 here.is in
    out_more B here (inl (blank_signs here.piece blank)) (whole_found m left q vs.1.0 front (end_of C more))
way_ends _ (ending {C = C} e) t vs f = e.ends t vs.0 (end_of C f)
way_ends _ (◌on◌ {C = C} {Cs = Cs} s w) t vs f =
    let (u, here, others) = row_head C Cs f in
    s.has t u vs.0 here (parts_of w vs.1) (msg_of w vs.1) (way_ends Cs w u vs.1 others)

-- the row says these parts and this message
abbrev pub SaysSo : {left Cs : List Class} → Way left Cs → (Values Cs → List Part) → (Values Cs → Text) → Type 0
SaysSo {Cs = Cs} w parts msg = (vs : Values Cs) → (parts_of w vs ≡ parts vs) × (msg_of w vs ≡ msg vs)

pub so_found : {left : List Class} (Cs : List Class) (w : Way left Cs) (parts : Values Cs → List Part)
    (msg : Values Cs → Text) → SaysSo w parts msg → Ending left (Row Cs) parts msg
so_found {left} Cs w parts msg same t vs f =
    let (says, ends) = same vs in
    subst (λ (x : Text). Told left t (parts vs) x) ends
    (subst (λ (x : List Part). Told left t x (msg_of w vs)) says (way_ends Cs w t vs f))

pub ruleset endings = (all, ◌on◌, ending, run_gap, some_gap, the_rest, begun, such_message)

-- what finds the way of a row
pub ruleset ways = (endings, a_program, a_program_or_none, an_id, pieces)
