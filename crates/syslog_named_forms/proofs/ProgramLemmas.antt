-- A text has one division into each row of a program's line.
use Rattle.syslog_named_forms.proofs.Names.{[], ◌++◌, ◌∙◌, ◌∷◌, ◌≡◌}
use Rattle.syslog_named_forms.proofs.Names.{AllDeterministic, ap, Bool}
use Rattle.syslog_named_forms.proofs.Names.{box_row, Class, drop, Ends}
use Rattle.syslog_named_forms.proofs.Names.{exactly, false, Front, front_of}
use Rattle.syslog_named_forms.proofs.Names.{front_same, host, host_det, host_row}
use Rattle.syslog_named_forms.proofs.Names.{is_blank}
use Rattle.syslog_named_forms.proofs.Names.{is_plain_char}
use Rattle.syslog_named_forms.proofs.Names.{iso_date, IsTrue, List}
use Rattle.syslog_named_forms.proofs.Names.{no_front_no}
use Rattle.syslog_named_forms.proofs.Names.{no_such_meaning, NoFront, Option}
use Rattle.syslog_named_forms.proofs.Names.{program, refl, rest, Row}
use Rattle.syslog_named_forms.proofs.Names.{row_cons, row_det, row_head, row_none_here, rows_none_later, run}
use Rattle.syslog_named_forms.proofs.Names.{serial_row, some_run}
use Rattle.syslog_named_forms.proofs.Names.{subst, such_front, sym, Text, texted}
use Rattle.syslog_named_forms.proofs.Names.{true, Values}
use Rattle.syslog_text.proofs.PieceLemmas.Class.{lasts, rows_split, texted_front}
use Rattle.syslog_named_forms.specs.Programs.{IsSerial}
use Rattle.std.proofs.lemmas.List.{append_cancel_right}
use Rattle.syslog_text.proofs.TextLemmas.Runs.{no_run}
use Rattle.syslog_text.specs.Pieces.Rules.{such_that}
use Rattle.std.specs.Prelude.{MatchBool}
use Rattle.syslog_named_forms.proofs.RowLemmas.{host_row_det}
use Rattle.syslog_named_forms.proofs.Names.{of_forms}

-- ---- a Firebox's line without a host: its first word is where a host is elsewhere
abbrev pub box_front : List Class
box_front = such_that host IsSerial ∷ some_run is_blank ∷ []

abbrev pub box_more : List Class
box_more = exactly (40 ∷ []) ∷ iso_date ∷ exactly (41 ∷ []) ∷ some_run is_blank ∷ program ∷ run is_blank ∷ rest ∷ []

abbrev pub after_host : List Class
after_host = some_run is_plain_char ∷ exactly (32 ∷ []) ∷ exactly (40 ∷ []) ∷ iso_date ∷ exactly (41 ∷ [])
    ∷ some_run is_blank ∷ program ∷ run is_blank ∷ rest ∷ []

pub box_front_det : AllDeterministic box_front
box_front_det = search of_forms depth 24

pub as_serial : {t u : Text} {v : Option Text} → Front (Row host_row) t u (v, (tt, tt)) → IsSerial v
    → Front (Row box_front) t u (v, (tt, tt))
as_serial f is = let (w, first, gap) = row_head host (some_run is_blank ∷ []) f in
    row_cons (such_that host IsSerial) (some_run is_blank ∷ []) (such_front host IsSerial first is) gap

as_host : {t u : Text} {vs : Values box_front} → Front (Row box_front) t u vs → Front (Row host_row) t u vs
as_host f = let (w, first, gap) = row_head (such_that host IsSerial) (some_run is_blank ∷ []) f in
    row_cons host (some_run is_blank ∷ []) (front_of first.piece first.whole first.is.0) gap

pub no_box_alone : {t : Text} → NoFront (Row host_row) t → NoFront (Row box_row) t
no_box_alone n p q v e h = let (u, a, b) = rows_split box_front box_more (front_of p e h) in
    no_front_no (Row host_row) n (as_host a)

pub no_box_word : {t u : Text} {v : Option Text} → Front (Row host_row) t u (v, (tt, tt)) → (IsSerial v → ⊥)
    → NoFront (Row box_row) t
no_box_word f n = let (w, first, gap) = row_head host (some_run is_blank ∷ []) f in
    row_none_here (such_that host IsSerial) (some_run is_blank ∷ box_more)
    (no_such_meaning host IsSerial host_det first n)

pub no_box_open : {t u : Text} {vs : Values host_row} → Front (Row host_row) t u vs → NoFront (exactly (40 ∷ [])) u
    → NoFront (Row box_row) t
no_box_open {u = u} f n p q v e h = let (w, a, b) = rows_split box_front box_more (front_of p e h) in
    let same : w ≡ u = (front_same (Row host_row) (row_det host_row host_row_det) (as_host a) f).0 in
    no_front_no (Row box_more) (row_none_here (exactly (40 ∷ [])) (drop 1 box_more) n)
    (subst (λ (x : Text). Front (Row box_more) x q (lasts box_front box_more v)) same b)

no_plain : {u w : Text} → Front (exactly (40 ∷ [])) u w tt → NoFront (some_run is_plain_char) u
no_plain {u} {w} f = no_run is_plain_char u
    (subst (Ends is_plain_char) (sym (f.whole ∙ ap (λ (x : Text). x ++ w) f.is)) refl) (some_run is_plain_char)
    (λ p q v h. (h.0, h.1))

pub no_serial_open : {t u w : Text} {vs : Values host_row} → Front (Row host_row) t u vs
    → Front (exactly (40 ∷ [])) u w tt → NoFront (Row serial_row) t
no_serial_open f o = rows_none_later host_row after_host host_row_det f
    (row_none_here (some_run is_plain_char) (drop 1 after_host) (no_plain o))

-- ---- a test told
pub test_told : (b x : Bool) → b ≡ x → MatchBool b (IsTrue x) (IsTrue x → ⊥)
test_told true x e = sym e
test_told false x e = λ h. let bad : false ≡ true = e ∙ h in cc

-- what is before the rest is the piece
pub named : (C : Class) {t q name : Text} {v : C.Value} → (f : Front C t q v) → t ≡ name ++ q
    → Front (texted C) t q name
named C {t} {q} {name} f e = subst (λ (x : Text). Front (texted C) t q x)
    (append_cancel_right f.piece name q (sym f.whole ∙ e)) (texted_front C f)
