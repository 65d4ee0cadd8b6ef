-- A date in brackets: one front of each class, and what a search of the bracket says.
use Rattle.syslog_dated_forms.proofs.Names.{[], ◌∙◌, ◌∷◌, ◌≡◌, AllDeterministic}
use Rattle.syslog_dated_forms.proofs.Names.{chars, day_row, division_front, Each, Front}
use Rattle.syslog_dated_forms.proofs.Names.{front_of, front_same, in_brackets_row, is_open}
use Rattle.syslog_dated_forms.proofs.Names.{IsDeterministic, IsUtf8, List, nat_eq, NoDivision, NoFront}
use Rattle.syslog_dated_forms.proofs.Names.{refl, Row, row_det, stamp_row, subst}
use Rattle.syslog_dated_forms.proofs.Names.{sym, Text, Values, ℕ}
use Rattle.syslog_dated_forms.proofs.Names.{of_forms}
use Rattle.std.specs.Str.{NoCharPasses, NonePass}
use Rattle.std.proofs.lemmas.Str.{chars_from_encodes}
use Rattle.syslog_text.specs.Bodies.Scan.{SplitsRun}
use Rattle.syslog_text.specs.Pieces.Class.{Division}
use Rattle.syslog_text.proofs.PieceLemmas.Class.{front_division, run_same, unique_division}
use Rattle.syslog_dated_forms.specs.InBrackets.{stamp}

pub day_det : AllDeterministic day_row
day_det = search of_forms depth 32

pub stamp_row_det : AllDeterministic stamp_row
stamp_row_det = search of_forms depth 32

stamp_det : IsDeterministic stamp
stamp_det p q p' q' v v' e h h' =
    let same = run_same is_open p q p' q' e h.0.0 h.0.1 h'.0.0 h'.0.1 in
    (same, (unique_division stamp_row stamp_row_det (subst (λ (x : Text). Division stamp_row x v) same h.1) h'.1).1)

pub in_brackets_det : AllDeterministic in_brackets_row
in_brackets_det = search (stamp_det, of_forms) depth 32

-- ---- the text before the bracket

pub stamp_front : {bs xs ys : List ℕ} {v : Values stamp_row} → SplitsRun is_open bs xs ys
    → Division stamp_row (chars xs) v → Front stamp (chars bs) (chars ys) v
stamp_front {xs = xs} s d = front_of (chars xs) s.characters ((s.each, s.ends), d)

pub no_stamp : {bs xs ys : List ℕ} → SplitsRun is_open bs xs ys → NoDivision stamp_row (chars xs)
    → NoFront stamp (chars bs)
no_stamp {xs = xs} {ys = ys} s n p q v e h =
    let same = run_same is_open p q (chars xs) (chars ys) (sym e ∙ s.characters) h.0.0 h.0.1 s.each s.ends in
    n v (subst (λ (x : Text). Division stamp_row x v) same h.1)

pub whole_is : {t q : Text} {vs : Values stamp_row} → Front (Row stamp_row) t q vs → q ≡ [] → Division stamp_row t vs
whole_is {t} {q} {vs} f e = front_division stamp_row (subst (λ (x : Text). Front (Row stamp_row) t x vs) e f)

pub not_whole : {t q : Text} {vs : Values stamp_row} {c : ℕ} {more : Text} → Front (Row stamp_row) t q vs
    → q ≡ c ∷ more → NoDivision stamp_row t
not_whole f e ws d =
    let same = (front_same (Row stamp_row) (row_det stamp_row stamp_row_det) f (division_front stamp_row d)).0 in cc

-- ---- what a search of the bracket says

all_open : (cs : Text) → NonePass (λ d. nat_eq d 93) cs → Each is_open cs
all_open [] n = tt
all_open (c ∷ cs) n = (rw n.0 refl, all_open cs n.1)

pub each_open : (bs : List ℕ) → IsUtf8 bs → NoCharPasses (λ d. nat_eq d 93) bs → Each is_open (chars bs)
each_open bs u (cs, e, n) = rw (← chars_from_encodes cs bs u e) (all_open cs n)
