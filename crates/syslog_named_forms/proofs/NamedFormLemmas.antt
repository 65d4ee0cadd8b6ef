-- What is found in a list of forms, and what forms after a date say.
use Rattle.syslog_named_forms.proofs.Names.{[], ◌++◌, ◌also◌, ◌past◌, ◌then◌, ◌∷◌, ◌≡◌, all_joined, AllDeterministic}
use Rattle.syslog_named_forms.proofs.Names.{any_date_det, beginning, beginning_det, beginning_front, Class}
use Rattle.syslog_named_forms.proofs.Names.{dated_marked_forms, dated_program_forms, device_tails, Dialect, FindsNamed}
use Rattle.syslog_named_forms.proofs.Names.{Front, front_row, graded_tails, here, hosted, hosted_det, inl, is_blank}
use Rattle.syslog_named_forms.proofs.Names.{IsDeterministic, IsOnlySent, List, loose, mapped, mapped_det, Mark}
use Rattle.syslog_named_forms.proofs.Names.{mark_class, marked, marked_of, marked_tails, match_map, message}
use Rattle.syslog_named_forms.proofs.Names.{message_tails, Named, named_value, NamedTexts, no_beginning, no_row}
use Rattle.syslog_named_forms.proofs.Names.{no_row_division, NoDivision, NoFront, None, Option, program_tails, refl}
use Rattle.syslog_named_forms.proofs.Names.{Row, row_cons, row_nil, row_none_here, row_of, rows_join, rows_none_here}
use Rattle.syslog_named_forms.proofs.Names.{rows_none_later, run, run_det, says_once, SentDate, SentValue, Some}
use Rattle.syslog_named_forms.proofs.Names.{some_run_det, tail_forms, Text}
use Rattle.syslog_sent.proofs.DialectLemmas.{in_first, in_second, later, none_joined}
use Rattle.syslog_sent.specs.Forms.{IsOfNone, IsOnlyOf}
use Rattle.syslog_named_forms.specs.NamedForms.{Tail, dated_form, dated_row, says, undated_form, undated_row}
use Rattle.syslog_named_forms.specs.NamedForms.{dated_forms}
use Rattle.syslog_named_forms.specs.NamedFinds.{FindsSaid}
use Rattle.syslog_sent.specs.Sent.{Form}
use Rattle.syslog_sent.specs.declared.dialect.Dialect.TheVariants as dialect

-- ---- forms after a date

pub front_det : AllDeterministic front_row
front_det = run_det is_blank also any_date_det also some_run_det is_blank also tt

module _ (dialect : Dialect) (C : Class) (names : C.Value → NamedTexts) {text rest : Text} {d : SentDate}
    (f : Front (Row front_row) text rest (tt, (d, (tt, tt)))) where
  pub none_after : NoFront (mapped C NamedTexts names) rest → NoDivision (dated_row C names) text
  none_after n = no_row_division (dated_row C names)
      (rows_none_later front_row (mapped C NamedTexts names ∷ []) front_det f
      (row_none_here (mapped C NamedTexts names) [] n))

  pub said_after : IsDeterministic C → {v : NamedTexts} {s : SentValue} → Front (mapped C NamedTexts names) rest [] v
      → s ≡ says d v → IsOnlySent (dated_form dialect C names) text s
  said_after det g e = let last = mapped C NamedTexts names ∷ [] in
      says_once dialect (dated_row C names) (λ vs. says vs.1.0 vs.1.1.1.0)
      (all_joined front_row last front_det (mapped_det C NamedTexts names det also tt))
      (rows_join front_row last f (row_cons (mapped C NamedTexts names) [] g (row_nil []))) e

-- where there is no such date, no form of the list divides the text
pub none_undated : (Ts : List Tail) {text : Text} → NoFront (Row front_row) text → IsOfNone (tail_forms Ts) text
none_undated [] n = tt
none_undated (T ∷ Ts) n = (
  no_row_division (dated_row T.after T.names) (rows_none_here front_row (mapped T.after NamedTexts T.names ∷ []) n),
  none_undated Ts n,
)

module _ (T : Tail) (Fs : List Form) {text rest : Text} {d : SentDate}
    (f : Front (Row front_row) text rest (tt, (d, (tt, tt)))) where
  -- the first form of a list
  pub tail_here : IsDeterministic T.after → {v : NamedTexts} {s : SentValue}
      → Front (mapped T.after NamedTexts T.names) rest [] v → s ≡ says d v
      → IsOnlyOf (dated_form T.dialect T.after T.names ∷ Fs) text T.dialect s
  tail_here det {s = s} g e = here (dated_form T.dialect T.after T.names) Fs text s
      (said_after T.dialect T.after T.names f det g e)

  -- a form after the first one
  pub named_later : (r : Option (Dialect × Named)) → NoFront (mapped T.after NamedTexts T.names) rest
      → FindsSaid Fs d text r → FindsSaid (dated_form T.dialect T.after T.names ∷ Fs) d text r
  named_later r n = let none = none_after T.dialect T.after T.names f n in
      match_map r (λ more. (none, more)) (λ x is. later (dated_form T.dialect T.after T.names) Fs text x.0
      (says d (named_value x.1)) none is)

-- ---- a message without a date

pub undated_det : (m : Mark) → AllDeterministic (undated_row m)
undated_det m = run_det is_blank also beginning_det (mark_class m) also tt

module _ (m : Mark) {text msg : Text} (gap : Front (run is_blank) text msg tt) where
  pub no_undated : NoFront (mark_class m) msg → NoDivision (undated_row m) text
  no_undated n =
      no_row_division (undated_row m) (no_row (undated_row m) (undated_det m) (gap past inl (no_beginning n)))

  pub undated_said : (dialect : Dialect) {r : Text} {v : (mark_class m).Value} {s : SentValue}
      → Front (mark_class m) msg r v → s ≡ loose None None None None msg → IsOnlySent (undated_form dialect m) text s
  undated_said dialect f e = says_once dialect (undated_row m) (λ vs. loose None None None None vs.1.0) (undated_det m)
      (row_of (undated_row m) (gap then beginning_front f then refl)) e

-- ---- one front of each

pub marked_det : (m : Mark) → IsDeterministic (hosted (beginning (mark_class m)))
marked_det m = hosted_det (beginning (mark_class m)) (beginning_det (mark_class m))

not_marked : (m : Mark) {text rest : Text} {d : SentDate} → Front (Row front_row) text rest (tt, (d, (tt, tt)))
    → NoFront (message m) rest → NoDivision (dated_row (marked m) marked_of) text
not_marked m f n = none_after dialect.Repeated (marked m) marked_of f n

-- where no message without a program begins what follows the date, the text is of none of their forms
pub none_of_marks : (ms : List Mark) {text rest : Text} {d : SentDate}
    → Front (Row front_row) text rest (tt, (d, (tt, tt))) → ((m : Mark) → NoFront (message m) rest)
    → IsOfNone (tail_forms (marked_tails ms)) text
none_of_marks [] f n = tt
none_of_marks (m ∷ ms) f n = (not_marked m f (n m), none_of_marks ms f n)

-- ---- what is found after a date, as names

-- by such tails, and then by other forms; a record, so that the goal tells which tails these are
pub record FoundAfter (Ts : List Tail) (Fs : List Form) (rest : Text) (r : Option (Dialect × Named)) : Type 0 where
  pub finds : FindsNamed (tail_forms Ts ++ Fs) rest r

-- the text is of the first form
pub first_tail : {T : Tail} {Ts : List Tail} {Fs : List Form} {rest : Text} → IsDeterministic T.after → (named : Named)
    → Front (mapped T.after NamedTexts T.names) rest [] (named_value named)
    → FoundAfter (T ∷ Ts) Fs rest (Some (T.dialect, named))
first_tail {T} {Ts} {Fs} det named g =
    record { finds = λ d text front. tail_here T (tail_forms Ts ++ Fs) front det g refl }

-- or it is not, and the others are tried
infixr 20 ◌before◌
pub ◌before◌ : {T : Tail} {Ts : List Tail} {Fs : List Form} {rest : Text} {r : Option (Dialect × Named)}
    → NoFront (mapped T.after NamedTexts T.names) rest → FoundAfter Ts Fs rest r → FoundAfter (T ∷ Ts) Fs rest r
◌before◌ {T} {Ts} {Fs} {r = r} n h =
    record { finds = λ d text front. named_later T (tail_forms Ts ++ Fs) front r n (h.finds d text front) }

pub no_tail : {rest : Text} → FoundAfter [] [] rest None
no_tail = record { finds = λ d text front. tt }

-- what the readers of the forms return, then
pub found_after : (Ts : List Tail) (Fs : List Form) {rest : Text} {r : Option (Dialect × Named)}
    → FoundAfter Ts Fs rest r → FindsNamed (tail_forms Ts ++ Fs) rest r
found_after Ts Fs h = h.finds

-- by the forms of two lists
pub named_early : (Fs Gs : List Form) (d : SentDate) (text : Text) (x : Dialect × Named) → FindsSaid Fs d text (Some x)
    → FindsSaid (Fs ++ Gs) d text (Some x)
named_early Fs Gs d text x is = in_first Fs Gs text x.0 (says d (named_value x.1)) is

pub named_late : (Fs Gs : List Form) (d : SentDate) (text : Text) (r : Option (Dialect × Named)) → IsOfNone Fs text
    → FindsSaid Gs d text r → FindsSaid (Fs ++ Gs) d text r
named_late Fs Gs d text None none more = none_joined Fs Gs text none more
named_late Fs Gs d text (Some x) none is = in_second Fs Gs text x.0 (says d (named_value x.1)) none is

-- where there is no such date
pub none_dated : {text : Text} → NoFront (Row front_row) text → IsOfNone dated_forms text
none_dated {text} n = none_joined (tail_forms graded_tails) dated_marked_forms text (none_undated graded_tails n)
    (none_joined (tail_forms message_tails) dated_program_forms text (none_undated message_tails n)
    (none_joined (tail_forms program_tails) (tail_forms device_tails) text (none_undated program_tails n)
    (none_undated device_tails n)))
