-- A text has one front of each class of a date.
use Rattle.std.proofs.Common.{◌≡◌, inl, inr, ℕ, Bool, true, false, [], ◌∷◌, sym, subst, ◌∙◌}
use Rattle.syslog_text.specs.Pieces.Class.{Text, Class, Front, NoFront, IsDeterministic, Row}
use Rattle.syslog_text.proofs.PieceLemmas.Class.{AllDeterministic, mapped_det}
use Rattle.syslog_text.proofs.PieceLemmas.Class.{row_det}
use Rattle.syslog_text.proofs.PieceLemmas.Class.{front_of, no_front_no}
use Rattle.syslog_sent.specs.Named.{BeginsWith}
use Rattle.std.proofs.lemmas.Bool.{cases_Bool}
use Rattle.syslog_text.specs.Pieces.Class.{Ends}
use Rattle.syslog_sent.specs.Date.{fraction_row, late_fraction_row}
use Rattle.syslog_sent.specs.Date.{bsd_row}
use Rattle.syslog_sent.specs.Date.{iso_row, iso_of, iso_date, unless}
use Rattle.syslog_sent.specs.Date.{any_date}
use Rattle.syslog_sent.specs.declared.sent.SentDate.{SentDate}
use Rattle.syslog_sent.proofs.Determined.{determined}
use Rattle.syslog_sent.proofs.ZoneLemmas.{zone_det}

pub fraction_row_det : AllDeterministic fraction_row
fraction_row_det = search determined depth 60

pub late_fraction_row_det : AllDeterministic late_fraction_row
late_fraction_row_det = search determined depth 60

pub bsd_det : AllDeterministic bsd_row
bsd_det = search (zone_det, determined) depth 60

pub iso_det : AllDeterministic iso_row
iso_det = search (zone_det, determined) depth 60 fits 3000

pub iso_date_det : IsDeterministic iso_date
iso_date_det = mapped_det (Row iso_row) SentDate iso_of (row_det iso_row iso_det)

pub any_date_det : IsDeterministic any_date
any_date_det = search (bsd_det, iso_date_det, determined) depth 60

-- ---- a front of a class where there is none of another
pub unless_front : (C D : Class) {t q : Text} {v : D.Value} → NoFront C t → Front D t q v → Front (unless C D) t q v
unless_front C D n f = front_of f.piece f.whole (subst (λ (x : Text). NoFront C x) f.whole n, f.is)

pub no_unless : (C D : Class) {t r : Text} {w : C.Value} → Front C t r w → NoFront (unless C D) t
no_unless C D {r = r} {w = w} f p q v e h = no_front_no C h.0 (subst (λ (x : Text). Front C x r w) e f)

pub no_unless_later : (C D : Class) {t : Text} → NoFront D t → NoFront (unless C D) t
no_unless_later C D n p q v e h = n p q v e h.1

-- ---- what follows a month date, as a test
pub not_plain : (b : Bool) → true ≡ b → b ≡ false → ⊥
not_plain b e h = let f : true ≡ false = e ∙ h in cc

pub odd_told : (b : Bool) → false ≡ b → b ≡ false
odd_told b e = sym e

-- no run begins with a character that fails the test
pub not_begun : (test : ℕ → Bool) (t : Text) → (BeginsWith test t → ⊥) → Ends test t
not_begun test [] n = tt
not_begun test (c ∷ cs) n = elim (cases_Bool (test c)) [ inl is ↦ absurd (n is) | inr other ↦ other ]
