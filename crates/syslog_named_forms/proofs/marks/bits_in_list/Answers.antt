-- The table is held against the definition at each character of ASCII, by computing.
use Rattle.syslog_named_forms.proofs.Names.{◌≡◌, agree_below, agree_below_at, arith, begins, Bracket, Cef, Dated}
use Rattle.syslog_named_forms.proofs.Names.{get_or, holds, Idrac, Json, Leef, Level, Mark, Pair, PaloAlto, refl}
use Rattle.syslog_named_forms.proofs.Names.{Repeated, Topics, true, ℕ}
use Rattle.syslog_named_forms.specs.declared.marks.TheConstants.{IN_LIST}
use Rattle.syslog_named_forms.proofs.marks.bits_in_list.Goals as goal

agrees : (m : Mark) → agree_below (λ (k : ℕ). holds (get_or IN_LIST k 0) m) (begins m) 128 ≡ true
agrees Cef = refl
agrees Leef = refl
agrees Repeated = refl
agrees PaloAlto = refl
agrees Pair = refl
agrees Json = refl
agrees Idrac = refl
agrees Level = refl
agrees Topics = refl
agrees Bracket = refl
agrees Dated = refl

pub returns-then-c-lt128 : goal.returns-then-c-lt128
returns-then-c-lt128 c m = agree_below_at (λ (k : ℕ). holds (get_or IN_LIST k 0) m) (begins m) 128 c.args.c (agrees m)
    (omega arith)
