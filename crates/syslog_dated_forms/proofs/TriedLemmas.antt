-- Forms that are tried one after the other, each where those before it found nothing.
use Rattle.syslog_dated_forms.proofs.Names.{[], ◌++◌, ◌∷◌, ◌≡◌, Dialect, Finds, Form, here, IsLed, IsOfNone, Led, List}
use Rattle.syslog_dated_forms.proofs.Names.{match_map, MatchOption, NoDivision, None, Option, Sent, sent_value, Some}
use Rattle.syslog_dated_forms.proofs.Names.{subst, sym, Text}
use Rattle.syslog_sent.proofs.FormLemmas.{found_later}
use Rattle.syslog_dated_forms.proofs.LedFormLemmas.{found_alone}
use Rattle.syslog_sent.specs.Sent.{Sends}

-- what a reader of forms returns
abbrev pub Answer : Type 0
Answer = Option (Dialect × Sent)

-- the answer after that of a form's reader is looked at
abbrev pub Turn : Form → Text → Answer → Answer → Type 0
Turn F text r m = MatchOption r
    ((x : Option Sent) × Sends F text x × MatchOption x (m ≡ None) (λ s. m ≡ Some (F.dialect, s))) (λ y. m ≡ Some y)

-- the answers from the first form on to the last
infixr 20 ◌turn◌
infixr 20 ◌pass◌
pub data Tried (text : Text) : List Form → Answer → Answer → Type 1 where
  over : {r : Answer} → Tried text [] r r
  ◌pass◌ : {F : Form} {Fs : List Form} {r l : Answer} → NoDivision F.row text → Tried text Fs r l
      → Tried text (F ∷ Fs) r l
  ◌turn◌ : {F : Form} {Fs : List Form} {r m l : Answer} → Turn F text r m → Tried text Fs m l → Tried text (F ∷ Fs) r l

-- what was found stays
kept : {text : Text} {Fs : List Form} {r l : Answer} (y : Dialect × Sent) → Tried text Fs r l → r ≡ Some y → l ≡ Some y
kept y over e = e
kept y (n pass t) e = kept y t e
kept {text} y (◌turn◌ {F} {m = m} h t) e = kept y t (subst (λ (z : Answer). Turn F text z m) e h)

one : (F : Form) (Fs : List Form) (text : Text) (l m : Answer) (x : Option Sent) → Sends F text x
    → MatchOption x (m ≡ None) (λ s. m ≡ Some (F.dialect, s)) → (m ≡ None → Finds Fs text l)
    → ((y : Dialect × Sent) → m ≡ Some y → l ≡ Some y) → Finds (F ∷ Fs) text l
one F Fs text l m None none e later stays = found_later F Fs text l none (later e)
one F Fs text l m (Some s) is e later stays = subst (λ (z : Answer). Finds (F ∷ Fs) text z) (sym (stays _ e))
    (here F Fs text (sent_value s) is)

pub tried : {text : Text} {Fs : List Form} {r l : Answer} → Tried text Fs r l → r ≡ None → Finds Fs text l
tried {text} over e = subst (λ (z : Answer). Finds [] text z) (sym e) tt
tried {text} (◌pass◌ {F} {Fs} {l = l} n t) e = found_later F Fs text l n (tried t e)
tried {text} (◌turn◌ {F} {Fs} {m = m} {l = l} h t) e =
    let (x, s, k) = subst (λ (z : Answer). Turn F text z m) e h in
    one F Fs text l m x s k (λ f. tried t f) (λ y f. kept y t f)

-- what a reader that is given the date says of each text that begins with it
pub led_turn : (F : Form) {text : Text} {led : Led} (r m : Answer) → IsLed text led → MatchOption r
    ((x : Option Sent) × ((t : Text) → IsLed t led → Sends F t x)
    × MatchOption x (m ≡ None) (λ s. m ≡ Some (F.dialect, s))) (λ y. m ≡ Some y) → Turn F text r m
led_turn F {text} r m is = match_map r (λ (x, s, e). (x, s text is, e)) (λ y e. e)

-- where the text is of none of the forms after those that were tried
pub none_after : {text : Text} (Fs Gs : List Form) {r l : Answer} → IsOfNone Gs text → Tried text Fs r l → r ≡ None
    → Finds (Fs ++ Gs) text l
none_after Fs Gs {l = l} none t e = found_alone Fs Gs _ l none (tried t e)
