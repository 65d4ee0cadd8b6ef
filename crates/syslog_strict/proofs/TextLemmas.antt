-- Texts that are appended: cleaned, cut, one character after the other, and the pieces of a line.
use Rattle.syslog_strict.proofs.Words.{timestamp_text, ◌≡◌, converted_word, append_assoc, chars-append, process_text}
use Rattle.syslog_strict.proofs.Words.{append-nil, encode_utf8, MessageValue, priority_of, ℕ, chars-nil, name_text}
use Rattle.syslog_strict.proofs.Words.{front_text, false, length, Option, IsUtf8, decimal, Bool, true, List, ◌++◌, Some}
use Rattle.syslog_strict.proofs.Words.{None, refl, cond, Text, ◌∷◌, sym, ap, ◌∙◌, nat_eq, empty_is, []}
use Rattle.std.specs.{Fmt.digits, Borrow.Bor, Char.IsScalar, Option.option_and_then, Result.is_ok, Str.chars}
use Rattle.syslog_strict.specs.Pushing.{data_text}
use Rattle.std.proofs.Common.{Result, Ok, Err, OnOk, is_some}
use Rattle.syslog_text.specs.Pieces.View.{seen}
use Rattle.std.proofs.{lemmas.List.nil_from_length, lemmas.Str.chars_past_char, lemmas.Str.IsUtf8-encode}
use Rattle.syslog_loose.specs.Printed.{elements_text, printed_5424}

-- ---- texts that grow

pub pushed : {T E : Type 0} (r : Result T E) (bytes old now : List ℕ) → IsUtf8 old
    → now ≡ cond (is_ok r) (old ++ bytes) old → OnOk r (chars now ≡ chars old ++ chars bytes)
pushed (Ok x) bytes old now u e = ap chars e ∙ chars-append old bytes u
pushed (Err x) bytes old now u e = tt

-- another spelling of what was appended
pub appended : {T E : Type 0} (r : Result T E) (old new a b : Text) → a ≡ b → OnOk r (new ≡ old ++ a)
    → OnOk r (new ≡ old ++ b)
appended (Ok x) old new a b e h = h ∙ ap (λ (y : Text). old ++ y) e
appended (Err x) old new a b e h = tt

pub one_char : (c : ℕ) → IsScalar c → chars (encode_utf8 c) ≡ c ∷ []
one_char c s =
    chars_past_char (encode_utf8 c) [] c (IsUtf8-encode c s) (sym (append-nil (encode_utf8 c)))
    ∙ ap (λ (y : List ℕ). c ∷ y) chars-nil

-- a test whether nothing is left
pub nothing_shown : (bs : List ℕ) (b : Bool) → b ≡ nat_eq (length bs) 0 → b ≡ true → chars bs ≡ []
nothing_shown bs b e h = ap chars (nil_from_length bs (empty_is _ (sym h ∙ e))) ∙ chars-nil

-- ---- the pieces of a converted line, one after the other

-- what was appended to no text
pub started : (old new a : Text) → new ≡ old ++ a → old ≡ chars [] → new ≡ a
started old new a e none = e ∙ ap (λ (x : Text). x ++ a) (none ∙ chars-nil)

abbrev space : Text
space = 32 ∷ []

-- ` - - `
pub no_data : (m : MessageValue) → m.msgid ≡ None → m.structured_data ≡ []
    → chars (32 ∷ 45 ∷ 32 ∷ 45 ∷ 32 ∷ []) ≡ data_text m
unfolding chars
no_data m id elements = rw (id, elements) refl

-- an absent message id stays absent
pub no_word : (word : Option (Bor (List ℕ))) → is_some word ≡ false
    → option_and_then (converted_word 32) (seen word) ≡ None
no_word None none = refl
no_word (Some word) none = cc

pieces : (front host app process id elements msg : Text)
    → (((((((front ++ space) ++ host) ++ space) ++ app) ++ space) ++ process)
    ++ (32 ∷ (id ++ (32 ∷ (elements ++ space))))) ++ msg
    ≡ front ++ (32 ∷ (host ++ (32 ∷ (app ++ (32 ∷ (process ++ (32 ∷ (id ++ (32 ∷ (elements ++ (32 ∷ msg)))))))))))
pieces front host app process id elements msg = simp append_assoc refl

pub one : decimal 1 ≡ 49 ∷ []
unfolding digits
one = refl

front_before : (p stamp more : Text) → (60 ∷ (p ++ (62 ∷ 49 ∷ 32 ∷ stamp))) ++ more
    ≡ 60 ∷ (p ++ (62 ∷ (decimal 1 ++ (32 ∷ (stamp ++ more)))))
front_before p stamp more = simp append_assoc (rw one refl)

-- what was appended to no text, piece by piece, is the printed message
pub line_joined : (m : MessageValue) (t0 t1 t2 t3 t4 t5 t6 t7 t8 t9 : Text) → t0 ≡ []
    → t1 ≡ t0 ++ front_text (priority_of m) (timestamp_text m.timestamp) → t2 ≡ t1 ++ space
    → t3 ≡ t2 ++ name_text m.hostname → t4 ≡ t3 ++ space → t5 ≡ t4 ++ name_text m.appname → t6 ≡ t5 ++ space
    → t7 ≡ t6 ++ process_text m.procid → t8 ≡ t7 ++ data_text m → t9 ≡ t8 ++ m.msg → t9 ≡ printed_5424 1 m
unfolding printed_5424
line_joined m t0 t1 t2 t3 t4 t5 t6 t7 t8 t9 e0 e1 e2 e3 e4 e5 e6 e7 e8 e9 =
    rw (e9, e8, e7, e6, e5, e4, e3, e2, e1, e0)
    (pieces (front_text (priority_of m) (timestamp_text m.timestamp)) (name_text m.hostname) (name_text m.appname)
    (process_text m.procid) (name_text m.msgid) (elements_text m.structured_data) m.msg
    ∙ front_before (decimal (priority_of m)) (timestamp_text m.timestamp) _)
