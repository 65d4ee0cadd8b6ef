-- A text has one front of each class of marks.
use Rattle.syslog_named_forms.proofs.Names.{[], ◌++◌, ◌otherwise◌, ◌∙◌, ◌∷◌, ◌≡◌, AfterHost, ap, AreMarks, arith}
use Rattle.syslog_named_forms.proofs.Names.{beginning, begins, begins_other, Bool, Bracket, Cef, Class, codes}
use Rattle.syslog_named_forms.proofs.Names.{dashed_row, Dated, each_map, Ends, exactly, false, Front, front_of}
use Rattle.syslog_named_forms.proofs.Names.{front_same, heads, holds, host_row, Idrac, inl, inr, is_blank, is_level}
use Rattle.syslog_named_forms.proofs.Names.{is_month, is_not_whitespace, is_plain_char, is_word_char, IsTrue, Json}
use Rattle.syslog_named_forms.proofs.Names.{later_topic_row, Leef, Level, List, Mark, mark_class, marked, marked_of}
use Rattle.syslog_named_forms.proofs.Names.{message, month_row, NamedTexts, nat_tests, no_beginning, no_mapped}
use Rattle.syslog_named_forms.proofs.Names.{no_otherwise, NoFront, None, number_row, Option, optional, Pair, pair}
use Rattle.syslog_named_forms.proofs.Names.{pair_row, palo_alto_row, PaloAlto, ReadsHost, refl, Repeated, repeated_tail}
use Rattle.syslog_named_forms.proofs.Names.{repeats_row, Row, row_none_here, row_pieces, rows_none_here}
use Rattle.syslog_named_forms.proofs.Names.{rows_none_later, run, run_det, slashed_row, Some, some_run, SplitsRun}
use Rattle.syslog_named_forms.proofs.Names.{subst, sym, Text, topic_row, Topics, topics_row, true, Values, ℕ}
use Rattle.std.specs.Prelude.{◌&&◌, ◌+◌, ◌/◌, chars, drop, nat_le}
use Rattle.syslog_text.specs.Pieces.Class.{after, join}
use Rattle.syslog_text.proofs.PieceLemmas.Lists.{Begins, begins as begins_with_it}
use Rattle.syslog_text.proofs.PieceLemmas.Rules.{Opens, row_opens}
use Rattle.syslog_named_forms.specs.Untagged.{here, repeated_row, repeats, main_topic, AreAll, ends_list, angle}
use Rattle.syslog_named_forms.specs.Untagged.{clock_row, day, month_word, name_or_end}
use Rattle.syslog_pieces.specs.Timestamp.Rfc3339.{year}
use Rattle.syslog_sent.specs.Runs.{is_either_char}
use Rattle.syslog_sent.specs.Date.{unless}
use Rattle.syslog_named_forms.specs.declared.marks.MessageMarks.{MessageMarks}
use Rattle.syslog_named_forms.proofs.RowLemmas.{host_row_det}
use Rattle.std.specs.Char.{is_ascii_digit}

-- ---- what a mark begins with

-- a text of the class begins with a character that passes the test
abbrev Starts : Class → (ℕ → Bool) → Type 0
Starts C test = Opens C (λ c. test c ≡ true)

run_starts : (test : ℕ → Bool) → Starts (some_run test) test
run_starts test [] q v (h, e, f) = absurd (omega (arith, h))
run_starts test (c ∷ p) q v (h, e, f) = (c, p, refl, e.0)

first_optional : (C : Class) (Cs : List Class) (H : ℕ → Type 0) → Opens C H → Opens (Row Cs) H
    → Opens (Row (optional C ∷ Cs)) H
first_optional C Cs H o k p q vs ([], e, h) = absurd h
first_optional C Cs H o k p q (None, vs) (a ∷ ps, e, (n, h)) =
    let (c, t, f, g) = k (join ps) q vs (ps, refl, h) in (c, t, e ∙ ap (λ (x : Text). x ++ join ps) n.0 ∙ f, g)
first_optional C Cs H o k p q (Some v, vs) (a ∷ ps, e, (n, h)) =
    let (c, t, f, g) = o a (join ps ++ q) v n in (c, t ++ join ps, e ∙ ap (λ (x : Text). x ++ join ps) f, g)

otherwise_opens : {C D : Class} (H : ℕ → Type 0) → Opens C H → Opens D H → Opens (C otherwise D) H
otherwise_opens H o k p q (inl v) h = o p q v h
otherwise_opens H o k p q (inr w) h = k p q w h.1

-- a capital letter up to S
abbrev IsInitial : ℕ → Type 0
IsInitial c = IsTrue (nat_le 65 c && nat_le c 83)

month_starts : (c : ℕ) (t : Text) → IsTrue (is_month (c ∷ t)) → IsInitial c
month_starts c t h = grind (arith, nat_tests)

month_opens : Opens (Row month_row) IsInitial
month_opens = row_opens month_word (drop 1 month_row) IsInitial (λ p q v ((u, h, e), k).
    let (c, t, f, g) = run_starts is_plain_char p q u h in
    (c, t, f, month_starts c t (subst (λ (x : Text). IsTrue (is_month x)) (e ∙ f) k)))

initial_begins : (c : ℕ) → IsInitial c → begins Dated c ≡ true
initial_begins c h = grind (arith, nat_tests, h)

level_starts : (c : ℕ) (t : Text) → IsTrue (is_level (c ∷ t)) → IsTrue (nat_le 67 c && nat_le c 87)
level_starts c t h = grind (arith, nat_tests)

abbrev after_comma : List Class
after_comma =
    year ∷ after 47 (pair 100) ∷ after 47 (pair 100) ∷ exactly (32 ∷ []) ∷ pair 100 ∷ after 58 (pair 100)
    ∷ after 58 (pair 100) ∷ exactly (44 ∷ []) ∷ []

abbrev more_of_palo_alto : List Class
more_of_palo_alto = exactly (44 ∷ []) ∷ after_comma

-- the text that it is begins with the character
exact : (c : ℕ) (t : Text) (test : ℕ → Bool) → test c ≡ true → Starts (exactly (c ∷ t)) test
exact c t test h p q v e = (c, t, e, h)

year_starts : Starts year is_ascii_digit
year_starts p q n (e, fits) = (48 + n / 100 / 10, _, e, grind (arith, nat_tests, fits))

clock_opens : Starts (Row clock_row) is_ascii_digit
clock_opens = row_opens day (drop 1 clock_row) (λ c. is_ascii_digit c ≡ true)
    (otherwise_opens {C = Row dashed_row} {D = Row slashed_row} (λ c. is_ascii_digit c ≡ true)
    (row_opens year (drop 1 dashed_row) (λ c. is_ascii_digit c ≡ true) year_starts)
    (row_opens year (drop 1 slashed_row) (λ c. is_ascii_digit c ≡ true) year_starts))

digit_begins : (c : ℕ) → is_ascii_digit c ≡ true → begins Dated c ≡ true
digit_begins c h = grind (arith, nat_tests, h)

opens : (m : Mark) → Starts (mark_class m) (begins m)
opens Cef = row_opens (exactly (codes "CEF:")) (run is_blank ∷ some_run is_ascii_digit ∷ exactly (124 ∷ []) ∷ [])
    (λ c. begins Cef c ≡ true) (exact 67 (codes "EF:") (begins Cef) refl)
opens Leef = row_opens (exactly (codes "LEEF:"))
    (run is_blank ∷ some_run is_ascii_digit ∷ exactly (46 ∷ []) ∷ some_run is_ascii_digit ∷ exactly (124 ∷ []) ∷ [])
    (λ c. begins Leef c ≡ true) (exact 76 (codes "EEF:") (begins Leef) refl)
opens Repeated = otherwise_opens {C = Row repeated_row} {D = Row repeats_row otherwise here} (λ c. begins Repeated
    c ≡ true)
    (first_optional (exactly (codes "last ")) repeated_tail (λ c. begins Repeated c ≡ true)
    (exact 108 (codes "ast ") (begins Repeated) refl)
    (row_opens (exactly (codes "message repeated ")) (some_run is_ascii_digit ∷ exactly (codes " time") ∷ [])
    (λ c. begins Repeated c ≡ true) (exact 109 (codes "essage repeated ") (begins Repeated) refl)))
    (otherwise_opens {C = Row repeats_row} {D = here} (λ c. begins Repeated c ≡ true)
    (row_opens repeats (some_run is_ascii_digit ∷ exactly (codes " time") ∷ []) (λ c. begins Repeated c ≡ true)
    (otherwise_opens {C = exactly (codes "--- last message repeated ")} {D = exactly (codes "above message repeats ")}
    (λ c. begins Repeated c ≡ true) (exact 45 (codes "-- last message repeated ") (begins Repeated) refl)
    (exact 97 (codes "bove message repeats ") (begins Repeated) refl)))
    (exact 45 (codes "- MARK --") (begins Repeated) refl))
opens PaloAlto = row_opens (some_run is_ascii_digit) more_of_palo_alto (λ c. begins PaloAlto c ≡ true)
    (run_starts is_ascii_digit)
opens Pair = row_opens (some_run is_word_char) (exactly (61 ∷ []) ∷ []) (λ c. begins Pair c ≡ true)
    (run_starts is_word_char)
opens Json = row_opens (exactly (123 ∷ [])) (run is_blank ∷ name_or_end ∷ []) (λ c. begins Json c ≡ true)
    (exact 123 [] (begins Json) refl)
opens Idrac = exact 83 (codes "everity: ") (begins Idrac) refl
opens Level = λ p q v ((u, h, e), k). let (c, t, f, g) = run_starts is_not_whitespace p q u h in
    (c, t, f, level_starts c t (subst (λ (x : Text). IsTrue (is_level x)) (e ∙ f) k))
opens Topics = row_opens (Row topic_row) ((main_topic otherwise Row later_topic_row) ∷ []) (λ c. begins Topics c ≡ true)
    (row_opens (some_run is_plain_char) (exactly (44 ∷ []) ∷ []) (λ c. begins Topics c ≡ true)
    (run_starts is_plain_char))
opens Bracket = otherwise_opens {C = unless (Row number_row) (exactly (91 ∷ []))} {D = angle}
    (λ c. begins Bracket c ≡ true) (λ p q v h. (91, [], h.1, refl))
    (otherwise_opens {C = exactly (60 ∷ [])} {D = exactly (34 ∷ [])} (λ c. begins Bracket c ≡ true)
    (exact 60 [] (begins Bracket) refl) (exact 34 [] (begins Bracket) refl))
opens Dated = otherwise_opens {C = Row clock_row} {D = Row month_row} (λ c. begins Dated c ≡ true)
    (λ p q v h. let (c, t, f, g) = clock_opens p q v h in (c, t, f, digit_begins c g))
    (λ p q v h. let (c, t, f, g) = month_opens p q v h in (c, t, f, initial_begins c g))

-- a text that begins otherwise has none
pub no_mark : (m : Mark) {t more : Text} {c : ℕ} → t ≡ c ∷ more → false ≡ begins m c → NoFront (mark_class m) t
no_mark m {more = more} {c = c} e fails p q v f h = let (d, r, g, k) = opens m p q v h in
    let same : c ≡ d = heads c d more (r ++ q) (sym e ∙ f ∙ ap (λ (x : Text). x ++ q) g) in
    let bad : true ≡ false = sym k ∙ ap (begins m) (sym same) ∙ sym fails in cc

pub no_mark_empty : (m : Mark) {t : Text} → t ≡ [] → NoFront (mark_class m) t
no_mark_empty m e p q v f h = let (d, r, g, k) = opens m p q v h in
    let bad : [] ≡ d ∷ (r ++ q) = sym e ∙ f ∙ ap (λ (x : Text). x ++ q) g in cc

-- ---- what follows a key, a number or a topic

-- a run before a character that the wider run lacks: the wider run ends before it too
run_ends : (test wide : ℕ → Bool) (d : ℕ) (Cs : List Class) → ((c : ℕ) → test c ≡ true → wide c ≡ true)
    → wide d ≡ false → {t u r : Text} {vs : Values (some_run test ∷ exactly (d ∷ []) ∷ Cs)} → Front (run wide) t u tt
    → Front (Row (some_run test ∷ exactly (d ∷ []) ∷ Cs)) t r vs → Begins (λ c. c ≡ d) u
run_ends test wide d Cs among stops {u = u} w f =
    let (a, x, (b, y, more)) = row_pieces (some_run test ∷ exactly (d ∷ []) ∷ Cs) f in
    let is = begins_with_it d a b y in
    let at_sign : Ends wide a = rw is stops in
    let same = (front_same (run wide) (run_det wide)
    (front_of x.piece x.whole (each_map test wide among x.piece x.is.1, at_sign)) w).0 in
    subst (λ (z : Text). Begins (λ c. c ≡ d) z) same (rw is refl)

word_either : (c : ℕ) → is_word_char c ≡ true → is_either_char c ≡ true
word_either c h = grind (arith, nat_tests, h)

plain_either : (c : ℕ) → is_plain_char c ≡ true → is_either_char c ≡ true
plain_either c h = grind (arith, nat_tests, h)

digit_either : (c : ℕ) → is_ascii_digit c ≡ true → is_either_char c ≡ true
digit_either c h = grind (arith, nat_tests, h)

module _ {t u : Text} (w : Front (run is_either_char) t u tt) where
  no_pair : (Begins (λ c. c ≡ 61) u → ⊥) → NoFront (Row pair_row) t
  no_pair n p q vs e h = n (run_ends is_word_char is_either_char 61 [] word_either refl w (front_of p e h))

  no_topics : (Begins (λ c. c ≡ 44) u → ⊥) → NoFront (Row topics_row) t
  no_topics n p q vs e h = let (a, f, more) = row_pieces topics_row (front_of p e h) in
      n (run_ends is_plain_char is_either_char 44 [] plain_either refl w f)

  no_palo_alto : (Begins (λ c. c ≡ 44) u → ⊥) → NoFront (Row palo_alto_row) t
  no_palo_alto n p q vs e h =
      n (run_ends is_ascii_digit is_either_char 44 after_comma digit_either refl w (front_of p e h))

  pub no_list : (Begins (λ c. c ≡ 61) u → ⊥) → (Begins (λ c. c ≡ 44) u → ⊥) → NoFront (Row pair_row) t
      × (NoFront (Row topics_row) t × NoFront (Row palo_alto_row) t)
  no_list n k = (no_pair n, (no_topics k, no_palo_alto k))

-- what the character after the run says
either_run : {bs xs ys : List ℕ} → SplitsRun is_either_char bs xs ys → Front (run is_either_char) (chars bs)
    (chars ys) tt
either_run {xs = xs} s = front_of (chars xs) s.characters (s.each, s.ends)

not_begun : (c d : ℕ) (t more : Text) → t ≡ c ∷ more → (c ≡ d → ⊥) → Begins (λ x. x ≡ d) t → ⊥
not_begun c d t more e n b = n (rw e at b)

pub list_told : {bs xs ys : List ℕ} {c : ℕ} {more : Text} → SplitsRun is_either_char bs xs ys → chars ys ≡ c ∷ more
    → ends_list c ≡ false
    → NoFront (Row pair_row) (chars bs) × (NoFront (Row topics_row) (chars bs) × NoFront (Row palo_alto_row) (chars bs))
list_told {ys = ys} {c = c} {more = more} s e h = no_list (either_run s)
    (not_begun c 61 (chars ys) more e (λ is. grind (arith, nat_tests, h, is)))
    (not_begun c 44 (chars ys) more e (λ is. grind (arith, nat_tests, h, is)))

pub no_list_end : {bs xs ys : List ℕ} → SplitsRun is_either_char bs xs ys → chars ys ≡ []
    → NoFront (Row pair_row) (chars bs) × (NoFront (Row topics_row) (chars bs) × NoFront (Row palo_alto_row) (chars bs))
no_list_end s e = no_list (either_run s) (λ b. rw e at b) (λ b. rw e at b)

-- ---- sets of marks

-- the set that is empty
pub none_held : (bits : ℕ) → bits ≡ 0 → (m : Mark) → holds bits m ≡ false
none_held bits e Cef = rw e refl
none_held bits e Leef = rw e refl
none_held bits e Repeated = rw e refl
none_held bits e PaloAlto = rw e refl
none_held bits e Pair = rw e refl
none_held bits e Json = rw e refl
none_held bits e Idrac = rw e refl
none_held bits e Level = rw e refl
none_held bits e Topics = rw e refl
none_held bits e Bracket = rw e refl
none_held bits e Dated = rw e refl

-- those that may begin with the first character
pub all_begun : (bits : ℕ) {t more : Text} {c : ℕ} → t ≡ c ∷ more → ((m : Mark) → holds bits m ≡ begins m c)
    → AreAll bits t
all_begun bits e h m n = no_mark m e (sym n ∙ h m)

-- and of these only the others, in a text that begins with no key, no number and no topic
pub all_others : (bits : ℕ) {t more : Text} {c : ℕ} → t ≡ c ∷ more
    → ((m : Mark) → holds bits m ≡ begins_other m c)
    → NoFront (Row pair_row) t × (NoFront (Row topics_row) t × NoFront (Row palo_alto_row) t) → AreAll bits t
all_others bits e h n Pair k = n.0
all_others bits e h n Topics k = n.1.0
all_others bits e h n PaloAlto k = n.1.1
all_others bits e h n Cef k = no_mark Cef e (sym k ∙ h Cef)
all_others bits e h n Leef k = no_mark Leef e (sym k ∙ h Leef)
all_others bits e h n Repeated k = no_mark Repeated e (sym k ∙ h Repeated)
all_others bits e h n Json k = no_mark Json e (sym k ∙ h Json)
all_others bits e h n Idrac k = no_mark Idrac e (sym k ∙ h Idrac)
all_others bits e h n Level k = no_mark Level e (sym k ∙ h Level)
all_others bits e h n Bracket k = no_mark Bracket e (sym k ∙ h Bracket)
all_others bits e h n Dated k = no_mark Dated e (sym k ∙ h Dated)

-- ---- no message begins a text, with a host before it or without

abbrev begun : Mark → Class
begun m = beginning (mark_class m)

pub no_message_alone : (m : Mark) {t : Text} → NoFront (Row host_row) t → NoFront (mark_class m) t
    → NoFront (message m) t
no_message_alone m h n = no_mapped (marked m) NamedTexts marked_of
    (no_otherwise (no_beginning n) (rows_none_here host_row (begun m ∷ []) h))

pub no_message : (m : Mark) {t u : Text} {vs : Values host_row} → Front (Row host_row) t u vs
    → NoFront (mark_class m) t → NoFront (mark_class m) u → NoFront (message m) t
no_message m h n k = no_mapped (marked m) NamedTexts marked_of
    (no_otherwise (no_beginning n) (rows_none_later host_row (begun m ∷ []) host_row_det h
    (row_none_here (begun m) [] (no_beginning k))))

-- where this mark may begin neither
pub no_message_of : (marks : MessageMarks) {t : Text} (after : Option AfterHost)
    → ReadsHost t after → AreMarks marks t after → (m : Mark)
    → holds marks.own.bits m ≡ false → holds marks.later.bits m ≡ false → NoFront (message m) t
no_message_of marks None h are m own later = no_message_alone m h (are.0 m own)
no_message_of marks (Some x) h are m own later = no_message m h (are.0 m own) (are.1 m later)

-- where no mark may begin either
pub no_messages : (marks : MessageMarks) {t : Text} (after : Option AfterHost)
    → ReadsHost t after → AreMarks marks t after
    → ((m : Mark) → holds marks.own.bits m ≡ false) → ((m : Mark) → holds marks.later.bits m ≡ false) → (m : Mark)
    → NoFront (message m) t
no_messages marks after h are own later m = no_message_of marks after h are m (own m) (later m)
