-- Converted names: each is in the grammar, is canonical, and is converted to itself.
use Rattle.syslog_strict.proofs.Words.{◌≡◌, ◌≢◌, inl, inr, ℕ, suc, ◌<◌, true, false, ◌∷◌, ◌++◌, length, Option, Some}
use Rattle.syslog_strict.proofs.Words.{None, IfSome, refl, sym, ap, ap₂, ◌∙◌, arith, Bool, map, cases_Bool, nat_tests}
use Rattle.syslog_strict.proofs.Words.{bytes_decides, heads, option_and_then, Text, Each, text_eq, colon, dash}
use Rattle.syslog_strict.proofs.Words.{name_text, cleaned, converted_host, converted_word, kept_char, named, no_colon}
use Rattle.syslog_strict.proofs.Words.{is_printusascii, without_last_colon, without_lone_colon, [], ProcId, PID, Name}
use Rattle.syslog_strict.proofs.Words.{IsBoundedProcess, NamesProcess, named_process, named_names, converted_process}
use Rattle.syslog_strict.proofs.Words.{option_map, is_ascii_digit, decimal, signed_decimal, process_text, pos, negsuc}
use Rattle.syslog_strict.proofs.Words.{ℤ, ◌≤◌, IsUtf8, chars, ◌⊎◌, ◌-◌, List, procid_text}
use Rattle.std.specs.{Char.is_not_whitespace, Prelude.MatchBool}
use Rattle.syslog_text.proofs.TextLemmas.Runs.{char_alone, ascii_chars, low_ascii}
use Rattle.syslog_strict.proofs.GrammarLemmas.{IsSomeOf}
use Rattle.std.proofs.Common.{take, zero, FitsSigned, w32, ◌^◌}
use Rattle.std.proofs.lemmas.List.{take_all, length-map, length-take}
use Rattle.std.proofs.{Math.Seq.take-nil, lemmas.Option.IfSome_then}
use Rattle.syslog_text.specs.{Text.EndsInColon, Text.Canonical.IsVisible}
use Rattle.syslog_pieces.proofs.ProcIdLemmas.{process_same as same_process}
use Rattle.syslog_pieces.specs.ProcId.{IsCanonicalProcess, IsNoI32Text, IsBareWord}
use Rattle.syslog_text.proofs.{PieceLemmas.Class.each_map, TextLemmas.Words.ten_long, TextLemmas.Words.decimal_digits}

-- ---- texts that are compared

pub text_eq_true : (t u : Text) → text_eq t u ≡ true → t ≡ u
text_eq_true t u = (bytes_decides t u).0

pub no_text_eq : (t u : Text) → text_eq t u ≡ false → t ≢ u
no_text_eq t u e same = let yes = (bytes_decides t u).1 same in absurd (let no : true ≡ false = sym yes ∙ e in cc)

pub no_text : (t u : Text) → t ≢ u → text_eq t u ≡ false
no_text t u other = elim (cases_Bool (text_eq t u)) [ inl e ↦ absurd (other (text_eq_true t u e)) | inr e ↦ e ]

-- ---- cleaned texts

map_passes : (test : ℕ → Bool) (t : Text) → test 63 ≡ true → Each test (map (kept_char test) t)
map_passes test [] mark = tt
map_passes test (c ∷ t) mark =
    (elim (cases_Bool (test c)) [ inl e ↦ rw e e | inr e ↦ rw e mark ], map_passes test t mark)

pub cleaned_is : (test : ℕ → Bool) (most : ℕ) (t : Text) → test 63 ≡ true → 0 < most → 0 < length t
    → IsSomeOf test most (cleaned test most t)
cleaned_is test most t mark h some =
    let long = length-map (take most t) (kept_char test) ∙ length-take most t in
    (tt, (omega (arith, long), omega (arith, long), map_passes test (take most t) mark, tt))

kept_all : (test : ℕ → Bool) (t : Text) → Each test t → map (kept_char test) t ≡ t
kept_all test [] each = refl
kept_all test (c ∷ t) each = ap₂ (λ (x : ℕ) (y : Text). x ∷ y) (rw (each.0) refl) (kept_all test t each.1)

pub cleaned_same : (test : ℕ → Bool) (most : ℕ) (t : Text) → IsSomeOf test most t → cleaned test most t ≡ t
cleaned_same test most t (_, (some, short, each, _)) =
    ap (map (kept_char test)) (take_all most t short) ∙ kept_all test t each

-- ---- texts that name something

named_there : (t : Text) (P : Text → Type 0) → (t ≢ dash → P t) → IfSome (named t) P
named_there [] P f = tt
named_there (c ∷ t) P f = elim (cases_Bool (text_eq (c ∷ t) dash)) [
  | inl e ↦ rw e tt
  | inr e ↦ rw e (f (no_text_eq (c ∷ t) dash e))
]

named_some : (t : Text) → 0 < length t → t ≢ dash → named t ≡ Some t
named_some [] some other = absurd (omega arith)
named_some (c ∷ t) some other = rw (no_text (c ∷ t) dash other) refl

-- one that is not empty prints as it is
named_prints : (t : Text) → 0 < length t → name_text (named t) ≡ t
named_prints [] some = absurd (omega arith)
named_prints (c ∷ t) some = elim (cases_Bool (text_eq (c ∷ t) dash)) [
  | inl e ↦ rw e (sym (text_eq_true (c ∷ t) dash e))
  | inr e ↦ rw e refl
]

-- ---- names that were cleaned, and whose colons were replaced

-- one to `most` characters of PRINTUSASCII, not `-`, with a property
abbrev pub IsName : ℕ → (Text → Type 0) → Text → Type 0
IsName most P t = IsSomeOf is_printusascii most t × (t ≢ dash) × P t

dash_is : (most : ℕ) → 0 < most → IsSomeOf is_printusascii most dash
dash_is most h = (tt, (omega arith, omega arith, (refl, tt), tt))

-- the text of such a name is in the grammar
pub name_prints : (most : ℕ) (P : Text → Type 0) (v : Option Text) → 0 < most → IfSome v (IsName most P)
    → IsSomeOf is_printusascii most (name_text v)
name_prints most P None h is = dash_is most h
name_prints most P (Some t) h is = is.0

prints_visible : (t : Text) → Each is_printusascii t → Each is_not_whitespace t
prints_visible = each_map is_printusascii is_not_whitespace (λ c h. grind (arith, nat_tests))

pub name_canonical : (most : ℕ) (P : Text → Type 0) (v : Option Text) → IfSome v (IsName most P)
    → IfSome v (λ t. IsVisible t × (t ≢ dash) × P t)
name_canonical most P None is = tt
name_canonical most P (Some t) ((_, (some, short, each, _)), other, p) = ((some, prints_visible t each), other, p)

-- a replacement that keeps such texts such, makes the property and keeps what has it
module _ (most : ℕ) (P : Text → Type 0) (replace : Text → Text) (h : 0 < most) (none : replace [] ≡ [])
    (makes : (t : Text) → IsSomeOf is_printusascii most t → IsSomeOf is_printusascii most (replace t) × P (replace t))
    (keeps : (t : Text) → P t → replace t ≡ t) where
  -- what is made of a text
  abbrev made : Text → Option Text
  made t = named (replace (cleaned is_printusascii most t))

  pub made_is : (t : Text) → IfSome (made t) (IsName most P)
  made_is [] = rw (take-nil, none) tt
  made_is (c ∷ t) =
      let (is, p) = makes _ (cleaned_is is_printusascii most (c ∷ t) refl h (omega arith)) in
      named_there _ (IsName most P) (λ other. (is, other, p))

  pub made_same : (t : Text) → IsName most P t → made t ≡ Some t
  made_same t (is, other, p) =
      ap (λ (x : Text). named (replace x)) (cleaned_same is_printusascii most t is) ∙ ap named (keeps t p)
      ∙ named_some t is.1.0 other

  pub made_prints : (t : Text) → 0 < length t → name_text (made t) ≡ replace (cleaned is_printusascii most t)
  made_prints t some = named_prints _ (makes _ (cleaned_is is_printusascii most t refl h some)).0.1.0

  -- one that is clean and has the property prints as it is
  pub made_stays : (t : Text) → IsSomeOf is_printusascii most t → P t → name_text (made t) ≡ t
  made_stays t is p = made_prints t is.1.0 ∙ ap replace (cleaned_same is_printusascii most t is) ∙ keeps t p

-- what holds of each result holds of that of a value that may be absent
pub each_result : {X Y : Type 0} (f : X → Option Y) (P : Y → Type 0) → ((x : X) → IfSome (f x) P) → (v : Option X)
    → IfSome (option_and_then f v) P
each_result f P each None = tt
each_result f P each (Some x) = each x

-- what has the property stays
pub settled : {X : Type 0} (f : X → Option X) (P : X → Type 0) → ((x : X) → P x → f x ≡ Some x) → (v : Option X)
    → IfSome v P → option_and_then f v ≡ v
settled f P same None is = refl
settled f P same (Some x) is = same x is

-- ---- hosts

abbrev pub NoLastColon : Text → Type 0
NoLastColon t = EndsInColon t → ⊥

replaced : (t : Text) → Each is_printusascii t
    → (length (without_last_colon t) ≡ length t) × Each is_printusascii (without_last_colon t)
replaced [] each = (refl, tt)
replaced (c ∷ []) each = elim (cases_Bool (no_colon c)) [
  | inl e ↦ rw e (refl, each)
  | inr e ↦ rw e (refl, (refl, tt))
]
replaced (c ∷ d ∷ t) each = let (long, passes) = replaced (d ∷ t) each.1 in (ap suc long, (each.0, passes))

no_end : (t front : Text) → without_last_colon t ≡ front ++ colon → ⊥
no_end [] [] e = cc
no_end [] (d ∷ front) e = cc
no_end (c ∷ []) [] e = kept c (heads _ _ _ _ e)
  where
    kept : (c : ℕ) → kept_char no_colon c ≡ 58 → ⊥
    kept c e = grind (arith, nat_tests)
no_end (c ∷ []) (d ∷ []) e = cc
no_end (c ∷ []) (d ∷ f ∷ front) e = cc
no_end (c ∷ d ∷ []) [] e = cc
no_end (c ∷ d ∷ f ∷ t) [] e = cc
no_end (c ∷ d ∷ t) (f ∷ front) e =
    no_end (d ∷ t) front (let g : without_last_colon (d ∷ t) ≡ front ++ colon = cc in g)

host_makes : (t : Text) → IsSomeOf is_printusascii 255 t
    → IsSomeOf is_printusascii 255 (without_last_colon t) × NoLastColon (without_last_colon t)
host_makes t (_, (some, short, each, _)) =
    let (long, passes) = replaced t each in
    ((tt, (omega (arith, long, some), omega (arith, long, short), passes, tt)), λ (front, e). no_end t front e)

host_keeps : (t : Text) → NoLastColon t → without_last_colon t ≡ t
host_keeps [] no_end = refl
host_keeps (c ∷ []) no_end = elim (cases_Bool (no_colon c)) [
  | inl e ↦ rw e refl
  | inr e ↦ absurd (no_end ([], (let is : c ≡ 58 = grind (arith, nat_tests) in ap (λ (x : ℕ). x ∷ []) is)))
]
host_keeps (c ∷ d ∷ t) no_end = ap (λ (x : Text). c ∷ x)
    (host_keeps (d ∷ t) (λ (front, e). no_end (c ∷ front, ap (λ (x : Text). c ∷ x) e)))

pub host_is : (v : Option Text) → IfSome (option_and_then converted_host v) (IsName 255 NoLastColon)
host_is = each_result converted_host _
    (made_is 255 NoLastColon without_last_colon (omega arith) refl host_makes host_keeps)

pub host_same : (t : Text) → IsName 255 NoLastColon t → converted_host t ≡ Some t
host_same = made_same 255 NoLastColon without_last_colon (omega arith) refl host_makes host_keeps

-- the bytes of such a text are its characters
prints_alone : (bs : List ℕ) → IsUtf8 bs → Each is_printusascii (chars bs) → chars bs ≡ bs
prints_alone bs u each = ascii_chars bs u (low_ascii is_printusascii (chars bs) (λ c h. grind (arith, nat_tests)) each)

-- a host that is clean and ends in no colon
pub host_stays : (bs : List ℕ) → IsUtf8 bs → IsSomeOf is_printusascii 255 (chars bs)
    → ((front : List ℕ) → bs ≢ front ++ colon) → name_text (converted_host (chars bs)) ≡ chars bs
host_stays bs u is no_end =
    made_stays 255 NoLastColon without_last_colon (omega arith) refl host_makes host_keeps (chars bs) is
    (λ (front, e). no_end front (sym (prints_alone bs u is.1.2) ∙ e))

-- a step of the copy of a host, and its end
pub host_more : (n last c : ℕ) (t more : Text) → 0 < n → t ≡ c ∷ more
    → without_last_colon (last ∷ cleaned is_printusascii n t)
    ≡ last ∷ without_last_colon (kept_char is_printusascii c ∷ cleaned is_printusascii (n - 1) more)
host_more zero last c t more h e = absurd (omega arith)
host_more (suc n) last c t more h e = rw e (let same : suc n - 1 ≡ n = omega arith in rw same refl)

pub host_last : (n last : ℕ) (t : Text) → (n ≤ 0) ⊎ (t ≡ [])
    → without_last_colon (last ∷ cleaned is_printusascii n t) ≡ kept_char no_colon last ∷ []
host_last zero last t ends = refl
host_last (suc n) last t (inl h) = absurd (omega arith)
host_last (suc n) last t (inr e) = rw e refl

-- ---- app names and message ids

abbrev pub IsWord : ℕ → Text → Type 0
IsWord most = IsName most (λ t. t ≢ colon)

module _ (most : ℕ) (h : 0 < most) where
  word_makes : (t : Text) → IsSomeOf is_printusascii most t
      → IsSomeOf is_printusascii most (without_lone_colon t) × (without_lone_colon t ≢ colon)
  word_makes t is = elim (cases_Bool (text_eq t colon)) [
    | inl e ↦ rw e ((tt, (omega arith, omega arith, (refl, tt), tt)), λ k. absurd (omega (arith, heads 63 58 [] [] k)))
    | inr e ↦ rw e (is, no_text_eq t colon e)
  ]

  word_keeps : (t : Text) → t ≢ colon → without_lone_colon t ≡ t
  word_keeps t other = rw (no_text t colon other) refl

  word_text_is : (t : Text) → IfSome (converted_word most t) (IsWord most)
  word_text_is = made_is most (λ t. t ≢ colon) without_lone_colon h refl word_makes word_keeps

  pub word_is : (v : Option Text) → IfSome (option_and_then (converted_word most) v) (IsWord most)
  word_is = each_result (converted_word most) (IsWord most) word_text_is

  pub word_same : (t : Text) → IsWord most t → converted_word most t ≡ Some t
  word_same = made_same most (λ t. t ≢ colon) without_lone_colon h refl word_makes word_keeps

  pub word_stays : (t : Text) → IsSomeOf is_printusascii most t → t ≢ colon → name_text (converted_word most t) ≡ t
  word_stays = made_stays most (λ t. t ≢ colon) without_lone_colon h refl word_makes word_keeps

-- what the comparison of a text with a colon says
pub colon_told : (t : Text) (is : Bool) → is ≡ text_eq t (chars colon) → MatchBool is (t ≡ colon) (t ≢ colon)
colon_told t true e = text_eq_true t _ (sym e) ∙ char_alone 58 (omega arith)
colon_told t false e = λ same. no_text_eq t _ (sym e) (same ∙ sym (char_alone 58 (omega arith)))

-- a word of one colon
pub word_colon : (most : ℕ) (t : Text) → 1 < most → t ≡ colon → name_text (converted_word most t) ≡ 63 ∷ []
word_colon zero t h e = absurd (omega arith)
word_colon (suc zero) t h e = absurd (omega arith)
word_colon (suc (suc n)) t h e = rw e refl

-- another word
pub word_prints : (most : ℕ) (t : Text) → 1 < most → 0 < length t → t ≢ colon
    → name_text (converted_word most t) ≡ cleaned is_printusascii most t
word_prints most t h some other =
    made_prints most (λ t. t ≢ colon) without_lone_colon (omega arith) refl (word_makes most (omega arith))
    (word_keeps most (omega arith)) t some ∙ word_keeps most (omega arith) _ (λ e. other (whole most t h some e))
  where
    whole : (most : ℕ) (t : Text) → 1 < most → 0 < length t → cleaned is_printusascii most t ≡ colon → t ≡ colon
    whole most [] h some e = absurd (omega arith)
    whole most (c ∷ []) h some e =
        let whole = ap (map (kept_char is_printusascii)) (take_all most (c ∷ []) (omega arith)) in
        let first = heads _ _ _ _ (sym whole ∙ e) in
        elim (cases_Bool (is_printusascii c)) [
          | inl k ↦ ap (λ (x : ℕ). x ∷ []) (sym (rw k refl) ∙ first)
          | inr k ↦ absurd (let no = rw k at first in omega (arith, no))
        ]
    whole most (c ∷ d ∷ t) h some e = absurd (omega (arith, rw (length-map, length-take) at (ap length e)))

-- ---- process ids

-- a number, or a word of the grammar that is no number
abbrev pub IsProcess : ProcId Text → Type 0
IsProcess (PID n) = Unit {0}
IsProcess (Name t) = IsWord 128 t × IsNoI32Text t

named_is : (t : Text) (p : ProcId Text) → IsWord 128 t → NamesProcess t p → IsProcess p × IsBoundedProcess p
named_is t (PID n) is names = (tt, names.1)
named_is t (Name u) is names = rw (names.1) ((is, names.0), tt)

-- what is made of one is such, and has 32 bits if that has
abbrev IsMadeOf : ProcId Text → ProcId Text → Type 0
IsMadeOf p q = IsProcess q × (IsBoundedProcess p → IsBoundedProcess q)

made_process : (p : ProcId Text) → IfSome (converted_process p) (IsMadeOf p)
made_process (PID n) = (tt, λ b. b)
made_process (Name t) = named (converted_word 128 t) (word_text_is 128 (omega arith) t)
  where
    named : (v : Option Text) → IfSome v (IsWord 128)
        → IfSome (option_map named_process v) (λ q. IsProcess q × (Unit {0} → IsBoundedProcess q))
    named None is = tt
    named (Some u) is = let (kept, bounded) = named_is u (named_process u) is (named_names u) in (kept, λ _. bounded)

pub process_same : (p : ProcId Text) → IsProcess p → converted_process p ≡ Some p
process_same (PID n) is = refl
process_same (Name t) (is, none) = ap (option_map named_process) (word_same 128 (omega arith) t is)
    ∙ ap Some (same_process t (named_process t) (Name t) (named_names t) (none, refl))

digits_print : (t : Text) → Each is_ascii_digit t → Each is_printusascii t
digits_print = each_map is_ascii_digit is_printusascii (λ c h. grind (arith, nat_tests))

decimal_is : (n : ℕ) → n < 2 ^ 32 → IsSomeOf is_printusascii 127 (decimal n)
decimal_is n small =
    let (some, digits) = decimal_digits n (omega arith) in
    let short = ten_long n small in
    (tt, (some, omega (arith, short), digits_print (decimal n) digits, tt))

number_is : (n : ℤ) → FitsSigned w32 n → IsSomeOf is_printusascii 128 (signed_decimal n)
number_is (pos n) h = let (_, (some, short, each, _)) = decimal_is n (omega (arith, h)) in
    (tt, (some, omega (arith, short), each, tt))
number_is (negsuc n) h = let (_, (some, short, each, _)) = decimal_is (suc n) (omega (arith, h)) in
    (tt, (omega arith, omega (arith, short), (refl, each), tt))

-- what is made of a process id
pub process_is : (v : Option (ProcId Text)) → IfSome (option_and_then converted_process v) IsProcess
process_is = each_result converted_process IsProcess (λ p. IfSome_then _ {P = IsMadeOf p} (made_process p) (λ q h. h.0))

pub process_bounded : (v : Option (ProcId Text)) → IfSome v IsBoundedProcess
    → IfSome (option_and_then converted_process v) IsBoundedProcess
process_bounded None b = tt
process_bounded (Some p) b = IfSome_then _ {P = IsMadeOf p} (made_process p) (λ q h. h.1 b)

pub process_canonical : (v : Option (ProcId Text)) → IfSome v IsProcess → IfSome v IsCanonicalProcess
process_canonical None is = tt
process_canonical (Some (PID n)) is = tt
process_canonical (Some (Name t)) (is, none) = (name_canonical 128 (λ t. t ≢ colon) (Some t) is, none)

pub process_prints : (v : Option (ProcId Text)) → IfSome v IsProcess → IfSome v IsBoundedProcess
    → IsSomeOf is_printusascii 128 (process_text v)
process_prints None is bounded = dash_is 128 (omega arith)
process_prints (Some (PID n)) is bounded = number_is n bounded
process_prints (Some (Name t)) is bounded = is.0.0

-- a word of several characters of the grammar that is printed as what it names
pub bare_stays : (bs : List ℕ) → IsUtf8 bs → 1 < length bs → IsSomeOf is_printusascii 128 (chars bs)
    → IsBareWord (chars bs) → process_text (converted_process (named_process (chars bs))) ≡ chars bs
bare_stays bs u long is bare =
    let t = chars bs in
    let several : (c : ℕ) → t ≢ c ∷ [] =
    λ c e. absurd (omega (arith, ap length (prints_alone bs u is.1.2), ap length e)) in
    ap process_text (process_same (named_process t)
    (named_is t (named_process t) (is, several 45, several 58) (named_names t)).0) ∙ bare

-- what a text names is computed
pub ruleset process_named = (same_process, named_names)

-- what a word names prints as what its text names
pub word_named : (v : Option Text)
    → process_text (option_map named_process v) ≡ procid_text (named_process (name_text v))
word_named None = refl
word_named (Some t) = refl
