-- Words, hosts and numbers: what their readers return, what is read back, and the tests of canonical ones.
use Rattle.syslog_text.proofs.Names.{◌≡◌, SplitsRun, nat_tests, name_text, IsVisible, IsSomeAnd, chars-nil, rest_same}
use Rattle.syslog_text.proofs.Names.{◌≢◌, ℕ, ◌-◌, ◌<◌, ◌≤◌, ◌^◌, dash, word, host, true, Bool, seen, zero, pad2, pad3}
use Rattle.syslog_text.proofs.Names.{◌⊎◌, inl, inr, ◌∷◌, Err, sym, ◌∙◌, ◌↔◌, Bor, suc, pos, ◌+◌, ◌%◌, ◌/◌, ◌*◌, map}
use Rattle.syslog_text.proofs.Names.{List, ◌++◌, take, drop, Some, None, refl, Text, Each, Ends, Class, shown, Reads}
use Rattle.syslog_text.proofs.Names.{length, Option, Result, IsUtf8, NoFront, number, IsHost, nat_eq, get_or, decimal}
use Rattle.syslog_text.proofs.Names.{Ok, encodes-chars, chars-IsAscii, signed_decimal, agree_below_at, IsCharBoundary}
use Rattle.syslog_text.proofs.Names.{ap, EndsInColon, is_tag_char, each_append, no_front_no, IsAscii-nil, digits_onto}
use Rattle.syslog_text.proofs.Names.{arith, front_same, digit_glyph, digit_value, IsUtf8-drop, map-append}
use Rattle.syslog_text.proofs.Names.{append_assoc, encode_utf8_all, IsDeterministic, IsCanonicalHost, IsCanonicalWord}
use Rattle.syslog_text.proofs.Names.{rules, chars, OkIff, Front, colon, Names, false, IfSome, IsTrue, negsuc, lt-ltb}
use Rattle.syslog_text.proofs.Names.{take-append_seam, drop-append_seam, IsAscii, is_not_whitespace, decimal_nonempty}
use Rattle.syslog_text.proofs.Names.{encodes-IsAscii, IsUtf8-from_ascii, digits_value-decimal, length-append}
use Rattle.syslog_text.proofs.Names.{chars-append, digits_value, append-nil, decimal_digit, IsAscii-cons}
use Rattle.syslog_text.proofs.Names.{encodes-append, ParsesUnsigned, is_ascii_digit, IsCanonicalTag, flat_map-append}
use Rattle.syslog_text.proofs.Names.{tag_word, run_same, is_blank, each_map, eqb-true, eqb_tells, take_more, flat_map}
use Rattle.syslog_text.proofs.Names.{[], ℤ, same_from_push, result_ok, digit_value_digit, IsSmallNumber}
use Rattle.std.specs.Option.{SomeIff}
use Rattle.std.proofs.lemmas.Str.Parse.{IsNumeralModel, numerals_by_value, parse_digits}
use Rattle.std.proofs.lemmas.Fmt.{digits_decimal, decimal_step, length-decimal-le}
use Rattle.std.specs.Fmt.{digits}
use Rattle.syslog_text.specs.declared.text.write_ascii.TheConstants.{PAIRS}
use Rattle.syslog_text.proofs.TextLemmas.Runs.{chars_nonempty, digits_ascii, after_chars, ascii_front, chars_empty}
use Rattle.syslog_text.proofs.TextLemmas.Runs.{digit_chars, text_is_not, nonempty_is, ends_digits, before_utf8, bytes}
use Rattle.syslog_text.proofs.TextLemmas.Runs.{after_cut, one_ascii, after_is, text_is, run_is}
use Rattle.syslog_text.proofs.PieceLemmas.Class.{each_front, front_of, ◌also◌}
pub use Rattle.std.proofs.lemmas.Fmt.{decimal_digit as one_digit, decimal_step as last_of_more}
pub use Rattle.std.proofs.lemmas.List.Folds.{flat_map-map}
pub use Rattle.syslog_text.proofs.PieceLemmas.Class.{no_truth, false_is, last_is}

-- ---- each is deterministic
pub number_det : (limit : ℕ) → IsDeterministic (number limit)
number_det limit w q w' q' n n' e h h' =
    let s = run_same is_ascii_digit w q w' q' e h.1 h.2 h'.1 h'.2 in
    (s, h.3 ∙ ap (digits_value 10) s ∙ sym h'.3)

names_same : (p : Text) (v v' : Option Text) → Names p v → Names p v' → v ≡ v'
names_same p None None h h' = refl
names_same p None (Some x) h h' = absurd (h'.1 h)
names_same p (Some x) None h h' = absurd (h.1 h')
names_same p (Some x) (Some y) h h' = ap Some (h.0 ∙ sym h'.0)

pub word_det : IsDeterministic word
word_det w q w' q' v v' e h h' =
    let s = run_same is_not_whitespace w q w' q' e h.1 h.2 h'.1 h'.2 in
    (s, names_same w' v v' (rw s at h.4) h'.4)

pub tag_word_det : IsDeterministic tag_word
tag_word_det w q w' q' v v' e h h' =
    let s = run_same is_tag_char w q w' q' e h.1 h.2 h'.1 h'.2 in
    (s, names_same w' v v' (rw s at h.3) h'.3)

-- the run that a host is, or that it is with the colon after it
abbrev IsRunOf : Text → Text → Option Text → Type 0
IsRunOf w p v = ((w ≡ p) × (EndsInColon p → ⊥) × Names p v) ⊎ ((w ≡ p ++ colon) × (v ≡ Some p))

host_run : (p q : Text) (v : Option Text) → IsHost p q v → (w : Text) × (r : Text) × (p ++ q ≡ w ++ r)
    × Each is_not_whitespace w × Ends is_not_whitespace r × IsRunOf w p v
host_run p q v (_, a, inl (n, b, m)) = (p, q, refl, a, b, inl (refl, n, m))
host_run p q v (_, a, inr (r, f, b, m)) =
    let each = each_append is_not_whitespace p colon a (refl, tt) in
    (p ++ colon, r, rw f (sym (append_assoc p colon r)), each, b, inr (refl, m))

same_host : (w p w' p' : Text) (v v' : Option Text) → w ≡ w' → IsRunOf w p v → IsRunOf w' p' v' → (p ≡ p') × (v ≡ v')
same_host w p w' p' v v' e (inl (i, n, m)) (inl (j, n', m')) =
    let s : p ≡ p' = sym i ∙ e ∙ j in (s, names_same p' v v' (rw s at m) m')
same_host w p w' p' v v' e (inl (i, n, m)) (inr (j, m')) = absurd (n (p', sym i ∙ e ∙ j))
same_host w p w' p' v v' e (inr (i, m)) (inl (j, n', m')) = absurd (n' (p, sym j ∙ sym e ∙ i))
same_host w p w' p' v v' e (inr (i, m)) (inr (j, m')) =
    let t = (same_from_push p p' 58 58 (sym i ∙ e ∙ j)).0 in (t, m ∙ ap Some t ∙ sym m')

pub host_det : IsDeterministic host
host_det p q p' q' v v' e h h' =
    let (w, r, f, a, b, k) = host_run p q v h in
    let (w', r', f', a', b', k') = host_run p' q' v' h' in
    same_host w p w' p' v v' (run_same is_not_whitespace w r w' r' (sym f ∙ e ∙ f') a b a' b') k k'

-- ---- numbers
pub own : IsNumeralModel (λ ds. Each is_ascii_digit ds) (digits_value 10)
own = numerals_by_value (λ ds. Each is_ascii_digit ds) (search rules)

ok_some : {E : Type 0} (r : Result ℕ E) (P : Type 0) (v : ℕ) → OkIff r P v → SomeIff (result_ok r) P v
ok_some (Ok x) P v h = h
ok_some (Err x) P v h = h

-- what `parse` gives for digits
pub parsed_digits : (ds : List ℕ) → IsUtf8 ds → Each is_ascii_digit (chars ds) → {E : Type 0} (r : Result ℕ E)
    → ParsesUnsigned 32 10 ds r
    → SomeIff (result_ok r) ((0 < length ds) × (digits_value 10 ds < 2 ^ 32)) (digits_value 10 ds)
parsed_digits ds u a r h = ok_some r _ _ (parse_digits own 32 ds r h (rw (digit_chars ds u a) at a))

module _ (bs xs ys : List ℕ) (s : SplitsRun is_ascii_digit bs xs ys) where
  canonical : chars xs ≡ xs
  canonical = digit_chars xs s.front_utf8 s.each

  pub number_read : (v limit : ℕ) → ((0 < length xs) × (digits_value 10 xs < 2 ^ 32)) × (v ≡ digits_value 10 xs)
      → v ≤ limit → Front (number limit) (chars bs) (chars ys) v
  number_read v limit h l =
      front_of (chars xs) s.characters
      (chars_nonempty xs s.front_utf8 h.0.0, s.each, s.ends, h.1 ∙ ap (digits_value 10) (sym canonical), l)

  pub number_stuck : (limit : ℕ) → (0 < length xs → digits_value 10 xs ≤ limit → ⊥) → NoFront (number limit) (chars bs)
  number_stuck limit stuck p q v e (l, a, b, f, m) =
      let r : p ≡ xs = run_is is_ascii_digit bs xs ys s p q e a b ∙ canonical in
      stuck (rw r at l) (rw (f ∙ ap (digits_value 10) r) at m)

-- ---- the two marks
pub dash_ascii : IsAscii dash
dash_ascii = one_ascii 45 (omega arith)

pub colon_ascii : IsAscii colon
colon_ascii = one_ascii 58 (omega arith)

-- whether a run is a dash
pub ruleset dash_told = (text_is, text_is_not, dash_ascii)

-- ---- hosts

-- a run that ends in no colon
pub host_front : (bs xs ys : List ℕ) → SplitsRun is_not_whitespace bs xs ys → (v : Option (List ℕ)) → 0 < length xs
    → ((front : List ℕ) → xs ≢ front ++ colon) → Names (chars xs) v → Front host (chars bs) (chars ys) v
host_front bs xs ys s v l n m =
    front_of (chars xs) s.characters (chars_nonempty xs s.front_utf8 l, s.each, inl (no_end, s.ends, m))
  where
    no_end : EndsInColon (chars xs) → ⊥
    no_end (front, e) = n _ (bytes xs colon s.front_utf8 (IsUtf8-from_ascii colon colon_ascii) front
        (rw (chars-IsAscii colon colon_ascii) e))

-- a run that ends in one
module _ (bs xs ys front : List ℕ) (s : SplitsRun is_not_whitespace bs xs ys) (e : xs ≡ front ++ colon) where
  at_colon : bs ≡ front ++ (58 ∷ ys)
  at_colon = rw e at s.whole ∙ append_assoc front colon ys

  front_utf8 : IsUtf8 front
  front_utf8 = before_utf8 xs front colon s.front_utf8 (IsUtf8-from_ascii colon colon_ascii) e

  run_chars : chars xs ≡ chars front ++ colon
  run_chars = rw (e, chars-append front colon front_utf8, chars-IsAscii colon colon_ascii) refl

  module _ (before : List ℕ) (f : before ≡ take (length xs - 1) bs) where
    place : length xs - 1 ≡ length front
    place = omega (arith, ap length e, length-append front colon)

    same : before ≡ front
    same = f ∙ rw (place, at_colon) (take-append_seam front (58 ∷ ys))

    pub host_colon_read : (after : List ℕ) → after ≡ drop (length xs - 1) bs → 0 < length before
        → Front host (chars bs) (chars after) (Some (chars before))
    host_colon_read after g l =
        let after_is : after ≡ 58 ∷ ys = g ∙ rw (place, at_colon) (drop-append_seam front (58 ∷ ys)) in
        let long = chars_nonempty front front_utf8 (rw same at l) in
        let each = each_front is_not_whitespace (chars front) colon (rw run_chars at s.each) in
        let colon_next = ascii_front colon ys (58 ∷ ys) colon_ascii refl in
        rw (same, after_is) (front_of (chars front) (ap chars at_colon ∙ chars-append front (58 ∷ ys) front_utf8)
        (long, each, inr (chars ys, colon_next, s.ends, refl)))

    pub no_host_colon : length before ≡ 0 → NoFront host (chars bs)
    no_host_colon z p q v g h =
        let (w, r, i, a, b, k) = host_run p q v h in
        let t = chars_empty front (ap length (sym same) ∙ z) in
        let run = run_is is_not_whitespace bs xs ys s w r (g ∙ i) a b ∙ run_chars in elim k [
          | inl (j, n, m) ↦ n (chars front, sym j ∙ run)
          | inr (j, m) ↦
              omega (arith, ap length (sym j ∙ run), length-append p colon, length-append (chars front) colon)
        ]

-- where a host begins the text
pub ruleset host_reads = (host_front, host_colon_read, nonempty_is)

-- ---- numbers are read back from their printed text
pub decimal_digits : (n : ℕ) → n < 2 ^ 64 → (0 < length (decimal n)) × Each is_ascii_digit (decimal n)
decimal_digits n h = (decimal_nonempty n h, digits_decimal own n h)

-- a number is read back before what begins with no digit
pub number_back : (n limit : ℕ) (q : Text) → n ≤ limit → limit < 2 ^ 64 → Ends is_ascii_digit q
    → (number limit).Is (decimal n) q n
number_back n limit q l b z =
    let small : n < 2 ^ 64 = omega arith in
    let (long, digits) = decimal_digits n small in
    (long, digits, z, sym (digits_value-decimal own n small), l)

-- a digit is no white space
pub digits_visible : (t : Text) → Each is_ascii_digit t → Each is_not_whitespace t
digits_visible = each_map is_ascii_digit is_not_whitespace (λ c h. grind (arith, nat_tests))

-- ---- words

pub dash_no_colon : dash ≡ colon → ⊥
dash_no_colon e = let t : ◌≡◌ {A = ℕ} 45 58 = ap (λ (x : Text). get_or x 0 0) e in omega arith

pub dash_ends_not : EndsInColon dash → ⊥
dash_ends_not ([], e) = dash_no_colon e
dash_ends_not (c ∷ front, e) = let t = ap length e in omega (arith, length-append front colon)

pub dash_visible : IsVisible dash
dash_visible = (omega arith, (refl, tt))

-- a canonical word, or none, is read back before the end or white space
pub word_back : (v : Option Text) (q : Text) → IfSome v IsCanonicalWord → Ends is_not_whitespace q
    → word.Is (name_text v) q v
word_back None q h e = (dash_visible.0, dash_visible.1, e, dash_no_colon, refl)
word_back (Some t) q ((long, visible), no_dash, no_colon) e = (long, visible, e, no_colon, (refl, no_dash))

-- what is read as a word is canonical
pub word_canonical : (p q : Text) (v : Option Text) → word.Is p q v → IfSome v IsCanonicalWord
word_canonical p q None h = tt
word_canonical p q (Some t) (long, visible, e, no_colon, (same, no_dash)) =
    rw same ((long, visible), no_dash, no_colon)

-- ---- hosts

-- a canonical host, or none, is read back before the end or white space
pub host_back : (v : Option Text) (q : Text) → IfSome v IsCanonicalHost → Ends is_not_whitespace q
    → IsHost (name_text v) q v
host_back None q h e = (dash_visible.0, dash_visible.1, inl (dash_ends_not, e, refl))
host_back (Some t) q ((long, visible), no_dash, no_end) e = (long, visible, inl (no_end, e, (refl, no_dash)))

-- the text does not begin with a colon
abbrev pub NoColonNext : Text → Type 0
NoColonNext q = Ends (λ c. nat_eq c 58) q

-- what is read as a host is canonical, where no colon follows it
pub host_canonical : (p q : Text) (v : Option Text) → NoColonNext q → IsHost p q v → IfSome v IsCanonicalHost
host_canonical p q None n h = tt
host_canonical p q (Some t) n (long, visible, inl (no_end, e, (same, no_dash))) =
    rw same ((long, visible), no_dash, no_end)
host_canonical p q (Some t) n (long, visible, inr (r, z, e, same)) =
    absurd (let u : true ≡ false = rw z at n in cc)

blank_no_colon : (c : ℕ) → is_blank c ≡ true → nat_eq c 58 ≡ false
blank_no_colon c h = grind (arith, nat_tests)

-- blanks are no colon
pub blanks_next : (p q : Text) → 0 < length p → Each is_blank p → NoColonNext (p ++ q)
blanks_next [] q l h = absurd (omega arith)
blanks_next (c ∷ p) q l h = blank_no_colon c h.0

-- what the laws of words and of hosts rest on
pub ruleset words = (word_back, word_canonical)

pub ruleset hosts = (host_back, host_canonical, blanks_next)

-- ---- what the tests of canonical texts return
pub some_char : (t : Text) → (t ≡ [] → ⊥) → 0 < length t
some_char [] n = absurd (n refl)
some_char (c ∷ t) n = omega arith

pub end_told : (bs : List ℕ) (b : Bool) → IsUtf8 bs → b ≡ nat_eq (length bs) 0 → IsTrue b ↔ (chars bs ≡ [])
end_told [] b u e = ((λ h. chars-nil), (λ h. e))
end_told (x ∷ bs) b u e =
    (λ h. absurd (let z = eqb-true (length (x ∷ bs)) 0 (sym e ∙ h) in omega arith)) also
    (λ h. absurd (let l = chars_nonempty (x ∷ bs) u (omega arith) in omega (arith, ap length h)))

-- what the test rests on whether a text has a character and each is of a class
pub ruleset both_told = (false_is, last_is, some_char, end_told)

module _ (test : ℕ → Bool) (bs xs ys : List ℕ) (s : SplitsRun test bs xs ys) (b : Bool) where
  -- nothing is left after the run
  pub only_told : b ≡ nat_eq (length ys) 0 → IsTrue b ↔ Each test (chars bs)
  only_told empty =
      let e = end_told ys b s.back_utf8 empty in
      let whole = sym (append-nil (chars bs)) in
      (λ h. rw (s.characters, e.0 h, append-nil) s.each) also (λ h. e.1 (rest_same (chars xs) (chars ys) (chars bs) []
      (sym s.characters ∙ whole) (sym (run_is test bs xs ys s (chars bs) [] whole h tt))))

  -- and the run itself is empty
  pub none_told : b ≡ nat_eq (length xs) 0 → IsTrue b ↔ Ends test (chars bs)
  none_told empty =
      let e = end_told xs b s.front_utf8 empty in (λ h. rw (s.characters, e.0 h) s.ends) also
      (λ h. e.1 (sym (run_is test bs xs ys s [] (chars bs) refl tt h)))

-- ---- readers that take the whole of a text

-- what the test whether such a reader took the whole text returns
abbrev pub SaysIf : (Text → Text → Option Text → Type 0) → (Text → Type 0) → Type 0
SaysIf Is P = (t : Text) (read : Option (Option (Bor (List ℕ)) × Bor (List ℕ))) (b : Bool)
    → Reads (record { Value = Option Text; Is = Is }) seen t read
    → IsTrue b ↔ IsSomeAnd read (λ x. IsSomeAnd x.0 (λ _. shown x.1 ≡ [])) → IsTrue b ↔ P t

-- a piece that means a text is such a text where nothing follows it, and each such text is such a piece
module _ (Is : Text → Text → Option Text → Type 0) (d : IsDeterministic (record { Value = Option Text; Is = Is }))
    (P : Text → Type 0) (to : (p v : Text) → Is p [] (Some v) → P p) (from : (t : Text) → P t → Is t [] (Some t)) where
  abbrev C : Class
  C = record { Value = Option Text; Is = Is }

  whole_front : (t : Text) → P t → Front C t [] (Some t)
  whole_front t h = record { piece = t; whole = sym (append-nil t); is = from t h }

  whole_told : SaysIf Is P
  whole_told t None b n k = ((λ h. absurd (k.0 h)), (λ h. absurd (no_front_no C n (whole_front t h))))
  whole_told t (Some (None, q)) b f k =
      ((λ h. absurd (k.0 h)), (λ h. absurd (let e = (front_same C d f (whole_front t h)).1 in cc)))
  whole_told t (Some (Some v, q)) b f k =
      (λ h. let g = rw (k.0 h) at f in rw (g.whole, append-nil) (to g.piece (shown v) g.is))
      also (λ h. k.1 (front_same C d f (whole_front t h)).0)

host_whole : (p v : Text) → IsHost p [] (Some v) → IsCanonicalHost p
host_whole p v (long, visible, inl (no_end, e, (same, no_dash))) = ((long, visible), no_dash, no_end)
host_whole p v (long, visible, inr (r, z, e, same)) = cc

pub host_told : SaysIf IsHost IsCanonicalHost
host_told = whole_told IsHost host_det IsCanonicalHost host_whole (λ t h. host_back (Some t) [] h tt)

pub word_told : SaysIf word.Is IsCanonicalWord
word_told = whole_told word.Is word_det IsCanonicalWord (λ p v h. ((h.0, h.1), h.4.1, h.3))
    (λ t h. word_back (Some t) [] h tt)

pub tag_told : SaysIf tag_word.Is IsCanonicalTag
tag_told = whole_told tag_word.Is tag_word_det IsCanonicalTag (λ p v h. (h.0, h.1, h.3.1))
    (λ t h. (h.0, h.1, tt, (refl, h.2)))

-- ---- the decimal text of a number is ASCII, so its bytes are its characters
digits_onto_ascii : (k n : ℕ) (acc : List ℕ) → IsAscii acc → IsAscii (digits_onto k 10 false n acc)
digits_onto_ascii zero n acc h = h
digits_onto_ascii (suc k) n acc h =
    let low : digit_glyph false (n % 10) < 128 = rw (lt-ltb (n % 10) 10 (omega arith)) (omega arith) in
    let more = IsAscii-cons (digit_glyph false (n % 10)) acc low h in
    elim (eqb_tells (n / 10) 0) [
      | inl last ↦ rw last.0 more
      | inr some ↦ rw some.0 (digits_onto_ascii k (n / 10) (digit_glyph false (n % 10) ∷ acc) more)
    ]

pub decimal_ascii : (n : ℕ) → IsAscii (decimal n)
unfolding digits
decimal_ascii n = digits_onto_ascii 64 n [] IsAscii-nil

pub signed_ascii : (z : ℤ) → IsAscii (signed_decimal z)
signed_ascii (pos n) = decimal_ascii n
signed_ascii (negsuc n) = IsAscii-cons 45 (decimal (suc n)) (omega arith) (decimal_ascii (suc n))

pub encodes-decimal : (n : ℕ) → encode_utf8_all (decimal n) ≡ decimal n
encodes-decimal n = encodes-IsAscii (decimal n) (decimal_ascii n)

pub encodes-signed : (z : ℤ) → encode_utf8_all (signed_decimal z) ≡ signed_decimal z
encodes-signed z = encodes-IsAscii (signed_decimal z) (signed_ascii z)

-- ---- digits
pub digit_is : (d : ℕ) → d < 10 → (is_ascii_digit (48 + d) ≡ true) × (is_blank (48 + d) ≡ false)
    × (digit_value (48 + d) ≡ d)
digit_is d h = (
  grind (arith, nat_tests),
  grind (arith, nat_tests),
  omega (arith, digit_value_digit (48 + d) (omega arith, omega arith)),
)

-- ---- the decimal text of a number, digit by digit
pub two_digits : (n : ℕ) → 10 ≤ n → n < 100 → decimal n ≡ pad2 n
two_digits n l h = rw (decimal_step n l (omega arith), decimal_digit (n / 10) (omega arith))

pub three_digits : (n : ℕ) → 100 ≤ n → n < 1_000 → decimal n ≡ pad3 n
three_digits n l h =
    let e = rw (two_digits (n / 10) (omega arith) (omega arith)) at (decimal_step n (omega arith) (omega arith)) in
    grind arith

-- the table of pairs is held against the digits at each number below 100, by computing
pub pairs_at : (n : ℕ) → n < 100 → (get_or PAIRS (2 * n) 0 ≡ 48 + n / 10) × (get_or PAIRS (2 * n + 1) 0 ≡ 48 + n % 10)
pairs_at n l =
    eqb-true _ _ (agree_below_at (λ k. nat_eq (get_or PAIRS (2 * k) 0) (48 + k / 10)) (λ _. true) 100 n refl l) also
    eqb-true _ _ (agree_below_at (λ k. nat_eq (get_or PAIRS (2 * k + 1) 0) (48 + k % 10)) (λ _. true) 100 n refl l)

-- a number of 32 bits has at most ten digits
pub ten_long : (n : ℕ) → n < 2 ^ 32 → length (decimal n) ≤ 10
ten_long n h = length-decimal-le 10 n (omega arith) (omega arith) (omega arith)

pub ruleset ten_digits = (one_digit, ten_long)

pub one_longer : (n : ℕ) → 10 ≤ n → n < 2 ^ 64 → length (decimal n) ≡ length (decimal (n / 10)) + 1
one_longer n l h = rw (last_of_more n l h) (length-append (decimal (n / 10)) ((48 + n % 10) ∷ []))

pub ruleset decimal_steps = (one_digit, last_of_more, one_longer)

-- ---- a number of one to three digits, by bytes
-- the digits of the number, and then the rest
abbrev HasDigits : List ℕ → ℕ → List ℕ → Type 0
HasDigits bs n rest =
    (ds : List ℕ) × (0 < length ds) × Each is_ascii_digit ds × (n ≡ digits_value 10 ds) × (n < 1_000)
    × (bs ≡ ds ++ rest)

has_digits : (bs : List ℕ) (n : ℕ) (rest : List ℕ) → IsSmallNumber bs n rest → HasDigits bs n rest
has_digits bs n rest (_, inl (h, e)) =
    let a = digit_is n h in ((48 + n) ∷ [], omega arith, (a.0, tt), rw a.2 (omega arith), omega arith, e)
has_digits bs n rest (_, inr (inl (h, e))) =
    let a = digit_is (n / 10) (omega arith) in let b = digit_is (n % 10) (omega arith) in
    (pad2 n, omega arith, (a.0, (b.0, tt)), rw (a.2, b.2) (omega arith), omega arith, e)
has_digits bs n rest (_, inr (inr (h, e))) =
    let a = digit_is (n / 100) (omega arith) in let b = digit_is (n / 10 % 10) (omega arith) in
    let c = digit_is (n % 10) (omega arith) in
    (pad3 n, omega arith, (a.0, (b.0, (c.0, tt))), rw (a.2, b.2, c.2) (omega arith), h, e)

module _ (bs : List ℕ) (n : ℕ) (rest : List ℕ) (u : IsUtf8 bs) (b : IsSmallNumber bs n rest) where
  its : HasDigits bs n rest
  its = has_digits bs n rest b

  its_ascii : IsAscii its.0
  its_ascii = digits_ascii its.0 its.2

  pub small_cut : IsCharBoundary bs (length bs - length rest)
  small_cut = after_cut its.0 bs rest its_ascii u its.5

  rest_utf8 : IsUtf8 rest
  rest_utf8 = rw (after_is its.0 bs rest its_ascii u its.5 _ refl) at
      (IsUtf8-drop bs (length bs - length rest) u small_cut)

  pub small_read : (ys : List ℕ) → ys ≡ drop (length bs - length rest) bs
      → Front (number 4294967295) (chars bs) (chars ys) n
  small_read ys f = rw (after_is its.0 bs rest its_ascii u its.5 ys f) (front_of its.0
      (after_chars its.0 bs rest its_ascii u its.5)
      (its.1, its.2, ends_digits rest rest_utf8 b.0, its.3, let small = its.4 in omega arith))

-- ---- a number up to a limit, from one up to another

pub number_past : {t : Text} (l limit : ℕ) {q : Text} {n : ℕ} → Front (number l) t q n → limit < n
    → NoFront (number limit) t
number_past l limit {q = q} f great p r m e h =
    let s = run_same is_ascii_digit f.piece q p r (sym f.whole ∙ e) f.is.1 f.is.2 h.1 h.2 in
    let same = f.is.3 ∙ ap (digits_value 10) s ∙ sym h.3 in
    let small = h.4 in absurd (omega arith)

-- ---- printed texts, and the bytes that are written of them

-- the bytes of a text that a slice holds
pub encodes_shown : (bytes source : List ℕ) → IsUtf8 bytes → bytes ≡ source → encode_utf8_all (chars source) ≡ bytes
encodes_shown bytes source u e = ap (λ (x : List ℕ). encode_utf8_all (chars x)) (sym e) ∙ encodes-chars bytes u

-- one more of the items whose texts are printed one after the other
encodes_on : {Y : Type 0} (f : Y → Text) (head : Text) (ys : List Y) (y : Y) (bytes : List ℕ)
    → encode_utf8_all (f y) ≡ bytes → encode_utf8_all (head ++ flat_map f ys) ++ bytes
    ≡ encode_utf8_all (head ++ flat_map f (ys ++ (y ∷ [])))
encodes_on f head ys y bytes e = rw (← e, ← encodes-append (head ++ flat_map f ys) (f y))
    (ap encode_utf8_all (simp (flat_map-append, append_assoc, append-nil)))

-- of a list
pub encodes_step : {X : Type 0} (f : X → Text) (head : Text) (xs : List X) (i : ℕ) (x : X) (bytes : List ℕ)
    → i < length xs → x ≡ get_or xs i x → encode_utf8_all (f x) ≡ bytes
    → encode_utf8_all (head ++ flat_map f (take i xs)) ++ bytes ≡ encode_utf8_all (head ++ flat_map f (take (i + 1) xs))
encodes_step f head xs i x bytes h at e = rw (take_more xs i x h, ← at) (encodes_on f head (take i xs) x bytes e)

-- that an iterator gives
pub encodes_more : {X Y : Type 0} (f : Y → Text) (view : X → Y) (head : Text) (xs : List X) (x : X) (bytes : List ℕ)
    → encode_utf8_all (f (view x)) ≡ bytes → encode_utf8_all (head ++ flat_map f (map view xs)) ++ bytes
    ≡ encode_utf8_all (head ++ flat_map f (map view (xs ++ (x ∷ []))))
encodes_more f view head xs x bytes e =
    rw (map-append view xs (x ∷ [])) (encodes_on f head (map view xs) (view x) bytes e)
