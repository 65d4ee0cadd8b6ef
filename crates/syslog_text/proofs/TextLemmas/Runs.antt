-- From the bytes of a text to its characters: cuts, runs, and what the first bytes say.
use Rattle.syslog_text.proofs.Names.{IsCharBoundary-before_ascii, IsCharBoundary-after_ascii, IsCharBoundary-at_seam}
use Rattle.syslog_text.proofs.Names.{IsCharBoundary-start, get_or_append_left, IsUtf8-from_ascii, is_not_whitespace}
use Rattle.syslog_text.proofs.Names.{length-le-encodes, drop-append_seam, take-append_seam, take-append-drop, IsAscii}
use Rattle.syslog_text.proofs.Names.{encodes-IsAscii, encode_utf8_all, byte_from_char, char_from_byte, is_ascii_digit}
use Rattle.syslog_text.proofs.Names.{encodes-append, IsCharBoundary, agree_below_at, encodes-chars, chars-IsAscii, []}
use Rattle.syslog_text.proofs.Names.{length-append, is_whitespace, chars-encodes, scalars-chars, BeginsVisibly, false}
use Rattle.syslog_text.proofs.Names.{BeginsWithGap, IsAscii-cons, chars-append, length-take, agree_below, get_or-drop}
use Rattle.syslog_text.proofs.Names.{IsAscii-nil, IsUtf8-take, length-drop, IsUtf8-drop, get_or-take, cases_Bool, ◌≡◌}
use Rattle.syslog_text.proofs.Names.{length-map, nat_tests, chars-nil, name_text, and_parts, SplitsRun, CharClass, ap}
use Rattle.syslog_text.proofs.Names.{replicate, drop_more, not-false, cases_lt, and_left, ltb-true, some_run, add-one}
use Rattle.syslog_text.proofs.Names.{run_same, each_map, is_blank, not-true, and_from, eqb-true, bytes_eq, add-zero}
use Rattle.syslog_text.proofs.Names.{NoFront, EndsRun, byte_in, past_in, exactly, IsRunIn, trimmed, Visible, nat_eq}
use Rattle.syslog_text.proofs.Names.{length, get_or, IsUtf8, bit_or, Option, IsHost, nat_lt, lt-ltb, number, IsBare}
use Rattle.syslog_text.proofs.Names.{◌also◌, arith, chars, Front, Names, Class, IsRun, Bool, true, List, ◌++◌, Text}
use Rattle.syslog_text.proofs.Names.{Each, Ends, take, drop, Some, None, word, host, zero, refl, cond, Fits, ◌&&◌, w8}
use Rattle.syslog_text.proofs.Names.{◌||◌, ◌≢◌, ◌∷◌, ◌<◌, has, ◌+◌, ◌%◌, ◌^◌, map, eqb, beq, ◌/◌, sym, ◌∙◌, suc, ◌-◌}
use Rattle.syslog_text.proofs.Names.{◌≤◌, inl, inr, not, run, ℕ, first_set, visible_byte}
use Rattle.std.proofs.lemmas.List.{get_or-append-add, nil_from_length, take_all, take_more}
use Rattle.std.proofs.lemmas.Slice.Eq.{bytes_eq-Decides}
use Rattle.std.proofs.lemmas.Bool.{le-ltb, not_from_true, and_right}
use Rattle.std.specs.Int.RustNames.{bit_xor}
use Rattle.std.proofs.lemmas.Simd.{first_set_mask_l, run_in_chunk_fails, run_in_chunk_le, run_in_chunk_stops, map-map}
use Rattle.std.proofs.lemmas.Simd.{mask_l-mod, length-chunk, zip2_of_maps, zip2_splat, splat_is_map}
use Rattle.std.specs.Char.{is_ascii_whitespace}
use Rattle.std.specs.Str.{IsTrimAscii}
use Rattle.std.specs.Prelude.{slice_index}
use Rattle.std.specs.Str.{all_scalars, trim, trim_start, trim_end, skip_leading_whitespace, drop_trailing_whitespace}
use mir.Val.{bool_byte}
use lib.Lanes.{chunk, zip2, mask_l, top}
use lib.Utf8.{scalar, encode}
use Rattle.syslog_text.proofs.PieceLemmas.Class.{front_of}
pub use Rattle.std.proofs.lemmas.Bool.{not-true as from_not_true}

-- ---- texts and their bytes
pub same_chars : (bs ds : List ℕ) → IsUtf8 bs → IsUtf8 ds → chars bs ≡ chars ds → bs ≡ ds
same_chars bs ds u v e = sym (encodes-chars bs u) ∙ ap encode_utf8_all e ∙ encodes-chars ds v

pub chars_empty : (bs : List ℕ) → length bs ≡ 0 → length (chars bs) ≡ 0
chars_empty bs e = rw (nil_from_length bs e, chars-nil) refl

some_encodes : (cs : Text) (bs : List ℕ) → encode_utf8_all cs ≡ bs → 0 < length bs → 0 < length cs
some_encodes [] bs e l = absurd (omega (arith, ap length e))
some_encodes (c ∷ cs) bs e l = omega arith

pub chars_nonempty : (bs : List ℕ) → IsUtf8 bs → 0 < length bs → 0 < length (chars bs)
chars_nonempty bs u l = some_encodes (chars bs) bs (encodes-chars bs u) l

-- a text whose characters are ASCII is its characters
pub ascii_chars : (bs : List ℕ) → IsUtf8 bs → IsAscii (chars bs) → chars bs ≡ bs
ascii_chars bs u a = sym (encodes-IsAscii (chars bs) a) ∙ encodes-chars bs u

pub low_ascii : (test : ℕ → Bool) (cs : Text) → ((c : ℕ) → test c ≡ true → c < 128) → Each test cs → IsAscii cs
low_ascii test [] low h = IsAscii-nil
low_ascii test (c ∷ cs) low h = IsAscii-cons c cs (low c h.0) (low_ascii test cs low h.1)

pub digits_ascii : (cs : Text) → Each is_ascii_digit cs → IsAscii cs
digits_ascii cs = low_ascii is_ascii_digit cs (λ c h. grind (arith, nat_tests))

pub digit_chars : (bs : List ℕ) → IsUtf8 bs → Each is_ascii_digit (chars bs) → chars bs ≡ bs
digit_chars bs u h = ascii_chars bs u (digits_ascii (chars bs) h)

pub one_ascii : (c : ℕ) → c < 128 → IsAscii (c ∷ [])
one_ascii c l = IsAscii-cons c [] l IsAscii-nil

-- the first character is the first byte, or both are past ASCII
first_char : (test : ℕ → Bool) (bs cs : List ℕ) → encode_utf8_all cs ≡ bs → 0 < length bs → ((c : ℕ) → (c < 128 → get_or
    bs 0 0 ≡ c) → (get_or bs 0 0 < 128 → c ≡ get_or bs 0 0) → test c ≡ false) → Ends test cs
first_char test bs [] e l f = tt
first_char test bs (c ∷ cs) e l f = f c (byte_from_char bs (encode_utf8_all cs) c (sym e))
    (λ low. char_from_byte bs (encode_utf8_all cs) c (sym e) low l)

pub ends_by_byte : (test : ℕ → Bool) (bs : List ℕ) → IsUtf8 bs → (0 < length bs → (c : ℕ)
    → (c < 128 → get_or bs 0 0 ≡ c) → (get_or bs 0 0 < 128 → c ≡ get_or bs 0 0) → test c ≡ false) → Ends test (chars bs)
ends_by_byte test [] u f = rw chars-nil tt
ends_by_byte test (b ∷ bs) u f =
    first_char test (b ∷ bs) (chars (b ∷ bs)) (encodes-chars (b ∷ bs) u) (omega arith) (f (omega arith))

-- ---- what `is_empty` and a comparison with an ASCII text return
pub empty_is : (n : ℕ) → true ≡ nat_eq n 0 → n ≡ 0
empty_is n h = eqb-true n 0 (sym h)

pub nonempty_is : (n : ℕ) → false ≡ nat_eq n 0 → 0 < n
nonempty_is n h = grind (arith, nat_tests)

pub text_is : (bs : List ℕ) (w : Text) → IsAscii w → true ≡ bytes_eq bs w → chars bs ≡ w
text_is bs w a h = ap chars ((bytes_eq-Decides bs w).0 (sym h)) ∙ chars-IsAscii w a

pub text_same : (bs : List ℕ) (w : Text) → IsUtf8 bs → IsAscii w → chars bs ≡ w → bytes_eq bs w ≡ true
text_same bs w u a e =
    (bytes_eq-Decides bs w).1 (sym (encodes-chars bs u) ∙ ap encode_utf8_all e ∙ encodes-IsAscii w a)

pub text_is_not : (bs : List ℕ) (w : Text) → IsUtf8 bs → IsAscii w → false ≡ bytes_eq bs w → chars bs ≢ w
text_is_not bs w u a h e =
    let f : bs ≡ w = sym (encodes-chars bs u) ∙ ap encode_utf8_all e ∙ encodes-IsAscii w a in
    let t = (bytes_eq-Decides bs w).1 f in cc

-- ASCII at the front of bytes
pub ascii_front : (p rest bs : List ℕ) → IsAscii p → bs ≡ p ++ rest → chars bs ≡ p ++ chars rest
ascii_front p rest bs a e = rw e (chars-append p rest (IsUtf8-from_ascii p a)
    ∙ ap (λ (x : List ℕ). x ++ chars rest) (chars-IsAscii p a))

-- ASCII at the front of characters
pub ascii_ahead : (p q bs : List ℕ) → IsUtf8 bs → IsAscii p → chars bs ≡ p ++ q → bs ≡ p ++ encode_utf8_all q
ascii_ahead p q bs u a e = sym (encodes-chars bs u) ∙ ap encode_utf8_all e ∙ encodes-append p q
    ∙ ap (λ (x : List ℕ). x ++ encode_utf8_all q) (encodes-IsAscii p a)

-- what is before text is text
pub before_utf8 : (bs front back : List ℕ) → IsUtf8 bs → IsUtf8 back → bs ≡ front ++ back → IsUtf8 front
before_utf8 bs front back u z e =
    rw (e, take-append_seam) at (IsUtf8-take bs (length front) u (IsCharBoundary-at_seam bs front back e z))

pub chars_cut : (bs xs ys : List ℕ) → bs ≡ xs ++ ys → IsUtf8 xs → chars bs ≡ chars xs ++ chars ys
chars_cut bs xs ys e u = rw e (chars-append xs ys u)

-- ---- a text cut by bytes before a rest of it
module _ (t r : List ℕ) (u : IsUtf8 t) (z : IsUtf8 r) (p : Text) (whole : chars t ≡ p ++ chars r) where
  pub bytes : t ≡ encode_utf8_all p ++ r
  bytes = sym (encodes-chars t u) ∙ ap encode_utf8_all whole ∙ encodes-append p (chars r)
      ∙ ap (λ (x : List ℕ). encode_utf8_all p ++ x) (encodes-chars r z)

  pub rest_shorter : length r ≤ length t
  rest_shorter = omega (arith, ap length bytes, length-append (encode_utf8_all p) r)

  front_length : length (encode_utf8_all p) ≡ length t - length r
  front_length = omega (arith, ap length bytes, length-append (encode_utf8_all p) r)

  -- the text may be cut there
  pub front_cut : IsCharBoundary t (length t - length r)
  front_cut = rw (← front_length) (IsCharBoundary-at_seam t (encode_utf8_all p) r bytes z)

  -- and what is before the rest is what was cut off
  pub front_chars : (xs : List ℕ) → xs ≡ take (length t - length r) t → chars t ≡ chars xs ++ chars r
  front_chars xs e =
      let n = length (encode_utf8_all p) in
      let same = e ∙ rw (← front_length) (ap (take n) bytes ∙ take-append_seam (encode_utf8_all p) r) in
      chars_cut t xs r (rw same bytes) (rw e (IsUtf8-take t (length t - length r) u front_cut))

-- ---- words, hosts and gaps that are in printed form
pub names_text : (p : Text) (v : Option Text) → Names p v → p ≡ name_text v
names_text p None m = m
names_text p (Some t) m = sym m.0

pub host_text : (p q : Text) (v : Option Text) → IsHost p q v → p ≡ name_text v
host_text p q v (l, a, inl (n, b, m)) = names_text p v m
host_text p q v (l, a, inr (r, f, b, m)) = rw m

-- a word and a host are in printed form
pub word_stands : (text follows : Text) (v : Option Text) → Front word text follows v → text ≡ name_text v ++ follows
word_stands text follows v f = f.whole ∙ ap (λ (x : Text). x ++ follows) (names_text f.piece v f.is.4)

pub host_stands : (text follows : Text) (v : Option Text) → Front host text follows v → text ≡ name_text v ++ follows
host_stands text follows v f = f.whole ∙ ap (λ (x : Text). x ++ follows) (host_text f.piece follows v f.is)

-- ---- bytes in printed form

-- a space, and then as many bytes as the rest has
pub space_stands : (t r : List ℕ) → IsUtf8 t → IsUtf8 r → (gap : Text) → chars t ≡ gap ++ chars r → t ≡ 32 ∷ drop 1 t
    → length t ≡ suc (length r) → chars t ≡ 32 ∷ chars r
space_stands t r u z gap e f l =
    let n : length t - length r ≡ 1 = omega arith in
    rw (chars-IsAscii (32 ∷ []) (one_ascii 32 (omega arith))) at
    (front_chars t r u z gap e (32 ∷ []) (rw n (sym (ap (take 1) f))))

-- equal characters are of equal bytes
pub same_bytes : (t r : List ℕ) → IsUtf8 t → IsUtf8 r → chars t ≡ chars r → t ≡ r
same_bytes t r u z e = sym (encodes-chars t u) ∙ ap encode_utf8_all e ∙ encodes-chars r z

-- a space and a rest, in bytes
pub space_bytes : (t r : List ℕ) → IsUtf8 t → IsUtf8 r → chars t ≡ 32 ∷ chars r → t ≡ 32 ∷ r
space_bytes t r u z e = bytes t r u z (32 ∷ []) e
    ∙ ap (λ (x : List ℕ). x ++ r) (encodes-IsAscii (32 ∷ []) (one_ascii 32 (omega arith)))

-- ---- where a run ends

pub ends_run : (test : ℕ → Bool) (bs : List ℕ) (n : ℕ) → IsUtf8 bs → IsCharBoundary bs n → Each test (chars (take n bs))
    → Ends test (chars (drop n bs)) → EndsRun test bs n
ends_run test bs n u b each ends =
    let w = sym (take-append-drop n bs) in
    let front = IsUtf8-take bs n u b in
    let chars = chars_cut bs (take n bs) (drop n bs) w front in
    let back = IsUtf8-drop bs n u b in
    b also record { whole = w; characters = chars; each = each; ends = ends; front_utf8 = front; back_utf8 = back }

-- a split there
pub split_at_end : (h : ℕ → Bool) (bs xs ys : List ℕ) (n : ℕ) → EndsRun h bs n → xs ≡ take n bs → ys ≡ drop n bs
    → SplitsRun h bs xs ys
split_at_end h bs xs ys n e f g = rw (f, g) e.1

-- what follows two characters after a run is shorter than the text
pub after_two : {test : ℕ → Bool} {bs xs ys : List ℕ} {c d : ℕ} {q r : Text} → SplitsRun test bs xs ys
    → chars ys ≡ c ∷ q
    → q ≡ d ∷ r → length r < length (chars bs)
after_two {xs = xs} {ys = ys} s e f =
    omega (arith, ap length s.characters, length-append (chars xs) (chars ys), ap length e, ap length f)

-- what follows one character after a run is shorter than the text
pub after_one : {test : ℕ → Bool} {bs xs ys : List ℕ} {c : ℕ} {q : Text} → SplitsRun test bs xs ys → chars ys ≡ c ∷ q
    → length q < length (chars bs)
after_one {xs = xs} {ys = ys} s e =
    omega (arith, ap length s.characters, length-append (chars xs) (chars ys), ap length e)

-- what follows a run that is not empty is shorter than the text
pub after_run : {test : ℕ → Bool} {bs xs ys : List ℕ} → SplitsRun test bs xs ys → 0 < length xs
    → length (chars ys) < length (chars bs)
after_run {xs = xs} {ys = ys} s more =
    let some = chars_nonempty xs s.front_utf8 more in
    omega (arith, some, ap length s.characters, length-append (chars xs) (chars ys))

-- a text that is one ASCII character
pub char_alone : (c : ℕ) → c < 128 → chars (c ∷ []) ≡ c ∷ []
char_alone c low = chars-IsAscii (c ∷ []) (one_ascii c low)

-- ---- a run of ASCII bytes

each_by_place : (h : ℕ → Bool) (bs : List ℕ) → ((k : ℕ) → k < length bs → h (get_or bs k 0) ≡ true) → Each h bs
each_by_place h [] f = tt
each_by_place h (b ∷ bs) f = (f 0 (omega arith), each_by_place h bs (λ k lt. f (suc k) (omega arith)))

-- a text may be cut after ASCII bytes
pub ascii_cut : (bs : List ℕ) (n : ℕ) → IsUtf8 bs → n ≤ length bs → ((k : ℕ) → k < n → get_or bs k 0 < 128)
    → IsCharBoundary bs n
ascii_cut bs zero u l f = IsCharBoundary-start bs u
ascii_cut bs (suc n) u l f = rw add-one at (IsCharBoundary-after_ascii bs n u (omega arith) (f n (omega arith)))

pub first_left : (n : ℕ) (bs : List ℕ) → get_or (drop n bs) 0 0 ≡ get_or bs n 0
first_left n bs = rw add-zero at (get_or-drop n bs 0 0)

module _ (class : CharClass) where
  byte_parts : (b : ℕ) → byte_in class b ≡ true → (b < 128) × (has class b ≡ true)
  byte_parts b e = let p = and_parts (nat_lt b 128) (has class b) e in (ltb-true b 128 p.0, p.1)

  -- the characters of the run are its bytes, and no ASCII character of the class is after them
  pub ascii_run : (bs : List ℕ) (n : ℕ) → IsUtf8 bs → IsRun (byte_in class) bs n → EndsRun (byte_in class) bs n
  ascii_run bs n u r =
      let cut = ascii_cut bs n u r.within (λ k lt. (byte_parts _ (r.pass k lt)).0) in
      let each : Each (byte_in class) (take n bs) = each_by_place (byte_in class) (take n bs) (λ k lt.
      let less : k < n = omega (arith, lt, length-take n bs) in rw get_or-take (r.pass k less)) in
      ends_run (byte_in class) bs n u cut
      (rw (chars-IsAscii (take n bs) (low_ascii (byte_in class) (take n bs) (λ c e. (byte_parts c e).0) each)) each)
      (ends_by_byte (byte_in class) (drop n bs) (IsUtf8-drop bs n u cut) (λ l c byte char. elim (cases_lt c 128) [
        | inl low ↦ rw (sym (byte low) ∙ first_left n bs) (r.stops (omega (arith, l, length-drop n bs)))
        | inr high ↦ and_left (nat_lt c 128) (has class c) (le-ltb c 128 high)
      ]))

  -- no character past ASCII is after the place, where an ASCII byte is, or nothing
  pub ends_at_cut : (bs : List ℕ) (n : ℕ) → IsUtf8 (drop n bs) → (n < length bs → get_or bs n 0 < 128)
      → Ends (past_in class) (chars (drop n bs))
  ends_at_cut bs n u low = ends_by_byte (past_in class) (drop n bs) u (λ l c byte char.
      and_left (not (nat_lt c 128)) (has class c) (not_from_true (nat_lt c 128)
      (lt-ltb c 128 (omega (arith, char, first_left n bs, (low (omega (arith, l, length-drop n bs))))))))

  -- where neither an ASCII character nor one past ASCII is of the class, no character is
  pub ends_both : (t : Text) → Ends (byte_in class) t → Ends (past_in class) t → Ends (has class) t
  ends_both [] f g = tt
  ends_both (c ∷ t) f g = elim (cases_Bool (nat_lt c 128)) [ inl low ↦ rw low at f | inr high ↦ rw high at g ]

  -- such a run before an ASCII byte, or at the end, is one of all characters
  pub all_end : (bs : List ℕ) (n : ℕ) → IsUtf8 bs → EndsRun (byte_in class) bs n
      → (n < length bs → get_or bs n 0 < 128) → EndsRun (has class) bs n
  all_end bs n u (cut, s) low =
      ends_run (has class) bs n u cut (each_map (byte_in class) (has class) (λ c a. (byte_parts c a).1) _ s.each)
      (ends_both (chars (drop n bs)) s.ends (ends_at_cut bs n s.back_utf8 low))

-- ---- a run of bytes of visible characters

-- no white space is from 192 to 4095, or from 16384 on: b is the first byte of the character c
visible_lead : (c b : ℕ) → visible_byte b ≡ true → (c < 128 → b ≡ c) → (128 ≤ c → c < 2048 → b ≡ 192 + c / 64)
    → (2048 ≤ c → c < 65536 → b ≡ 224 + c / 4096) → is_not_whitespace c ≡ true
visible_lead c b h one two three = grind (arith, nat_tests)

visible_char : (c : ℕ) (more : List ℕ) → visible_byte (get_or (encode c ++ more) 0 0) ≡ true
    → is_not_whitespace c ≡ true
unfolding encode
visible_char c more h = visible_lead c (get_or (encode c ++ more) 0 0) h (λ l. rw (lt-ltb c 128 l) refl)
    (λ l m. rw (le-ltb c 128 l, lt-ltb c 2048 m) refl)
    (λ l m. rw (le-ltb c 128 (omega arith), le-ltb c 2048 l, lt-ltb c 65536 m) refl)

each_visible : (cs : Text) → ((k : ℕ) → k < length (encode_utf8_all cs)
    → visible_byte (get_or (encode_utf8_all cs) k 0) ≡ true) → Each is_not_whitespace cs
each_visible [] h = tt
each_visible (c ∷ cs) h =
    visible_char c (encode_utf8_all cs) (h 0 (omega (arith, length-le-encodes (c ∷ cs))))
    also each_visible cs (λ k l. rw get_or-append-add at (h (length (encode c) + k)
    (omega (arith, l, length-append (encode c) (encode_utf8_all cs)))))

-- before an ASCII byte it is the run of those characters
pub visible_run : (bs : List ℕ) (n : ℕ) → IsUtf8 bs → IsRun visible_byte bs n → n < length bs → get_or bs n 0 < 128
    → EndsRun is_not_whitespace bs n
visible_run bs n u r short low =
    let cut = IsCharBoundary-before_ascii bs n short low in
    let white = sym (agree_below_at visible_byte is_not_whitespace 128 _ refl low) ∙ r.stops short in
    ends_run is_not_whitespace bs n u cut
    (each_visible _ (rw (encodes-chars (take n bs) (IsUtf8-take bs n u cut)) (λ k l.
    let less : k < n = omega (arith, l, length-take n bs) in rw get_or-take (r.pass k less))))
    (ends_by_byte is_not_whitespace (drop n bs) (IsUtf8-drop bs n u cut) (λ l c byte char.
    rw (char (rw (first_left n bs) low) ∙ first_left n bs) white))

-- ---- the front of a run

-- no piece of such characters is at the front of a text that begins with none
pub no_run : (test : ℕ → Bool) (t : Text) → Ends test t → (C : Class)
    → ((p q : Text) (v : C.Value) → C.Is p q v → (0 < length p) × Each test p) → NoFront C t
no_run test t ends C f [] q v e h = absurd (let l = (f [] q v h).0 in omega arith)
no_run test t ends C f (c ∷ p) q v e h = let k = (f (c ∷ p) q v h).1.0 in let n = rw e at ends in cc

module _ (test : ℕ → Bool) (bs xs ys : List ℕ) (s : SplitsRun test bs xs ys) where
  pub run_front : Front (run test) (chars bs) (chars ys) tt
  run_front = record { piece = chars xs; whole = s.characters; is = (s.each, s.ends) }

  pub some_run_front : 0 < length xs → Front (some_run test) (chars bs) (chars ys) tt
  some_run_front l =
      record { piece = chars xs; whole = s.characters; is = (chars_nonempty xs s.front_utf8 l, s.each, s.ends) }

  -- another run at the front is the same
  pub run_is : (p q : Text) → chars bs ≡ p ++ q → Each test p → Ends test q → p ≡ chars xs
  run_is p q e a b = run_same test p q (chars xs) (chars ys) (sym e ∙ s.characters) a b s.each s.ends

  -- where the run is empty, no piece of such characters is at the front
  pub no_run_front : length xs ≡ 0 → (C : Class)
      → ((p q : Text) (v : C.Value) → C.Is p q v → (0 < length p) × Each test p) → NoFront C (chars bs)
  no_run_front z =
      no_run test (chars bs) (rw (s.characters, nil_from_length (chars xs) (chars_empty xs z)) s.ends)

  pub no_some_run : length xs ≡ 0 → NoFront (some_run test) (chars bs)
  no_some_run z = no_run_front z (some_run test) (λ p q v h. (h.0, h.1))

-- each text has a maximal run at its front
pub some_front_run : (test : ℕ → Bool) (text : Text) → (q : Text) × Front (run test) text q tt
some_front_run test [] = ([], record { piece = []; whole = refl; is = (tt, tt) })
some_front_run test (c ∷ cs) = elim (cases_Bool (test c)) [
  | inl passes ↦ (let (q, f) = some_front_run test cs in
      (q, record { piece = c ∷ f.piece; whole = ap (λ (x : Text). c ∷ x) f.whole; is = ((passes, f.is.0), f.is.1) }))
  | inr fails ↦ (c ∷ cs, record { piece = []; whole = refl; is = (tt, fails) })
]

-- what the reader of a run that is not empty rests on
pub ruleset some_read = (split_at_end, some_run_front, nonempty_is)

-- ---- a text after ASCII bytes
module _ (p bs rest : List ℕ) (a : IsAscii p) (u : IsUtf8 bs) (e : bs ≡ p ++ rest) where
  place : length p ≡ length bs - length rest
  place = omega (arith, ap length e, length-append p rest)

  -- it may be cut there
  pub after_cut : IsCharBoundary bs (length bs - length rest)
  after_cut = rw (← place) (ascii_cut bs (length p) u (omega (arith, ap length e, length-append p rest))
      (λ k l. rw (e, get_or_append_left) (a k)))

  -- and what is cut off is the rest
  pub after_is : (ys : List ℕ) → ys ≡ drop (length bs - length rest) bs → ys ≡ rest
  after_is ys f = f ∙ rw (← place) (ap (drop (length p)) e ∙ drop-append_seam p rest)

  pub after_chars : chars bs ≡ p ++ chars rest
  after_chars = ascii_front p rest bs a e

-- ---- one byte
module _ (b : ℕ) (bs : List ℕ) (low : b < 128) (u : IsUtf8 bs) where
  pub one_cut : bs ≡ b ∷ drop 1 bs → IsCharBoundary bs 1
  one_cut e = IsCharBoundary-after_ascii bs 0 u (omega (arith, ap length e))
      (let k = ap (λ (x : List ℕ). get_or x 0 0) e in omega arith)

  pub one_front : bs ≡ b ∷ drop 1 bs → (ys : List ℕ) → ys ≡ drop 1 bs
      → Front (exactly (b ∷ [])) (chars bs) (chars ys) tt
  one_front e ys f = front_of (b ∷ [])
      (ascii_front (b ∷ []) ys bs (one_ascii b low) (e ∙ ap (λ (x : List ℕ). b ∷ x) (sym f))) refl

  pub no_one_front : ((more : List ℕ) → bs ≢ b ∷ more) → NoFront (exactly (b ∷ [])) (chars bs)
  no_one_front n p q v e h =
      n (encode_utf8_all q) (ascii_ahead (b ∷ []) q bs u (one_ascii b low) (e ∙ ap (λ (x : List ℕ). x ++ q) h))

-- ---- gaps
-- the byte, or a character past ASCII
no_blank : (c byte : ℕ) → (c < 128 → byte ≡ c) → 32 < byte → is_blank c ≡ false
no_blank c byte e h = grind (arith, nat_tests)

-- a text that begins past white space begins with no blank
pub no_blanks : (bs : List ℕ) → IsUtf8 bs → BeginsVisibly bs → Front (run is_blank) (chars bs) (chars bs) tt
no_blanks bs u g =
    front_of [] refl (tt, ends_by_byte is_blank bs u (λ l c byte char. no_blank c (get_or bs 0 0) byte g.1))

pub gap_cut : (bs : List ℕ) → IsUtf8 bs → BeginsWithGap bs → IsCharBoundary bs 1
gap_cut bs u g = IsCharBoundary-after_ascii bs 0 u (omega (arith, g.0)) (omega (arith, g.1))

pub gap_space : (bs : List ℕ) → BeginsWithGap bs → (ys : List ℕ) → ys ≡ drop 1 bs → chars bs ≡ 32 ∷ chars ys
gap_space bs g ys f =
    ascii_front (32 ∷ []) ys bs (one_ascii 32 (omega arith)) (rw (f, ← g.1) (drop_more bs 0 0 (omega (arith, g.0))))

pub gap_some : (bs : List ℕ) → IsUtf8 bs → BeginsWithGap bs → (ys : List ℕ) → ys ≡ drop 1 bs
    → Front (some_run is_blank) (chars bs) (chars ys) tt
gap_some bs u g ys f =
    let ends = ends_by_byte is_blank (drop 1 bs) (IsUtf8-drop bs 1 u (gap_cut bs u g))
    (λ l c byte char. no_blank c (get_or (drop 1 bs) 0 0) byte (omega (arith, first_left 1 bs, g.2))) in
    front_of (32 ∷ []) (gap_space bs g ys f) (omega arith, (refl, tt), rw f ends)

-- ---- no digit
-- no digit is at the front
pub ends_digits : (bs : List ℕ) → IsUtf8 bs → Ends is_ascii_digit bs → Ends is_ascii_digit (chars bs)
ends_digits [] u h = rw chars-nil tt
ends_digits (b ∷ bs) u h = ends_by_byte is_ascii_digit (b ∷ bs) u (λ l c byte char. elim (cases_lt c 128) [
  | inl low ↦ rw (sym (byte low)) h
  | inr high ↦ grind (arith, nat_tests)
])

pub no_number : (limit : ℕ) (bs : List ℕ) → IsUtf8 bs → Ends is_ascii_digit bs → NoFront (number limit) (chars bs)
no_number limit bs u h = no_run is_ascii_digit (chars bs) (ends_digits bs u h) (number limit) (λ p q v k. (k.0, k.1))

-- ---- vectors that are computed lane by lane from a load v of so many bytes
pub record IsLanes (count : ℕ) (v z : List ℕ) (f : ℕ → ℕ) : Type 0 where
  pub same : length v ≡ count → z ≡ map f v

module _ {count : ℕ} {v : List ℕ} where
  -- each lane with one number
  pub lanes : (h : ℕ → ℕ → ℕ) (n : ℕ) → IsLanes count v (zip2 h v (replicate count n)) (λ x. h x n)
  lanes h n = record { same = λ long. zip2_splat h v count n long }

  pub joined : (h : ℕ → ℕ → ℕ) {y z : List ℕ} {f g : ℕ → ℕ} → IsLanes count v y f → IsLanes count v z g
      → IsLanes count v (zip2 h y z) (λ x. h (f x) (g x))
  joined h {f = f} {g = g} a b = record { same = λ long. zip2_of_maps h f g v (a.same long) (b.same long) }

  -- one number in each lane
  pub splat : (n : ℕ) → IsLanes count v (replicate count n) (λ _. n)
  splat n = record { same = splat_is_map v count n }

-- a lane of the kernel of a set stops where the set lacks it, by the results of the comparisons
pub mask_tests : (r a b c l p : Bool) → top 7 (bit_or (bit_xor (bit_or (cond r 255 0)
    (bit_or (bit_or (cond a 255 0) (cond b 255 0)) (cond c 255 0))) (cond (not (eqb (bool_byte l) 0)) 255 0))
    (cond p 255 0)) ≡ not (not p && beq (r || a || b || c) l)
mask_tests r a b c l p = grind arith

-- a lane stops just where q fails
pub run_in : {q : ℕ → Bool} {d : List ℕ} {i r : ℕ} {z : List ℕ} {f : ℕ → ℕ} → i + 16 ≤ length d → r ≡ first_set (mask_l
    (map (top 7) z) % 2 ^ 64) → IsLanes 16 (chunk i 16 d) z f → ((x : ℕ) → top 7 (f x) ≡ not (q x))
    → IsRunIn q d i r
run_in {q = q} {d = d} {i = i} {r = r} {z = z} {f = f} room found by_lanes all =
    let v = chunk i 16 d in
    let stops : ℕ → Bool = λ x. top 7 (f x) in
    let long = length-chunk i 16 d room in
    let mask = ap (λ l. mask_l l % 2 ^ 64) (ap (map (top 7)) (by_lanes.same long) ∙ map-map (top 7) f v)
    ∙ mask_l-mod (map stops v) 64 (omega (arith, length-map v stops, long)) in
    let counted = found ∙ ap first_set mask ∙ first_set_mask_l stops v 16 long (omega arith) in record {
      within = run_in_chunk_le stops d i 16 r 0 room counted;
      pass = λ k from to. not-false _ (sym (all _) ∙ run_in_chunk_fails stops d i 16 r 0 room counted k from to);
      stops = λ short. not-true _ (sym (all _) ∙ run_in_chunk_stops stops d i 16 r 0 room counted short);
    }

-- the run of a set is that of the class that it lists
pub class_run : {p q : ℕ → Bool} {d : List ℕ} {i r : ℕ} → agree_below p q 256 ≡ true
    → ((k : ℕ) → Fits w8 (get_or d k 0)) → IsRunIn p d i r → IsRunIn q d i r
class_run {p = p} {q = q} {d = d} {i = i} {r = r} all fits h =
    let same = λ (k : ℕ). sym (agree_below_at p q 256 (get_or d k 0) all (fits k).fits) in record {
      within = h.within;
      pass = λ k from to. same k ∙ h.pass k from to;
      stops = λ short. same (i + r) ∙ h.stops short;
    }

-- ---- `trim`, by characters
skip_scalars : (cs : Text) → all_scalars cs ≡ true → all_scalars (skip_leading_whitespace cs) ≡ true
skip_scalars [] h = refl
skip_scalars (c ∷ cs) h = elim (cases_Bool (is_whitespace c)) [
  | inl white ↦ rw white (skip_scalars cs (and_parts (scalar c) (all_scalars cs) h).1)
  | inr other ↦ rw other h
]

drop_scalars : (cs : Text) → all_scalars cs ≡ true → all_scalars (drop_trailing_whitespace cs) ≡ true
drop_scalars [] h = refl
drop_scalars (c ∷ cs) h =
    let p = and_parts (scalar c) (all_scalars cs) h in
    elim (cases_Bool (is_whitespace c && nat_eq (length (drop_trailing_whitespace cs)) 0)) [
      | inl white ↦ rw white refl
      | inr other ↦ rw other (and_from (scalar c) (all_scalars (drop_trailing_whitespace cs)) p.0 (drop_scalars cs p.1))
    ]

pub trimmed_chars : (bs : List ℕ) → IsUtf8 bs → chars (trim bs) ≡ trimmed (chars bs)
unfolding trim_start trim_end
trimmed_chars bs u =
    let s = skip_scalars (chars bs) (scalars-chars bs u) in
    rw (chars-encodes (skip_leading_whitespace (chars bs)) s)
    (chars-encodes (trimmed (chars bs)) (drop_scalars (skip_leading_whitespace (chars bs)) s))

pub end_trimmed_chars : (bs : List ℕ) → IsUtf8 bs → chars (trim_end bs) ≡ drop_trailing_whitespace (chars bs)
unfolding trim_end
end_trimmed_chars bs u =
    chars-encodes (drop_trailing_whitespace (chars bs)) (drop_scalars (chars bs) (scalars-chars bs u))

-- ---- texts with no white space at either end
end_stays : (cs : Text) (c : ℕ) → is_whitespace c ≡ false → drop_trailing_whitespace (cs ++ (c ∷ [])) ≡ cs ++ (c ∷ [])
end_stays [] c h = rw h refl
end_stays (d ∷ cs) c h =
    let some : nat_eq (length (cs ++ (c ∷ []))) 0 ≡ false = grind (arith, nat_tests, length-append cs (c ∷ [])) in
    rw (end_stays cs c h, and_right (is_whitespace d) _ some) refl

start_stays : (c : ℕ) (cs : Text) → is_whitespace c ≡ false → skip_leading_whitespace (c ∷ cs) ≡ c ∷ cs
start_stays c cs h = rw h refl

visible : (b : ℕ) → (nat_lt b 128 && not (is_whitespace b)) ≡ true → (b < 128) × (is_whitespace b ≡ false)
visible b h = let p = and_parts (nat_lt b 128) (not (is_whitespace b)) h in
    (ltb-true b 128 p.0, not-true (is_whitespace b) p.1)

-- the first and the last byte of two or more
pub bare_ends : (bs : List ℕ) → 2 ≤ length bs → byte_in Visible (get_or bs 0 0) ≡ true
    → byte_in Visible (get_or bs (length bs - 1) 0) ≡ true → IsBare bs
bare_ends [] l f g = absurd (omega arith)
bare_ends (b ∷ []) l f g = absurd (omega arith)
bare_ends (b ∷ d ∷ bs) l f g =
    let place : length (b ∷ d ∷ bs) - 1 ≡ suc (length bs) = omega arith in
    record {
      first = b;
      middle = take (length bs) (d ∷ bs);
      last = get_or (d ∷ bs) (length bs) 0;
      whole = ap (λ (x : List ℕ). b ∷ x)
          (sym (take_all (length bs + 1) (d ∷ bs) (omega arith)) ∙ take_more (d ∷ bs) (length bs) 0 (omega arith));
      first_in = f;
      last_in = rw place at g;
    }

module _ (bs : List ℕ) (u : IsUtf8 bs) (h : IsBare bs) where
  head : (h.first < 128) × (is_whitespace h.first ≡ false)
  head = visible h.first h.first_in

  last : (h.last < 128) × (is_whitespace h.last ≡ false)
  last = visible h.last h.last_in

  front_utf8 : IsUtf8 (h.first ∷ h.middle)
  front_utf8 = before_utf8 bs (h.first ∷ h.middle) (h.last ∷ []) u
      (IsUtf8-from_ascii (h.last ∷ []) (one_ascii h.last last.0)) h.whole

  text_split : chars bs ≡ (h.first ∷ chars h.middle) ++ (h.last ∷ [])
  text_split =
      let front = h.first ∷ h.middle in
      ap chars h.whole ∙ chars-append front (h.last ∷ []) front_utf8
      ∙ rw (chars-IsAscii (h.last ∷ []) (one_ascii h.last last.0)) (ap (λ (x : Text). x ++ (h.last ∷ []))
      (ascii_front (h.first ∷ []) h.middle front (one_ascii h.first head.0) refl))

  pub bare_trimmed : chars bs ≡ trimmed (chars bs)
  bare_trimmed =
      rw text_split (sym (ap drop_trailing_whitespace (start_stays h.first (chars h.middle ++ (h.last ∷ [])) head.1)
      ∙ end_stays (h.first ∷ chars h.middle) h.last last.1))

-- ---- between white space of ASCII
abbrev AreWhite : List ℕ → Type 0
AreWhite ws = (i : ℕ) → i < length ws → is_ascii_whitespace (slice_index ws i) ≡ true

white_low : (c : ℕ) → is_ascii_whitespace c ≡ true → (c < 128) × (is_whitespace c ≡ true)
white_low c h = (grind (arith, nat_tests), grind (arith, nat_tests))

white_ascii : (ws : List ℕ) → AreWhite ws → IsAscii ws
white_ascii [] h = IsAscii-nil
white_ascii (c ∷ ws) h =
    IsAscii-cons c ws (white_low c (h 0 (omega arith))).0 (white_ascii ws (λ i l. h (suc i) (omega (arith, l))))

skip_white : (ws t : Text) → AreWhite ws → skip_leading_whitespace (ws ++ t) ≡ skip_leading_whitespace t
skip_white [] t h = refl
skip_white (c ∷ ws) t h = rw (white_low c (h 0 (omega arith))).1 (skip_white ws t (λ i l. h (suc i) (omega (arith, l))))

all_white : (vs : Text) → AreWhite vs → drop_trailing_whitespace vs ≡ []
all_white [] h = refl
all_white (c ∷ vs) h =
    rw (all_white vs (λ i l. h (suc i) (omega (arith, l))), (white_low c (h 0 (omega arith))).1) refl

drop_white : (t vs : Text) → AreWhite vs → drop_trailing_whitespace (t ++ vs) ≡ drop_trailing_whitespace t
drop_white [] vs h = all_white vs h
drop_white (c ∷ t) vs h = rw (drop_white t vs h) refl

module _ (bs : List ℕ) (u : IsUtf8 bs) (h : IsBare bs) where
  abbrev after_first : Text
  after_first = chars h.middle ++ (h.last ∷ [])

  -- a bare text between white space is what is left without that
  between : (all ws vs : List ℕ) → AreWhite ws → AreWhite vs → all ≡ ws ++ (bs ++ vs) → chars bs ≡ trimmed (chars all)
  between all ws vs w v e =
      let whole : chars all ≡ ws ++ (chars bs ++ vs) = ascii_front ws (bs ++ vs) all (white_ascii ws w) e
      ∙ ap (λ (x : Text). ws ++ x) (chars-append bs vs u ∙ ap (λ (x : Text). chars bs ++ x)
      (chars-IsAscii vs (white_ascii vs v))) in
      let split : chars bs ≡ h.first ∷ after_first = text_split bs u h in
      let start : skip_leading_whitespace (chars bs ++ vs) ≡ chars bs ++ vs = rw split
      (start_stays h.first (after_first ++ vs) (head bs u h).1) in
      let bare : skip_leading_whitespace (chars bs) ≡ chars bs = rw split
      (start_stays h.first after_first (head bs u h).1) in
      bare_trimmed bs u h ∙ rw bare (sym (ap trimmed whole ∙ ap drop_trailing_whitespace
      (skip_white ws (chars bs ++ vs) w ∙ start) ∙ drop_white (chars bs) vs v))

-- what is left without white space of ASCII at either end is left without any, if it is bare
pub bare_inside : (all bs : List ℕ) → IsUtf8 bs → IsTrimAscii all bs → IsBare bs → chars bs ≡ trimmed (chars all)
bare_inside all bs u (m, is, below, _, from, _) h =
    let rest = drop m all in
    let inner : rest ≡ bs ++ drop (length bs) rest =
    sym (take-append-drop (length bs) rest) ∙ ap (λ (x : List ℕ). x ++ drop (length bs) rest) (sym is) in
    let whole : all ≡ take m all ++ (bs ++ drop (length bs) rest) =
    sym (take-append-drop m all) ∙ ap (λ (x : List ℕ). take m all ++ x) inner in
    between bs u h all (take m all) (drop (length bs) rest)
    (λ i l. let low : i < m = omega (arith, l, length-take m all) in rw (get_or-take m all i 0 low) (below i low))
    (λ i l. rw (get_or-drop (length bs) rest i 0) (from (length bs + i) (omega arith)
    (omega (arith, l, length-drop (length bs) rest)))) whole
