-- Texts in JSON by blocks of 16 or 32 bytes.
use Rattle.syslog_object.proofs.Names.{[], append_assoc, append-nil, is_plain, PlainBetween, unescaped, cond, bit_at}
use Rattle.syslog_object.proofs.Names.{w64, true, false, List, ◌++◌, length, take, drop, refl, arith, escape, get_or}
use Rattle.syslog_object.proofs.Names.{◌≡◌, ℕ, suc, zero, ◌<◌, ◌≤◌, ◌∷◌, sym, ap, ◌∙◌, ◌+◌, ◌-◌, ◌%◌, ◌^◌, ◌*◌, Bool}
use Rattle.syslog_object.proofs.Names.{not, map, inl, inr, subst, OnTrue, ◌⊎◌}
use Rattle.std.proofs.lemmas.Bool.Decides.{nat_tests}
use Rattle.std.specs.Prelude.{replicate}
use Rattle.std.proofs.lemmas.Simd.{length-chunk, take_more_put_chunk, bit_mask_l, get_or-chunk}
use Rattle.std.proofs.lemmas.Simd.{mask_l-lt, mask_l-mod, map-map, length-replicate}
use Rattle.std.proofs.lemmas.Nat.Bits.{bit_at-trailing_zeros, bit_at_clear_same, bit_at_clear_other, bit_at_above}
use Rattle.std.proofs.lemmas.Nat.Bits.{bit_at-zero}
use Rattle.std.proofs.lemmas.List.{get_or-map, length-map, take-append-drop, length-take, length-drop, length-append}
use Rattle.std.proofs.lemmas.List.{take-take, drop-drop, length-take-le, take-append-le, drop_all}
use Rattle.std.proofs.lemmas.List.{drop-replicate}
use Rattle.std.proofs.lemmas.Slice.{drop-append-drop}
use Rattle.std.proofs.lemmas.Nat.{and_le_l}
use Rattle.std.proofs.lemmas.Bool.{cases_lt, ne_eqb, cases_Bool}
use Rattle.std.specs.Int.{trailing_zeros, bit_not}
use lib.Bits.{bit_and}
use lib.Lanes.{chunk, mask_l, put_chunk, top}
use lib.Pow.{pow_mono}
use Rattle.json.specs.Run.{is_stop}
use Rattle.syslog_text.proofs.TextLemmas.Runs.{IsLanes}
use Rattle.syslog_object.specs.Blocks.{AreStops, in_json}
use Rattle.syslog_object.proofs.EscapeLemmas.{Plain, plain_escape, plain_front, plain_unescaped, escape-append}
use Rattle.std.proofs.Math.Seq.{take-append-add, take-append_seam, take-add, drop-cons}
use Rattle.syslog_object.specs.Object.{after_backslash}
use Rattle.syslog_elements.specs.StructuredData.Escapes.{pair_meaning}
use Rattle.std.proofs.Common.{add-one, get_or-take, get_or-drop, nat_eq}
use Rattle.json.specs.Print.{escape_byte}

-- `n` bytes of a text were stored
pub stored : (n at : ℕ) (room : List ℕ) (first : ℕ) (text : List ℕ) → at + n ≤ length room → first + n ≤ length text
    → take (at + n) (put_chunk at room (chunk first n text)) ≡ take at room ++ take n (drop first text)
stored n at room first text fits more =
    take_more_put_chunk at room (chunk first n text) (at + n) (omega (arith, length-chunk first n text more)) fits

shorter : (at n : ℕ) (room : List ℕ) (m : ℕ) (text : List ℕ) → n ≤ m → at ≤ length room
    → take (at + n) (take at room ++ take m text) ≡ take at room ++ take n text
shorter at n room m text less within =
    let long : at + n ≡ length (take at room) + n = omega (arith, length-take-le at room within) in
    ap (λ (k : ℕ). take k (take at room ++ take m text)) long ∙ take-append-add (take at room) (take m text) n
    ∙ ap (λ xs. take at room ++ xs) (take-take n m text less)

-- so many more bytes of a text were stored, or fewer
pub stored_to : (n at seen m : ℕ) (old room now text : List ℕ) → take (at + seen) room ≡ take at old ++ take seen text
    → take (at + seen + n) now ≡ take (at + seen) room ++ take n (drop seen text) → m ≤ seen + n → at ≤ length old
    → take (at + m) now ≡ take at old ++ take m text
stored_to n at seen m old room now text before added less within =
    let place : at + (seen + n) ≡ at + seen + n = omega arith in
    let all : take (at + (seen + n)) now ≡ take at old ++ take (seen + n) text =
    ap (λ (k : ℕ). take k now) place ∙ added ∙ ap (λ xs. xs ++ take n (drop seen text)) before
    ∙ append_assoc (take at old) (take seen text) (take n (drop seen text))
    ∙ ap (λ xs. take at old ++ xs) (sym (take-add seen n text)) in
    sym (take-take (at + m) (at + (seen + n)) now (omega arith)) ∙ ap (take (at + m)) all
    ∙ shorter at m old (seen + n) text less within

-- no byte up to there needs an escape
pub plain_to : (text : List ℕ) (seen n : ℕ) → PlainBetween text 0 seen
    → ((i : ℕ) → 0 ≤ i → i < n → is_stop (get_or text (seen + i) 0) ≡ false) → PlainBetween text 0 (seen + n)
plain_to text seen n before none k low high = elim (cases_lt k seen) [
  | inl less ↦ before k low less
  | inr more ↦
      let place : seen + (k - seen) ≡ k = omega arith in
      ap (λ (j : ℕ). not (is_stop (get_or text j 0))) (sym place) ∙ ap not (none (k - seen) (omega arith) (omega arith))
]

-- ---- the bytes that need an escape

-- the mask of a load, where a lane stops just where a byte needs an escape
pub stops_found : {n : ℕ} {d : List ℕ} {i r : ℕ} {z : List ℕ} {f : ℕ → ℕ} → n ≤ 64 → i + n ≤ length d
    → r ≡ mask_l (map (top 7) z) % 2 ^ 64 → IsLanes n (chunk i n d) z f → ((x : ℕ) → top 7 (f x) ≡ is_stop x)
    → AreStops n d i 0 r
stops_found {n = n} {d = d} {i = i} {r = r} {z = z} {f = f} wide room found by_lanes all =
    let v = chunk i n d in
    let stops : ℕ → Bool = λ x. top 7 (f x) in
    let long = length-chunk i n d room in
    let mask = found ∙ ap (λ l. mask_l l % 2 ^ 64) (ap (map (top 7)) (by_lanes.same long) ∙ map-map (top 7) f v)
    ∙ mask_l-mod (map stops v) 64 (omega (arith, length-map v stops, long)) in
    let few : mask_l (map stops v) < 2 ^ n = rw (length-map v stops, long) at (mask_l-lt (map stops v)) in record {
      few = rw mask few;
      before = λ k low. absurd (omega arith);
      each = λ k low high. let within : k < length v = omega (arith, long, high) in rw mask (bit_mask_l (map stops v) k
          ∙ ap (λ (b : Bool). cond b 1 0) (get_or-map stops v k 0 false within ∙ all _
          ∙ ap is_stop (get_or-chunk i n d k 0 high)));
    }

-- the first byte that needs an escape, of those that are not passed
pub record IsStopAt (n : ℕ) (text : List ℕ) (first passed left at : ℕ) : Type 0 where
  pub after : passed ≤ at
  pub within : at < n
  pub here : is_stop (get_or text (first + at) 0) ≡ true
  pub plain : (i : ℕ) → passed ≤ i → i < at → is_stop (get_or text (first + i) 0) ≡ false
  pub below : (i : ℕ) → i < at → bit_at left i ≡ 0

bit_on : (b : Bool) → ◌≡◌ {A = ℕ} (cond b 1 0) 1 → b ≡ true
bit_on b e = grind arith

bit_off : (b : Bool) → ◌≡◌ {A = ℕ} (cond b 1 0) 0 → b ≡ false
bit_off b e = grind arith

pub no_stop : {n : ℕ} {text : List ℕ} {first passed left : ℕ} → AreStops n text first passed left → left ≡ 0
    → (i : ℕ) → passed ≤ i → i < n → is_stop (get_or text (first + i) 0) ≡ false
no_stop {left = left} stops none i low high = bit_off _ (sym (stops.each i low high) ∙ rw none (bit_at-zero i))

pub first_stop : {n : ℕ} {text : List ℕ} {first passed left : ℕ} → n ≤ 64 → AreStops n text first passed left
    → 0 < left → IsStopAt n text first passed left (trailing_zeros w64 left)
first_stop {n = n} {text = text} {first = first} {passed = passed} {left = left} wide stops some =
    let few : left < 2 ^ n = stops.few in
    let (fits, on, below) = bit_at-trailing_zeros w64 left some (omega (arith, few, pow_mono wide)) in
    let at = trailing_zeros w64 left in
    let after : passed ≤ at = elim (cases_lt at passed) [
      | inl low ↦ absurd (omega (arith, sym on ∙ stops.before at low))
      | inr high ↦ high
    ] in
    let within : at < n = elim (cases_lt at n) [
      | inl low ↦ low
      | inr high ↦ absurd (omega (arith, sym on ∙ bit_at_above left n at few high))
    ] in record {
      after = after;
      within = within;
      here = bit_on _ (sym (stops.each at after within) ∙ on);
      plain = λ i low high. bit_off _ (sym (stops.each i low (omega arith)) ∙ below i high);
      below = below;
    }

-- the bit of a byte is cleared, where none before it is set
cleared : {n : ℕ} {text : List ℕ} {first passed left : ℕ} (at : ℕ) → n ≤ 64 → AreStops n text first passed left
    → passed ≤ at → at < n → ((i : ℕ) → i < at → bit_at left i ≡ 0)
    → AreStops n text first (at + 1) (bit_and left (bit_not w64 (1 * 2 ^ at % 2 ^ 64)))
cleared {left = left} at lanes stops after within below =
    let wide : at < 64 = omega arith in record {
      few = omega (arith, stops.few, and_le_l left (bit_not w64 (1 * 2 ^ at % 2 ^ 64)));
      before = λ i low. elim (cases_lt i at) [
        | inl less ↦ bit_at_clear_other w64 left at wide i (omega arith) (λ same. omega (arith, same)) ∙ below i less
        | inr more ↦ let same : i ≡ at = omega arith in rw same (bit_at_clear_same w64 left at wide)
      ];
      each = λ i low high. bit_at_clear_other w64 left at wide i (omega arith) (λ same. omega (arith, same))
          ∙ stops.each i (omega arith) high;
    }

-- ---- a block, a byte that needs an escape after the other

-- the bytes from one place up to another need no escape
plain_part : (text : List ℕ) (first n : ℕ) → ((i : ℕ) → i < n → is_stop (get_or text (first + i) 0) ≡ false)
    → Plain (take n (drop first text))
plain_part text first n plain k low high =
    let less : k < n = omega (arith, high, length-take n (drop first text)) in
    ap is_plain (get_or-take n (drop first text) k 0 less ∙ get_or-drop first text k 0) ∙ ap not (plain k less)

-- bytes that need no escape stay as they are
pub in_json_plain : (raw : Bool) (xs ys : List ℕ) → Plain xs → in_json raw (xs ++ ys) ≡ xs ++ in_json raw ys
in_json_plain false xs ys plain =
    escape-append xs ys ∙ ap (λ zs. zs ++ escape ys) (plain_escape xs plain)
in_json_plain true xs ys plain =
    ap escape (plain_unescaped xs ys plain) ∙ escape-append xs (unescaped ys)
    ∙ ap (λ zs. zs ++ escape (unescaped ys)) (plain_escape xs plain)

-- so many of the block's `n` bytes are done with, and what they are in JSON is written; the others follow that
pub record InBlock (n : ℕ) (raw : Bool) (base text : List ℕ) (at first : ℕ) (room : List ℕ) (end passed : ℕ) : Type 0
  where
    pub done : List ℕ
    pub few : passed ≤ n
    pub copied : take end room ≡ done ++ take (n - passed) (drop (first + passed) text)
    pub placed : end ≡ length done + (n - passed)
    pub same : done ++ in_json raw (drop (first + passed) text) ≡ base ++ in_json raw (drop first text)
    pub bound : end ≤ at + n + 5 * passed

-- none are at the beginning
pub block_begins : (n : ℕ) (raw : Bool) (at first : ℕ) (old room text : List ℕ) → at ≤ length old
    → take (at + n) room ≡ take at old ++ take n (drop first text)
    → InBlock n raw (take at old) text at first room (at + n) 0
block_begins n raw at first old room text within stored =
    let none : first + 0 ≡ first = omega arith in
    let all : n - 0 ≡ n = omega arith in record {
      done = take at old;
      few = omega arith;
      copied = rw (all, none) stored;
      placed = omega (arith, length-take-le at old within);
      same = rw none refl;
      bound = omega arith;
    }

-- so many more bytes stay as they are
stay : {n : ℕ} {raw : Bool} {base text : List ℕ} {at first : ℕ} {room : List ℕ} {end passed : ℕ} (m : ℕ)
    → InBlock n raw base text at first room end passed → passed + m ≤ n → first + n ≤ length text
    → in_json raw (drop (first + passed) text)
    ≡ take m (drop (first + passed) text) ++ in_json raw (drop (first + (passed + m)) text)
    → InBlock n raw base text at first room end (passed + m)
stay {n = n} {text = text} {first = first} {passed = passed} m b few more kept =
    let rest = drop (first + passed) text in
    let next : drop m rest ≡ drop (first + (passed + m)) text =
    drop-drop m (first + passed) text ∙ ap (λ (k : ℕ). drop k text) (omega arith) in
    let left : n - passed ≡ m + (n - (passed + m)) = omega arith in
    let long : length (take m rest) ≡ m =
    length-take-le m rest (omega (arith, more, length-drop (first + passed) text)) in
    let split : take (n - passed) rest ≡ take m rest ++ take (n - (passed + m)) (drop (first + (passed + m)) text) =
    ap (λ (k : ℕ). take k rest) left ∙ take-add m (n - (passed + m)) rest
    ∙ ap (λ xs. take m rest ++ take (n - (passed + m)) xs) next in
    record {
      done = b.done ++ take m rest;
      few = few;
      copied = b.copied ∙ ap (λ xs. b.done ++ xs) split ∙ sym (append_assoc b.done (take m rest) _);
      placed = omega (arith, b.placed, length-append b.done (take m rest), long);
      same = append_assoc b.done (take m rest) _ ∙ ap (λ xs. b.done ++ xs) (sym kept) ∙ b.same;
      bound = omega (arith, b.bound);
    }

-- those up to a place do, where none needs an escape
stay_plain : {n : ℕ} {raw : Bool} {base text : List ℕ} {at first : ℕ} {room : List ℕ} {end passed : ℕ} (stop : ℕ)
    → InBlock n raw base text at first room end passed → passed ≤ stop → stop ≤ n → first + n ≤ length text
    → ((i : ℕ) → passed ≤ i → i < stop → is_stop (get_or text (first + i) 0) ≡ false)
    → InBlock n raw base text at first room end stop
stay_plain {n = n} {raw = raw} {base = base} {text = text} {at = at} {first = first} {room = room} {end = end}
    {passed = passed} stop b after few more plain =
    let m = stop - passed in
    let rest = drop (first + passed) text in
    let run = plain_part text (first + passed) m (λ i less.
    let same : first + passed + i ≡ first + (passed + i) = omega arith in
    rw same (plain (passed + i) (omega arith) (omega arith))) in
    let next : drop m rest ≡ drop (first + (passed + m)) text =
    drop-drop m (first + passed) text ∙ ap (λ (k : ℕ). drop k text) (omega arith) in
    let kept = ap (in_json raw) (sym (take-append-drop m rest)) ∙ in_json_plain raw (take m rest) (drop m rest) run
    ∙ ap (λ xs. take m rest ++ in_json raw xs) next in
    let there : passed + m ≡ stop = omega arith in
    subst (λ (k : ℕ). InBlock n raw base text at first room end k) there (stay m b (omega arith) more kept)

-- what is written before the next byte
before_next : {n : ℕ} {raw : Bool} {base text : List ℕ} {at first : ℕ} {room : List ℕ} {end passed : ℕ}
    (b : InBlock n raw base text at first room end passed) → take (end + passed - n) room ≡ b.done
before_next {n = n} {room = room} {end = end} {passed = passed} b =
    let place : end + passed - n ≡ length b.done = omega (arith, b.placed, b.few) in
    ap (λ (k : ℕ). take k room) place ∙ sym (take-take (length b.done) end room (omega (arith, b.placed)))
    ∙ ap (take (length b.done)) b.copied ∙ take-append_seam b.done _

-- the next byte was written as these, and at least the rest of the block copied after them
pub byte_written : {n : ℕ} {raw : Bool} {base text : List ℕ} {at first : ℕ} {room : List ℕ} {end stop : ℕ}
    (w now : List ℕ) (place k later : ℕ) → (b : InBlock n raw base text at first room end stop) → stop < n
    → take place now ≡ take (end + stop - n) room ++ (w ++ take k (drop (first + stop + 1) text))
    → place ≡ end + stop - n + length w + k → n ≤ stop + 1 + k → later + 1 ≡ end + length w → length w ≤ 6
    → in_json raw (drop (first + stop) text) ≡ w ++ in_json raw (drop (first + stop + 1) text)
    → InBlock n raw base text at first now later (stop + 1)
byte_written {n = n} {raw = raw} {text = text} {first = first} {room = room} {end = end} {stop = stop}
    w now place k later b within written placed enough moved short is =
    let there : first + stop + 1 ≡ first + (stop + 1) = omega arith in
    let rest = drop (first + (stop + 1)) text in
    let left = n - (stop + 1) in
    let front = b.done ++ w in
    let all : take place now ≡ front ++ take k rest =
    written ∙ ap (λ (m : ℕ). take (end + stop - n) room ++ (w ++ take k (drop m text))) there
    ∙ ap (λ xs. xs ++ (w ++ take k rest)) (before_next b) ∙ sym (append_assoc b.done w (take k rest)) in
    let ends : later ≡ length front + left = omega (arith, b.placed, length-append b.done w) in
    record {
      done = front;
      few = omega arith;
      copied = sym (take-take later place now (omega (arith, b.placed, b.few))) ∙ ap (take later) all
          ∙ ap (λ (n : ℕ). take n (front ++ take k rest)) ends
          ∙ take-append-add front (take k rest) left ∙ ap (λ xs. front ++ xs) (take-take left k rest (omega arith));
      placed = ends;
      same = append_assoc b.done w _ ∙ ap (λ xs. b.done ++ xs)
          (sym (is ∙ ap (λ (n : ℕ). w ++ in_json raw (drop n text)) there)) ∙ b.same;
      bound = omega (arith, b.bound);
    }

-- ---- a byte in JSON

pub json_byte : (raw : Bool) (b : ℕ) (rest : List ℕ) → OnTrue raw (nat_eq b 92 ≡ false)
    → in_json raw (b ∷ rest) ≡ escape_byte b ++ in_json raw rest
json_byte false b rest other = refl
json_byte true b rest other = rw other refl

pub on_other : (raw : Bool) (b : ℕ) → (b ≡ 92 → ⊥) → OnTrue raw (nat_eq b 92 ≡ false)
on_other false b other = tt
on_other true b other = ne_eqb b 92 other

pub on_no_raw : (raw : Bool) (b : ℕ) → raw ≡ false → OnTrue raw (nat_eq b 92 ≡ false)
on_no_raw raw b is = rw is tt

-- JSON has the same escapes as some pairs
pub json_kept : (c : ℕ) (rest : List ℕ) → (c ≡ 110) ⊎ ((c ≡ 34) ⊎ (c ≡ 92))
    → in_json true (92 ∷ c ∷ rest) ≡ 92 ∷ c ∷ in_json true rest
unfolding escape_byte
json_kept c rest (inl e) = rw e refl
json_kept c rest (inr (inl e)) = rw e refl
json_kept c rest (inr (inr e)) = rw e refl

-- of another pair both bytes stay
pub json_other : (c : ℕ) (rest : List ℕ) → nat_eq c 93 ≡ false → nat_eq c 110 ≡ false → nat_eq c 34 ≡ false
    → nat_eq c 92 ≡ false → in_json true (92 ∷ c ∷ rest) ≡ 92 ∷ 92 ∷ in_json true (c ∷ rest)
unfolding escape_byte
json_other c rest bracket letter quote backslash = rw (bracket, letter, quote, backslash) refl

pub next_byte : (text : List ℕ) (n : ℕ) → n < length text → drop n text ≡ get_or text n 0 ∷ drop (n + 1) text
next_byte text n within = drop-cons text n 0 within ∙ ap (λ (k : ℕ). get_or text n 0 ∷ drop k text) (sym (add-one n))

stop_is : (b : ℕ) → is_stop b ≡ true → 32 ≤ b → (b ≡ 34) ⊎ (b ≡ 92)
stop_is b stop high = grind (arith, nat_tests)

escaped : (b : ℕ) → (b ≡ 34) ⊎ (b ≡ 92) → escape_byte b ≡ 92 ∷ b ∷ []
unfolding escape_byte
escaped b (inl e) = rw e refl
escaped b (inr e) = rw e refl

-- a quote or a backslash has one before it, but for a backslash that begins a pair
pub backslash_at : (raw : Bool) (text : List ℕ) (at : ℕ) → at < length text → is_stop (get_or text at 0) ≡ true
    → 32 ≤ get_or text at 0 → OnTrue raw (nat_eq (get_or text at 0) 92 ≡ false)
    → in_json raw (drop at text) ≡ 92 ∷ get_or text at 0 ∷ in_json raw (drop (at + 1) text)
backslash_at raw text at within stop high other =
    let b = get_or text at 0 in
    ap (in_json raw) (next_byte text at within) ∙ json_byte raw b (drop (at + 1) text) other
    ∙ ap (λ xs. xs ++ in_json raw (drop (at + 1) text)) (escaped b (stop_is b stop high))

second_byte : (text : List ℕ) (at : ℕ) → at + 1 < length text
    → drop (at + 1) text ≡ get_or text (at + 1) 0 ∷ drop (at + 2) text
second_byte text at within =
    let two : at + 1 + 1 ≡ at + 2 = omega arith in
    next_byte text (at + 1) within ∙ ap (λ (k : ℕ). get_or text (at + 1) 0 ∷ drop k text) two

-- a pair, by its second byte
pair_text : (text : List ℕ) (at : ℕ) → at + 1 < length text → get_or text at 0 ≡ 92
    → drop at text ≡ 92 ∷ get_or text (at + 1) 0 ∷ drop (at + 2) text
pair_text text at within first =
    next_byte text at (omega arith) ∙ ap (λ (b : ℕ). b ∷ drop (at + 1) text) first
    ∙ ap (λ xs. 92 ∷ xs) (second_byte text at within)

-- a pair that is a bracket is the bracket
pub nothing_at : (raw : Bool) (text : List ℕ) (at : ℕ) → raw ≡ true → at + 1 < length text → get_or text at 0 ≡ 92
    → get_or text (at + 1) 0 ≡ 93 → in_json raw (drop at text) ≡ in_json raw (drop (at + 1) text)
nothing_at raw text at is within first bracket =
    let rest = drop (at + 2) text in
    rw is (ap (in_json true) (pair_text text at within first)
    ∙ ap (λ (c : ℕ). in_json true (92 ∷ c ∷ rest)) bracket
    ∙ sym (ap (in_json true) (second_byte text at within) ∙ ap (λ (c : ℕ). in_json true (c ∷ rest)) bracket))

pub pair_at : (raw : Bool) (text : List ℕ) (at : ℕ) → raw ≡ true → at + 1 < length text → get_or text at 0 ≡ 92
    → (get_or text (at + 1) 0 ≡ 110) ⊎ ((get_or text (at + 1) 0 ≡ 34) ⊎ (get_or text (at + 1) 0 ≡ 92))
    → in_json raw (drop at text) ≡ take 2 (drop at text) ++ in_json raw (drop (at + 2) text)
pair_at raw text at is within first second =
    let c = get_or text (at + 1) 0 in
    let whole = pair_text text at within first in
    let rest = drop (at + 2) text in
    rw is (ap (in_json true) whole ∙ json_kept c rest second
    ∙ ap (λ xs. take 2 xs ++ in_json true rest) (sym whole))

pub other_at : (raw : Bool) (text : List ℕ) (at : ℕ) → raw ≡ true → at + 1 < length text → get_or text at 0 ≡ 92
    → (get_or text (at + 1) 0 ≡ 93 → ⊥) → (get_or text (at + 1) 0 ≡ 110 → ⊥) → (get_or text (at + 1) 0 ≡ 34 → ⊥)
    → (get_or text (at + 1) 0 ≡ 92 → ⊥)
    → in_json raw (drop at text) ≡ 92 ∷ get_or text at 0 ∷ in_json raw (drop (at + 1) text)
other_at raw text at is within first bracket letter quote backslash =
    let c = get_or text (at + 1) 0 in
    let rest = drop (at + 2) text in
    rw is (ap (in_json true) (pair_text text at within first)
    ∙ json_other c rest (ne_eqb c 93 bracket) (ne_eqb c 110 letter) (ne_eqb c 34 quote) (ne_eqb c 92 backslash)
    ∙ ap (λ (b : ℕ). 92 ∷ b ∷ in_json true (c ∷ rest)) (sym first)
    ∙ ap (λ xs. 92 ∷ get_or text at 0 ∷ in_json true xs) (sym (second_byte text at within)))

-- an escape was written, and `m` bytes after it
pub control_written : (m at n : ℕ) (old room now piece escape text : List ℕ)
    → take (at + 8) room ≡ take at old ++ piece → take n piece ≡ escape → n ≤ 8 → at ≤ length old
    → take (at + n + m) now ≡ take (at + n) room ++ text → take (at + n + m) now ≡ take at old ++ (escape ++ text)
control_written m at n old room now piece escape text held is few within written =
    let place : at + n ≡ length (take at old) + n = omega (arith, length-take-le at old within) in
    let front : take (at + n) room ≡ take at old ++ escape =
    sym (take-take (at + n) (at + 8) room (omega arith)) ∙ ap (take (at + n)) held
    ∙ ap (λ (k : ℕ). take k (take at old ++ piece)) place ∙ take-append-add (take at old) piece n
    ∙ ap (λ xs. take at old ++ xs) is in
    written ∙ ap (λ xs. xs ++ text) front ∙ append_assoc (take at old) escape text

-- ---- a loop over the bytes of a block that need an escape

pub record AtStop (n : ℕ) (raw : Bool) (base text : List ℕ) (at first : ℕ) (room : List ℕ) (end left stop : ℕ)
    : Type 0 where
  pub within : stop < n
  pub block : InBlock n raw base text at first room end stop
  pub here : is_stop (get_or text (first + stop) 0) ≡ true
  pub rest : AreStops n text first (stop + 1) (bit_and left (bit_not w64 (1 * 2 ^ stop % 2 ^ 64)))
  pub falls : bit_and left (bit_not w64 (1 * 2 ^ stop % 2 ^ 64)) < left

other_bit : (a b k : ℕ) → bit_at a k ≡ 0 → bit_at b k ≡ 1 → a ≡ b → ⊥
other_bit a b k off on same = omega (arith, sym off ∙ ap (λ (n : ℕ). bit_at n k) same ∙ on)

-- all of a block is done with
copied_all : {n : ℕ} {raw : Bool} {base text : List ℕ} {at first : ℕ} {room : List ℕ} {end : ℕ}
    (b : InBlock n raw base text at first room end n) → take end room ≡ b.done
copied_all {n = n} {text = text} {first = first} b =
    let none : n - n ≡ 0 = omega arith in
    b.copied ∙ ap (λ (k : ℕ). b.done ++ take k (drop (first + n) text)) none ∙ append-nil b.done

-- what is known of the stops that are left of a block: where the next one is, or that none is
pub record AreLeft (n : ℕ) (raw : Bool) (base text : List ℕ) (at first : ℕ) (room : List ℕ) (end left : ℕ)
    : Type 0 where
  pub within : 0 < left → trailing_zeros w64 left < n
  pub placed : 0 < left → n ≤ end + trailing_zeros w64 left
  pub bound : 0 < left → end ≤ at + n + 5 * trailing_zeros w64 left
  pub most : end ≤ at + 6 * n
  pub falls : 0 < left → bit_and left (bit_not w64 (1 * 2 ^ trailing_zeros w64 left % 2 ^ 64)) < left
  pub next : 0 < left → AtStop n raw base text at first room end left (trailing_zeros w64 left)
  pub ends : left ≡ 0 → take end room ++ in_json raw (drop (first + n) text) ≡ base ++ in_json raw (drop first text)

pub are_left : {n : ℕ} {raw : Bool} {base text : List ℕ} {at first : ℕ} {room : List ℕ} {end left : ℕ} (passed : ℕ) →
    n ≤ 64
    → AreStops n text first passed left → InBlock n raw base text at first room end passed
    → first + 2 * n ≤ length text
    → AreLeft n raw base text at first room end left
are_left {n = n} {raw = raw} {base = base} {text = text} {at = begin} {first = first} {room = room} {end = end}
    {left = left} passed lanes stops block more = record {
      within = λ some. (next some).within;
      placed = λ some. let a = next some in omega (arith, a.within, a.block.placed);
      bound = λ some. (next some).block.bound;
      most = omega (arith, block.bound, block.few);
      falls = λ some. (next some).falls;
      next = next;
      ends = λ none. let b = stay_plain n block block.few (omega arith) (omega arith) (no_stop stops none) in
          ap (λ xs. xs ++ in_json raw (drop (first + n) text)) (copied_all b) ∙ b.same;
    }
  where
    next : 0 < left → AtStop n raw base text begin first room end left (trailing_zeros w64 left)
    next some =
        let stop = first_stop lanes stops some in
        let at = trailing_zeros w64 left in
        let rest = cleared at lanes stops stop.after stop.within stop.below in
        let on : bit_at left at ≡ 1 = (stops.each at stop.after stop.within) ∙ rw (stop.here) refl in
        let below : at < at + 1 = omega arith in
        let less = and_le_l left (bit_not w64 (1 * 2 ^ at % 2 ^ 64)) in
        let differs = other_bit _ _ at (rest.before at below) on in record {
          within = stop.within;
          block = stay_plain at block stop.after (omega (arith, stop.within)) (omega arith) stop.plain;
          here = stop.here;
          rest = rest;
          falls = omega (arith, less, differs);
        }

-- a pair goes past its end, and is left to the next block
pub pair_ends : {n : ℕ} {raw : Bool} {base text : List ℕ} {at first : ℕ} {room : List ℕ} {end stop : ℕ}
    → InBlock n raw base text at first room end stop
    → take (end + stop - n) room ++ in_json raw (drop (first + stop) text) ≡ base ++ in_json raw (drop first text)
pair_ends {raw = raw} {text = text} {first = first} {stop = stop} b =
    ap (λ xs. xs ++ in_json raw (drop (first + stop) text)) (before_next b) ∙ b.same

-- and a pair within it is passed
pub pair_passed : {n : ℕ} {raw : Bool} {base text : List ℕ} {at first : ℕ} {room : List ℕ} {end left stop : ℕ}
    → AtStop n raw base text at first room end left stop → (stop + 1 ≡ n → ⊥) → n ≤ 64
    → AreStops n text first (stop + 2) (bit_and (bit_and left (bit_not w64 (1 * 2 ^ stop % 2 ^ 64)))
    (bit_not w64 (1 * 2 ^ (stop + 1) % 2 ^ 64)))
    × (bit_and (bit_and left (bit_not w64 (1 * 2 ^ stop % 2 ^ 64))) (bit_not w64 (1 * 2 ^ (stop + 1) % 2 ^ 64)) < left)
pair_passed {n = n} {text = text} {first = first} {left = left} {stop = stop} a other lanes =
    let next = bit_and left (bit_not w64 (1 * 2 ^ stop % 2 ^ 64)) in
    let last = bit_and next (bit_not w64 (1 * 2 ^ (stop + 1) % 2 ^ 64)) in
    let two : stop + 1 + 1 ≡ stop + 2 = omega arith in
    let within : stop < n = a.within in
    let less = and_le_l next (bit_not w64 (1 * 2 ^ (stop + 1) % 2 ^ 64)) in
    let fewer : next < left = a.falls in
    let rest : AreStops n text first (stop + 1 + 1) last =
    cleared (stop + 1) lanes a.rest (omega arith) (omega (arith, other)) a.rest.before in
    (subst (λ (k : ℕ). AreStops n text first k last) two rest, omega (arith, less, fewer))

pub pair_stays : {n : ℕ} {raw : Bool} {base text : List ℕ} {at first : ℕ} {room : List ℕ} {end left stop : ℕ}
    → AtStop n raw base text at first room end left stop → (stop + 1 ≡ n → ⊥)
    → first + 2 * n ≤ length text
    → in_json raw (drop (first + stop) text)
    ≡ take 2 (drop (first + stop) text) ++ in_json raw (drop (first + stop + 2) text)
    → InBlock n raw base text at first room end (stop + 2)
pair_stays {raw = raw} {text = text} {first = first} {stop = stop} a other more kept =
    let there : first + stop + 2 ≡ first + (stop + 2) = omega arith in
    stay 2 a.block (omega (arith, other, a.within)) (omega arith)
    (kept ∙ ap (λ (k : ℕ). take 2 (drop (first + stop) text) ++ in_json raw (drop k text)) there)

-- a backslash was written, and then `n` bytes from the byte on
pub backslash_written : {n : ℕ} {raw : Bool} {base text : List ℕ} {at first : ℕ} {room : List ℕ} {end left stop : ℕ}
    (mid now : List ℕ) (k : ℕ) → AtStop n raw base text at first room end left stop → k + 1 ≡ n
    → first + 2 * n ≤ length text → take (end + stop - n + 1) mid ≡ take (end + stop - n) room ++ 92 ∷ []
    → take (end + stop - n + 1 + n) now ≡ take (end + stop - n + 1) mid ++ take n (drop (first + stop) text)
    → in_json raw (drop (first + stop) text)
    ≡ 92 ∷ get_or text (first + stop) 0 ∷ in_json raw (drop (first + stop + 1) text)
    → InBlock n raw base text at first now (end + 1) (stop + 1)
backslash_written {n = n} {text = text} {first = first} {room = room} {end = end} {stop = stop} mid now k a
    is_n more first_written written is =
    let here = next_byte text (first + stop) (omega (arith, a.within)) in
    let next = get_or text (first + stop) 0 ∷ drop (first + stop + 1) text in
    byte_written (92 ∷ get_or text (first + stop) 0 ∷ []) now (end + stop - n + 1 + n) k (end + 1) a.block a.within
    (written ∙ ap (λ xs. xs ++ take n (drop (first + stop) text)) first_written
    ∙ append_assoc (take (end + stop - n) room) (92 ∷ []) _
    ∙ ap (λ xs. take (end + stop - n) room ++ (92 ∷ take n xs)) here
    ∙ ap (λ (m : ℕ). take (end + stop - n) room ++ (92 ∷ take m next)) (sym is_n ∙ add-one k))
    (omega arith) (omega arith) (omega arith) (omega arith) is

-- ---- the last blocks of a text, from a copy with brackets after it

escape_brackets : (k : ℕ) → escape (replicate k 93) ≡ replicate k 93
unfolding escape_byte
escape_brackets zero = refl
escape_brackets (suc k) = ap (λ xs. 93 ∷ xs) (escape_brackets k)

unescape_brackets : (k : ℕ) → unescaped (replicate k 93) ≡ replicate k 93
unescape_brackets zero = refl
unescape_brackets (suc k) = ap (λ xs. 93 ∷ xs) (unescape_brackets k)

before_brackets : (xs : List ℕ) (k : ℕ) → (unescaped (xs ++ replicate (suc k) 93)
    ≡ unescaped xs ++ replicate (suc k) 93)
    × (after_backslash (xs ++ replicate (suc k) 93) ≡ after_backslash xs ++ replicate (suc k) 93)
before_brackets [] k = (unescape_brackets (suc k), ap (λ xs. 93 ∷ xs) (unescape_brackets k))
before_brackets (c ∷ xs) k =
    let (one, two) = before_brackets xs k in (
      elim (cases_Bool (nat_eq c 92)) [
        | inl is ↦ rw is two
        | inr other ↦ rw other (ap (λ ys. c ∷ ys) one)
      ],
      ap (λ ys. pair_meaning c ++ ys) one ∙ sym (append_assoc (pair_meaning c) (unescaped xs) (replicate (suc k) 93)),
    )

in_json_brackets : (raw : Bool) (xs : List ℕ) (k : ℕ)
    → in_json raw (xs ++ replicate (suc k) 93) ≡ in_json raw xs ++ replicate (suc k) 93
in_json_brackets false xs k =
    escape-append xs (replicate (suc k) 93) ∙ ap (λ ys. escape xs ++ ys) (escape_brackets (suc k))
in_json_brackets true xs k =
    ap escape ((before_brackets xs k).0) ∙ escape-append (unescaped xs) (replicate (suc k) 93)
    ∙ ap (λ ys. escape (unescaped xs) ++ ys) (escape_brackets (suc k))

only_brackets : (raw : Bool) (k : ℕ) → in_json raw (replicate k 93) ≡ replicate k 93
only_brackets false k = escape_brackets k
only_brackets true k = ap escape (unescape_brackets k) ∙ escape_brackets k

-- they are taken off
pub brackets_off : (raw : Bool) (text out base padded : List ℕ) (at next : ℕ)
    → padded ≡ text ++ drop (length text) (replicate 96 93) → length text ≤ 64 → length text ≤ next → next ≤ 96
    → at ≤ length out → take at out ++ in_json raw (drop next padded) ≡ base ++ in_json raw padded
    → (next - length text ≤ at) × (take (at - (next - length text)) out ≡ base ++ in_json raw text)
brackets_off raw text out base padded at next copied few after most within held =
    let n = length text in
    let more = 95 - n in
    let count : 96 - n ≡ suc more = omega arith in
    let is : padded ≡ text ++ replicate (suc more) 93 =
    copied ∙ ap (λ xs. text ++ xs) (drop-replicate n 96 93) ∙ ap (λ (k : ℕ). text ++ replicate k 93) count in
    let left : in_json raw (drop next padded) ≡ replicate (96 - next) 93 =
    ap (λ xs. in_json raw (drop next xs)) copied
    ∙ ap (in_json raw) (drop-append-drop n (replicate 96 93) text next after refl ∙ drop-replicate next 96 93)
    ∙ only_brackets raw (96 - next) in
    let wanted = base ++ in_json raw text in
    let both : take at out ++ replicate (96 - next) 93 ≡ wanted ++ replicate (suc more) 93 =
    ap (λ xs. take at out ++ xs) (sym left) ∙ held
    ∙ ap (λ xs. base ++ xs) (ap (in_json raw) is ∙ in_json_brackets raw text more)
    ∙ sym (append_assoc base (in_json raw text) _) in
    let front : length (take at out) ≡ at = length-take-le at out within in
    let long : at + (96 - next) ≡ length wanted + suc more =
    omega (
      arith,
      front,
      ap length both,
      length-append (take at out) (replicate (96 - next) 93),
      length-append wanted (replicate (suc more) 93),
      length-replicate {A = ℕ} (96 - next) 93,
      length-replicate {A = ℕ} (suc more) 93,
    ) in
    let size : at - (next - n) ≡ length wanted = omega arith in
    let shorter : length wanted ≤ length (take at out) = omega arith in (
      omega arith,
      ap (λ (k : ℕ). take k out) size ∙ sym (take-take (length wanted) at out (omega arith))
          ∙ sym (take-append-le (length wanted) (take at out) (replicate (96 - next) 93) shorter)
          ∙ ap (take (length wanted)) both ∙ take-append_seam wanted (replicate (suc more) 93),
    )

-- ---- a text, whose first bytes need no escape

pub plain_written : (raw : Bool) (text : List ℕ) (n : ℕ) → n ≤ length text → PlainBetween text 0 n
    → in_json raw text ≡ take n text ++ in_json raw (drop n text)
plain_written raw text n within plain =
    ap (in_json raw) (sym (take-append-drop n text))
    ∙ in_json_plain raw (take n text) (drop n text) (plain_front text n within plain)

in_json_nothing : (raw : Bool) → in_json raw [] ≡ []
in_json_nothing false = refl
in_json_nothing true = refl

pub all_plain : (raw : Bool) (text : List ℕ) (n : ℕ) → n ≡ length text → PlainBetween text 0 n
    → take n text ≡ in_json raw text
all_plain raw text n all plain =
    let none = ap (in_json raw) (drop_all n text (omega arith)) ∙ in_json_nothing raw in
    sym (plain_written raw text n (omega arith) plain ∙ ap (λ xs. take n text ++ xs) none ∙ append-nil (take n text))

pub text_written : (raw : Bool) (text old mid now rest : List ℕ) (at n end : ℕ) → n ≤ length text
    → PlainBetween text 0 n
    → rest ≡ drop n text → take (at + n) mid ≡ take at old ++ take n text
    → take end now ≡ take (at + n) mid ++ in_json raw rest → take end now ≡ take at old ++ in_json raw text
text_written raw text old mid now rest at n end within plain is first second =
    second ∙ ap (λ xs. take (at + n) mid ++ in_json raw xs) is ∙ ap (λ xs. xs ++ in_json raw (drop n text)) first
    ∙ append_assoc (take at old) (take n text) (in_json raw (drop n text))
    ∙ ap (λ xs. take at old ++ xs) (sym (plain_written raw text n within plain))

pub kept_less : (n at : ℕ) (old now : List ℕ) → take at now ≡ take at old → n ≤ at → take n now ≡ take n old
kept_less n at old now kept less = sym (take-take n at now less) ∙ ap (take n) kept ∙ take-take n at old less
