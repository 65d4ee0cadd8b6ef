-- What a run wrote is written again by a run in the same year: each of its lines is stable, and gives itself alone.
use Rattle.syslog_tidy.proofs.Names.{[], append-nil, encodes-chars, IsRound, IsFirstSettled, AreAnswers, is_skipped}
use Rattle.syslog_tidy.proofs.Names.{ℕ, length, subst, arith, IsRead, in_utc, Either, Answer, Omitted, Written, tidying}
use Rattle.syslog_tidy.proofs.Names.{◌≡◌, zero, suc, ℤ, true, List, ◌∷◌, ◌++◌, inl, inr, refl, sym, ap, ◌∙◌, chars}
use Rattle.std.proofs.Common.{◌≢◌, nat_lt, length-append, Option, append_assoc}
use Rattle.std.{proofs.KnownBytes.Consumes-whole, proofs.Math.Utf8.scalars, specs.List.All, specs.List.AllByRecursion}
use Rattle.std.proofs.lemmas.Bool.{cond_both, eqb-false, not-true}
use Rattle.std.{proofs.lemmas.Bool.Decides.eqb_tells, proofs.lemmas.Str.chars-encodes, proofs.lemmas.Str.scalars-chars}
use Rattle.std.proofs.lemmas.List.Elements.{All-nil, All-from_recursion, All-head, All-tail, All-append, All-weaker}
use Rattle.std.{specs.Char.encode_utf8, specs.Io.KnownBytes.Appends}
use Rattle.std.specs.Prelude.{IsUtf8, encode_utf8_all, count_by, not}
use Rattle.syslog_loose.{specs.OneLine.IsOneLine, specs.Printed.printed}
use Rattle.syslog_loose.{proofs.SettlingLemmas.Settles.one_first_settled, specs.Message.MessageValue}
use Rattle.syslog_loose.proofs.ReadBackLemmas.{printed_line, printed_scalars}
use Rattle.syslog_lines.proofs.LineLemmas.{frames_are_lines}
use Rattle.syslog_lines.{specs.Output.Framed, specs.Output.Marked, specs.Output.Unasked, specs.Output.output_of}
use Rattle.syslog_lines.{specs.declared.summary.Summary.Summary}
use Rattle.syslog_lines.{specs.Count.held_count, specs.Lines.NoFeed, specs.Lines.with_feeds, specs.Lines.IsLines}
use Rattle.syslog_lines.proofs.LineLemmas.{IsOther, all_after, all_front}
use Rattle.syslog_tidy.specs.Filters.{TidiesAll, WritesAgain}

-- ---- line feeds in bytes and in characters
encoded_free : (c : ℕ) → c ≢ 10 → NoFeed (encode_utf8 c)
unfolding encode_utf8
encoded_free c other =
    let Free = AllByRecursion IsOther in
    All-from_recursion IsOther (encode_utf8 c) (cond_both (nat_lt c 128) _ _ Free (λ _. omega arith)
    (λ _. cond_both (nat_lt c 2048) _ _ Free (λ _. omega arith)
    (λ _. cond_both (nat_lt c 65536) _ _ Free (λ _. omega arith) (λ _. omega arith))))

encoded_line : (cs : List ℕ) → IsOneLine cs → NoFeed (encode_utf8_all cs)
encoded_line [] h = All-nil IsOther
encoded_line (c ∷ cs) h = All-append IsOther (encode_utf8 c) (encode_utf8_all cs)
    (encoded_free c (eqb-false c 10 (not-true _ h.0))) (encoded_line cs h.1)

line_of_free : (cs : List ℕ) → NoFeed (encode_utf8_all cs) → IsOneLine cs
unfolding encode_utf8
line_of_free [] h = tt
line_of_free (c ∷ cs) h =
    elim (eqb_tells c 10) [
      | inl r ↦
          absurd (All-head IsOther 10 (encode_utf8_all cs)
          (subst (λ (x : List ℕ). NoFeed (x ++ encode_utf8_all cs)) (ap encode_utf8 r.1) h) refl)
      | inr r ↦ (ap not r.0, line_of_free cs (all_after IsOther (encode_utf8 c) (encode_utf8_all cs) h))
    ]

-- what each printed text keeps, each round keeps
round_keeps : (P : List ℕ → Type 0) (year : ℤ) (text u : List ℕ) (n : ℕ)
    → ((t : List ℕ) (m : MessageValue) → IsRead Either (in_utc year) t m → P t → P (printed m))
    → IsRound Either (in_utc year) text n u → P text → P u
round_keeps P year text u zero keeps same h = subst P (sym same) h
round_keeps P year text u (suc n) keeps (before, round, next) h = subst P (sym next.is_printed)
    (keeps before next.message next.read (round_keeps P year text before n keeps round h))

-- ---- bytes have one list of lines
same_first : (x y r s : List ℕ) → NoFeed x → NoFeed y → x ++ 10 ∷ r ≡ y ++ 10 ∷ s → (x ≡ y) × (r ≡ s)
same_first [] [] r s a b e = (refl, cc)
same_first [] (c ∷ y) r s a b e = absurd (All-head IsOther c y b (let t : c ≡ 10 = cc in t))
same_first (c ∷ x) [] r s a b e = absurd (All-head IsOther c x a (let t : c ≡ 10 = cc in t))
same_first (c ∷ x) (d ∷ y) r s a b e =
    let t : x ++ 10 ∷ r ≡ y ++ 10 ∷ s = cc in
    let u : c ≡ d = cc in
    let (f, g) = same_first x y r s (All-tail IsOther c x a) (All-tail IsOther d y b) t in (cc, g)

-- where all lines have their line feeds, no other division has lines of its own or a last line without one
same_lines : (ts lines : List (List ℕ)) (last : List ℕ) → All NoFeed ts → All NoFeed lines → NoFeed last
    → with_feeds ts ≡ with_feeds lines ++ last → (lines ≡ ts) × (length last ≡ 0)
same_lines [] [] last a b c e = (refl, ap length (sym e))
same_lines [] (x ∷ lines) last a b c e = absurd (omega (arith, simp length-append at (ap length e)))
same_lines (t ∷ ts) [] last a b c e = absurd
    (All-head IsOther 10 (with_feeds ts) (all_after IsOther t (10 ∷ with_feeds ts) (subst NoFeed (sym e) c)) refl)
same_lines (t ∷ ts) (x ∷ lines) last a b c e =
    let (f, g) = same_first t x (with_feeds ts) (with_feeds lines ++ last) (All-head NoFeed t ts a)
    (All-head NoFeed x lines b) (e ∙ append_assoc x (10 ∷ with_feeds lines) last) in
    let (h, none) = same_lines ts lines last (All-tail NoFeed t ts a) (All-tail NoFeed x lines b) c g in (cc, none)

fed_lines : (ts lines : List (List ℕ)) → All NoFeed ts → IsLines (with_feeds ts) lines → lines ≡ ts
fed_lines ts lines a (free, inl joined) =
    (same_lines ts lines [] a free (All-nil IsOther) (joined ∙ sym (append-nil (with_feeds lines)))).0
fed_lines ts lines a (free, inr lacks) =
    let all = subst (λ (l : List (List ℕ)). All NoFeed l) lacks.listed free in
    let last = all_after NoFeed lacks.before (lacks.last ∷ []) all in
    let none = (same_lines ts lacks.before lacks.last a (all_front NoFeed lacks.before (lacks.last ∷ []) all)
    (All-head NoFeed lacks.last [] last) lacks.joined).1 in
    absurd (omega (arith, lacks.some, none))

-- ---- settled lines

-- the line has no line feed, and gives itself alone
abbrev IsStableLine : ℤ → List ℕ → Type 0
IsStableLine year line = NoFeed line × ((answer : Answer) → (tidying year).Answers line answer → answer ≡ Written line)

module _ (year : ℤ) (line text : List ℕ) (free : NoFeed line) (utf8 : IsUtf8 line)
    (first : IsFirstSettled Either (in_utc year) (chars line) text) where
  valid : scalars text ≡ true
  valid = round_keeps (λ (t : List ℕ). scalars t ≡ true) year (chars line) text (suc first.before)
      (printed_scalars Either (in_utc year)) first.round (scalars-chars line utf8)

  itself : IsFirstSettled Either (in_utc year) (chars (encode_utf8_all text)) text
  itself = rw (chars-encodes text valid) record {
    before = 0;
    round = (text, refl, first.settled);
    settled = first.settled;
    none_before = λ k u l. absurd (omega arith);
  }

  at_rest : IsStableLine year (encode_utf8_all text)
  at_rest = (
    encoded_line text (round_keeps IsOneLine year (chars line) text (suc first.before)
        (printed_line Either (in_utc year)) first.round
        (line_of_free (chars line) (rw (encodes-chars line utf8) free))),
    only,
  )
    where
      only : (answer : Answer) → (tidying year).Answers (encode_utf8_all text) answer
          → answer ≡ Written (encode_utf8_all text)
      only (Written bytes) (u, (other, given, same)) = ap Written (same ∙ ap encode_utf8_all
          (one_first_settled Either (in_utc year) (chars (encode_utf8_all text)) other text given itself))
      only (Framed bytes) none = absurd none
      only (Marked bytes) none = absurd none
      only Omitted none = absurd (none (text, (valid, refl)) text itself)
      only Unasked none = absurd none

-- the bytes that are written
abbrev lines_of : List Answer → List (List ℕ)
lines_of [] = []
lines_of (Omitted ∷ answers) = lines_of answers
lines_of (Unasked ∷ answers) = lines_of answers
lines_of (Marked bytes ∷ answers) = lines_of answers
lines_of (Framed bytes ∷ answers) = lines_of answers
lines_of (Written bytes ∷ answers) = bytes ∷ lines_of answers

output_fed : (year : ℤ) (lines : List (List ℕ)) (answers : List Answer) → AreAnswers (tidying year) lines answers
    → output_of answers ≡ with_feeds (lines_of answers)
output_fed year [] [] h = refl
output_fed year (line ∷ lines) (Omitted ∷ answers) h = output_fed year lines answers h.1
output_fed year (line ∷ lines) (Written bytes ∷ answers) h =
    simp (append_assoc, output_fed year lines answers h.1)
output_fed year (line ∷ lines) (Framed bytes ∷ answers) h = absurd h.0
output_fed year (line ∷ lines) (Marked bytes ∷ answers) h = absurd h.0
output_fed year (line ∷ lines) (Unasked ∷ answers) h = absurd h.0
output_fed year lines answers h = absurd h

all_at_rest : (year : ℤ) (lines : List (List ℕ)) (answers : List Answer) → All NoFeed lines
    → AreAnswers (tidying year) lines answers → AllByRecursion (IsStableLine year) (lines_of answers)
all_at_rest year [] [] free h = tt
all_at_rest year (line ∷ lines) (Omitted ∷ answers) free h =
    all_at_rest year lines answers (All-tail NoFeed line lines free) h.1
all_at_rest year (line ∷ lines) (Written bytes ∷ answers) free ((utf8, (text, first, same)), h) = (
  subst (IsStableLine year) (sym same) (at_rest year line text (All-head NoFeed line lines free) utf8 first),
  all_at_rest year lines answers (All-tail NoFeed line lines free) h,
)
all_at_rest year (line ∷ lines) (Framed bytes ∷ answers) free h = absurd h.0
all_at_rest year (line ∷ lines) (Marked bytes ∷ answers) free h = absurd h.0
all_at_rest year (line ∷ lines) (Unasked ∷ answers) free h = absurd h.0
all_at_rest year lines answers free h = absurd h

-- each of them gives itself
answered_again : (year : ℤ) (ts : List (List ℕ)) (answers : List Answer) → AllByRecursion (IsStableLine year) ts
    → AreAnswers (tidying year) ts answers → (output_of answers ≡ with_feeds ts) × (count_by is_skipped answers ≡ 0)
answered_again year [] [] h k = (refl, refl)
answered_again year (t ∷ ts) (a ∷ answers) h k =
    let (same, none) = answered_again year ts answers h.1 k.1 in
    rw (h.0.1 a k.0) (append_assoc t (10 ∷ []) (output_of answers) ∙ ap (λ (l : List ℕ). t ++ 10 ∷ l) same, none)
answered_again year ts answers h k = absurd k

-- ---- the run
pub TidiesAll-again : (year : ℤ) (in_before in_after out_before out_after : Option (List ℕ)) (summary : Summary)
    → TidiesAll year in_before in_after out_before out_after summary
    → WritesAgain year in_before out_before out_after summary
TidiesAll-again year in_before in_after out_before out_after summary (found, all, counted, refused) output e
    (bytes, lines, answers, cut, answered, is) =
    let ts = lines_of answers in
    let rests = all_at_rest year lines answers cut.0 answered in
    let fed : output ≡ with_feeds ts = is ∙ output_fed year lines answers answered in
    let read : all.all.read ≡ output = rw e at (Consumes-whole in_before in_after all.all.read
    (λ (l : List ℕ). all.all.read ≡ l) all.all.consumed all.all.at_end refl) in
    let free =
    All-weaker (IsStableLine year) NoFeed (λ line at. at.0) ts (All-from_recursion (IsStableLine year) ts rests) in
    let same = fed_lines ts all.lines free
    (subst (λ (l : List ℕ). IsLines l all.lines) (sym all.all.framed.1 ∙ read ∙ fed)
    (frames_are_lines all.all.framed.0 all.lines all.all.framed.2)) in
    let (again, none) = answered_again year ts found rests
    (subst (λ (l : List (List ℕ)). AreAnswers (tidying year) l found) same all.answered) in
    (subst (λ (l : List ℕ). Appends out_before out_after l) (again ∙ sym fed) all.written, refused ∙ ap held_count none)
