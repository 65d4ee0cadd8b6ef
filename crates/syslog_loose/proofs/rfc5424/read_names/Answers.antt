use Rattle.syslog_loose.proofs.Names.{◌≡◌, ◌⊎◌, ◌∙◌, ◌∷◌, ◌++◌, ◌then◌, ◌past◌, Option, Some, None, IfSome, sym, ap}
use Rattle.syslog_loose.proofs.Names.{arith, inl, inr, refl, option_map, IsBareWord, Text, Class, Front, named_process}
use Rattle.syslog_loose.proofs.Names.{process_text, process_word, words_row, host, word, name_text, row_of, no_row}
use Rattle.syslog_loose.proofs.Names.{names_row, seen, shown, some_run, is_blank, is_not_whitespace, []}
use Rattle.syslog_loose.proofs.Names.{append_cancel_right, front_same, some_run_det, Ends, NoFront}
use Rattle.std.proofs.lemmas.List.{append_cancel_left}
use Rattle.syslog_text.proofs.PieceLemmas.Class.{front_of}
use Rattle.syslog_pieces.proofs.ProcIdLemmas.{no_process, process_back, process_bounded, process_canonical}
use Rattle.syslog_pieces.proofs.ProcIdLemmas.{process_word_det}
use Rattle.syslog_text.proofs.TextLemmas.Runs.{host_stands, host_text, names_text, word_stands}
use Rattle.syslog_loose.proofs.PrintedLemmas.{visible_ends_blanks}
use Rattle.syslog_loose.proofs.Rfc5424Lemmas.{named_front, names_det, names_front, process_unblank}
use Rattle.syslog_loose.proofs.rfc5424.read_names.Goals as goal

-- ---- a piece after blanks

abbrev IsSpaced : (C : Class) → Text → Text → C.Value → Type 0
IsSpaced C t q v = (u : Text) × Front (some_run is_blank) t u tt × Front C u q v

abbrev NoneSpaced : Class → Text → Type 0
NoneSpaced C t = NoFront (some_run is_blank) t ⊎ ((u : Text) × Front (some_run is_blank) t u tt × NoFront C u)

-- where none is, no row goes on, whatever else it may begin with
fails : {C : Class} {t : Text} (P : Text → Type 0) → NoneSpaced C t → NoFront (some_run is_blank) t
    ⊎ ((u : Text) × (v : Unit {0}) × Front (some_run is_blank) t u v × (NoFront C u ⊎ P u))
fails P (inl n) = inl n
fails P (inr (u, g, n)) = inr (u, tt, g, inl n)

-- ---- the process id that a word names
process_named : {t q : Text} {v : Option Text} → IsSpaced word t q v
    → IsSpaced process_word t q (option_map named_process v)
process_named (u, g, f) = (u, g, named_front f)

no_spaced_process : {t : Text} → NoneSpaced word t → NoneSpaced process_word t
no_spaced_process (inl n) = inl n
no_spaced_process (inr (u, g, n)) = inr (u, g, no_process n)

-- where its word is bare, it is in printed form
bare_process : (v : Option Text) → IfSome v IsBareWord → name_text v ≡ process_text (option_map named_process v)
bare_process None bare = refl
bare_process (Some t) bare = sym bare

process_is_bare : (v : Option Text) → name_text v ≡ process_text (option_map named_process v) → IfSome v IsBareWord
process_is_bare None e = tt
process_is_bare (Some t) e = sym e

-- ---- a name that is in printed form before more

-- the gap before it is one space
one_gap : {t u w : Text} → Front (some_run is_blank) t u tt → Ends is_blank w → t ≡ 32 ∷ w → u ≡ w
one_gap f ends e = (front_same (some_run is_blank) (some_run_det is_blank) f
    (front_of (32 ∷ []) e (omega arith, (refl, tt), ends))).0

peeled : {t u q : Text} (more name : Text) → Front (some_run is_blank) t u tt → u ≡ name ++ q
    → Ends is_blank (name ++ more)
    → t ≡ 32 ∷ (name ++ more) → (t ≡ 32 ∷ (name ++ q)) × (q ≡ more)
peeled {q = q} more name gap stands ends e =
    let rest = append_cancel_left name q more (sym stands ∙ one_gap gap ends e) in
    (e ∙ ap (λ (x : Text). 32 ∷ (name ++ x)) (sym rest), rest)

host_peeled : {t q more : Text} {v : Option Text} → IsSpaced host t q v → t ≡ 32 ∷ (name_text v ++ more)
    → (t ≡ 32 ∷ (name_text v ++ q)) × (q ≡ more)
host_peeled {q = q} {more = more} {v = v} (u, gap, f) e =
    let ends = visible_ends_blanks f.piece more f.is.0 f.is.1 in
    peeled more (name_text v) gap (host_stands u q v f) (rw (host_text f.piece q v f.is) at ends) e

word_peeled : {t q more : Text} {v : Option Text} → IsSpaced word t q v → t ≡ 32 ∷ (name_text v ++ more)
    → (t ≡ 32 ∷ (name_text v ++ q)) × (q ≡ more)
word_peeled {q = q} {more = more} {v = v} (u, gap, f) e =
    let ends = visible_ends_blanks f.piece more f.is.0 f.is.1 in
    peeled more (name_text v) gap (word_stands u q v f) (rw (names_text f.piece v f.is.4) at ends) e

-- a process id is so before white space
process_peeled : {t q more : Text} {v : Option Text} → IsSpaced word t q v → Ends is_not_whitespace more
    → t ≡ 32 ∷ (process_text (option_map named_process v) ++ more)
    → (t ≡ 32 ∷ (name_text v ++ q)) × IfSome v IsBareWord × (q ≡ more)
process_peeled {q = q} {more = more} {v = v} (u, gap, w) white e =
    let process = option_map named_process v in
    let f = named_front w in
    let back = process_back process more (process_canonical f.piece q process f.is)
    (process_bounded f.piece q process f.is) white in
    let here = one_gap gap (process_unblank process more more back) e in
    let rest = (front_same process_word process_word_det f (front_of (process_text process) here back)).0 in
    let same = sym (word_stands u q v w) ∙ here ∙ ap (λ (x : Text). process_text process ++ x) (sym rest) in (
      e ∙ ap (λ (x : Text). 32 ∷ x) (sym here ∙ word_stands u q v w),
      process_is_bare v (append_cancel_right (name_text v) (process_text process) q same),
      rest,
    )

-- four names, each after a space
names_joined : {t a b c word : Text} (host app process id q : Text) → t ≡ 32 ∷ (host ++ a) → a ≡ 32 ∷ (app ++ b)
    → b ≡ 32 ∷ (word ++ c) → word ≡ process → c ≡ 32 ∷ (id ++ q)
    → t ≡ 32 ∷ (host ++ (32 ∷ (app ++ (32 ∷ (process ++ (32 ∷ (id ++ q)))))))
names_joined host app process id q h a p e i = cc

-- ---- the goals

pub returns-in_err-hostname-clause-reads : goal.returns-in_err-hostname-clause-reads
returns-in_err-hostname-clause-reads g c =
    rw c.from_residual.ensures (no_row names_row names_det (fails _ c.in_err-hostname.ensures.reads))

pub returns-in_err-appname-clause-reads : goal.returns-in_err-appname-clause-reads
returns-in_err-appname-clause-reads g c =
    let host = c.in_ok-hostname.ensures.reads in
    rw c.from_residual-in_err-appname.ensures
    (no_row names_row names_det (host.1 past host.2 past fails _ c.in_err-appname.ensures.reads))

pub returns-in_err-process-clause-reads : goal.returns-in_err-process-clause-reads
returns-in_err-process-clause-reads g c =
    let host = c.in_ok-hostname.ensures.reads in
    let app = c.in_ok-appname.ensures.reads in
    rw c.from_residual-in_err-process.ensures (no_row names_row names_det (host.1 past host.2 past app.1 past app.2 past
    fails _ (no_spaced_process c.in_err-process.ensures.reads)))

pub returns-in_err-msgid-clause-reads : goal.returns-in_err-msgid-clause-reads
returns-in_err-msgid-clause-reads g c =
    let host = c.in_ok-hostname.ensures.reads in
    let app = c.in_ok-appname.ensures.reads in
    let process = process_named c.in_ok-process.ensures.reads in
    rw c.from_residual-in_err-msgid.ensures (no_row names_row names_det (host.1 past host.2 past app.1 past app.2 past
    process.1 past process.2 past fails _ c.in_err-msgid.ensures.reads))

pub returns-clause-reads : goal.returns-clause-reads
returns-clause-reads g c =
    let host = c.in_ok-hostname.ensures.reads in
    let app = c.in_ok-appname.ensures.reads in
    let word = c.in_ok-process.ensures.reads in
    let id = c.in_ok-msgid.ensures.reads in
    let words = row_of words_row (host.1 then host.2 then app.1 then app.2 then word.1 then word.2 then id.1 then id.2
    then refl) in (refl, refl, refl, refl, names_front words, words)

pub returns-clause-prints : goal.returns-clause-prints
returns-clause-prints g c =
    let host = c.in_ok-hostname.ensures in
    let app = c.in_ok-appname.ensures in
    let word = c.in_ok-process.ensures in
    let id = c.in_ok-msgid.ensures in
    record {
      prints = λ e. (let (starts, (after_host, (after_app, (bare, (ends, _))))) = c.are_all-is_printed.ensures.0 e in
          names_joined _ _ _ (name_text (seen c.in_ok-msgid.msgid)) (shown c.in_ok-msgid.after_id)
          (host.fits.0 starts) (app.fits.0 after_host) (word.fits.0 after_app)
          (bare_process _ (c.is_bare.ensures.0 bare))
          (id.fits.0 ends));
      only = λ more e. (
          let (starts, after_host) = host_peeled host.reads e in
          let (follows, after_app) = word_peeled app.reads after_host in
          let (named, bare, after_process) = process_peeled word.reads refl after_app in
          let (ends, after) = word_peeled id.reads after_process in (
            c.are_all-is_printed.ensures.1 (
              host.fits.1 starts,
              (app.fits.1 follows, (word.fits.1 named, (c.is_bare.ensures.1 bare, (id.fits.1 ends, tt)))),
            ),
            sym after,
          ));
    }
