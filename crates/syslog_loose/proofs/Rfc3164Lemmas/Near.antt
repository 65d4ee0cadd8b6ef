-- What is read as RFC 3164 meets the condition, but for its exceptions.
use Rattle.syslog_loose.proofs.Names.{skip_leading_whitespace, named_process, stamp_text_canonical, append_cancel_right}
use Rattle.syslog_loose.proofs.Names.{◌++◌, is_not_whitespace, IsCanonicalElement, AreNamesButQuirks, IsNearlyCanonical}
use Rattle.syslog_loose.proofs.Names.{AllByRecursion, IsCanonicalStamp, OffsetTimestamp, division_front, IsInnerProcess}
use Rattle.syslog_loose.proofs.Names.{◌≡◌, is_label_char, rfc3164_stamp, HasQuirksAlone, decimal_digits, is_ascii_digit}
use Rattle.syslog_loose.proofs.Names.{append_assoc, trimmed, present_front, HasQuietNames, fields_before, IsOfMonthDate}
use Rattle.syslog_loose.proofs.Names.{IfSome_then, NamesProcess, ElementValue, full_element, rfc3164_list, is_open_char}
use Rattle.syslog_loose.proofs.Names.{elements_or, is_tag_char, spaced_parts, MessageValue, NamesProgram, process_same}
use Rattle.syslog_loose.proofs.Names.{◌≢◌, bare_prints, is_no_colon, rfc3164_row, stamped_row, named_names, procid_text}
use Rattle.syslog_loose.proofs.Names.{option_map, unwrap_or, IsBareWord, month_date, rest_whole, HasNoColon, IsRead3164}
use Rattle.syslog_loose.proofs.Names.{IsVisible, IsOddHost, fields_row, each_after, each_front, each_right, row_pieces}
use Rattle.syslog_loose.proofs.Names.{rules, optional, Names3164, each_both, each_left, name_text, nat_tests, rest_same}
use Rattle.syslog_loose.proofs.Names.{ℕ, priority, is_blank, tag_word, DashRule, tag_text, Resolves, form_row, each_map}
use Rattle.syslog_loose.proofs.Names.{length, Option, IfSome, IsSome, spaced, IsMany, IsHost, Dating, decimal, run_same}
use Rattle.syslog_loose.proofs.Names.{Bool, List, [], subst, arith, Front, ProcId, heads, names, IsForm, begins, negsuc}
use Rattle.syslog_loose.proofs.Names.{◌↔◌, ◌<◌, ◌⊎◌, ◌∷◌, ◌∙◌, Some, None, refl, ap, Text, Each, Ends, dash, host, Name}
use Rattle.syslog_loose.proofs.Names.{inl, inr, sym, run, PID, pos, suc}
use Rattle.syslog_elements.proofs.StructuredDataLemmas.Elements.{element_canonical}
use Rattle.syslog_loose.proofs.Rfc3164Lemmas.{of_names, shows, one_form}
use Rattle.syslog_loose.proofs.PrintedLemmas.{drop_ends, last_ends, severity_beside}
use Rattle.syslog_loose.specs.TagForm.{IsIdOf}
use Rattle.std.proofs.lemmas.List.{append_cancel_left}
use Rattle.syslog_text.proofs.TextLemmas.Runs as verbatim

-- ---- elements

-- canonical elements, each with a parameter
abbrev AreCanonicalElements : List ElementValue → Type 0
AreCanonicalElements es = AllByRecursion IsCanonicalElement es × AllByRecursion (λ e. 0 < length e.params) es

many_canonical : (p q : Text) (es : List ElementValue) → IsMany full_element p q es → AreCanonicalElements es
many_canonical p q [] h = (tt, tt)
many_canonical p q (e ∷ es) (a, b, i, k, more) =
    let r = many_canonical b q es more in ((element_canonical a (b ++ q) e k.0, r.0), (k.1, r.1))

field_canonical : (rule : DashRule) (p q : Text) (v : Option (List ElementValue))
    → (optional (rfc3164_list rule)).Is p q v → AreCanonicalElements (elements_or v)
field_canonical rule p q None h = (tt, tt)
field_canonical rule p q (Some es) (inl (d, a, e)) = rw e (tt, tt)
field_canonical rule p q (Some es) (inr (l, h)) = many_canonical p q es h

-- ---- the host field: only before a colon its text is `-`, or ends in a colon
abbrev pub HostField : Text → Option (Option Text) → Type 0
HostField q (Some (Some h)) = IsVisible h × (IsOddHost h → (r : Text) × (q ≡ 58 ∷ r))
HostField q field = Unit {0}

host_text : (p q : Text) (v : Option Text) → IsHost p q v → HostField q (Some v)
host_text p q None h = tt
host_text p q (Some w) (l, a, inl (n, b, (e, d))) = rw e ((l, a), λ o. absurd (elim o [ inl x ↦ d x | inr x ↦ n x ]))
host_text p q (Some w) (l, a, inr (r, f, b, e)) = let same : w ≡ p = cc in rw same ((l, a), λ o. (r, f))

pub host_field : (t q : Text) (v : Option (Option Text)) → Front (optional (spaced host)) t q v → HostField q v
host_field t q None f = tt
host_field t q (Some v) f =
    let (r, e, g) = spaced_parts host (present_front (spaced host) f) in host_text g.piece q v g.is

-- ---- the tag field: a word after a space
abbrev pub TagField : Text → Option (Option Text) → Type 0
TagField t (Some (Some w)) = ((0 < length w) × Each is_tag_char w × (w ≢ dash)) × ((r : Text) × (t ≡ 32 ∷ r))
TagField t field = Unit {0}

pub tag_field : (t q : Text) (v : Option (Option Text)) → Front (optional (spaced tag_word)) t q v → TagField t v
tag_field t q (Some (Some w)) f = search rules
tag_field t q field f = tt

-- ---- the form
pub record FormParts (text tag id : Text) : Type 0 where
  pub whole : text ≡ tag ++ (91 ∷ (id ++ (93 ∷ [])))
  pub label : Each is_label_char tag
  pub some : 0 < length id
  pub unclosed : Each is_open_char id

pub form_parts : (text tag id : Text) → IsForm text tag id → FormParts text tag id
form_parts text tag id d =
    let (t1, g1, (t2, g2, (t3, g3, (t4, g4, end)))) = row_pieces form_row (division_front form_row d) in
    let e : id ≡ g3.piece = g3.is.2 in
    let whole : text ≡ tag ++ (91 ∷ (id ++ (93 ∷ []))) =
    cc (g1.whole, g1.is.2, (begins 91 t1 t2 g2), g3.whole, e, (begins 93 t3 t4 g4), end) in search rules

-- and what holds of each character of the text, of those of the id
within_form : {text tag id : Text} (f : ℕ → Bool) → FormParts text tag id → Each f text → Each f id
within_form {tag = tag} {id = id} f parts h = search (rules, each_after, each_front)

-- what an id names
inner_process : (id : Text) (process : ProcId Text) → NamesProcess id process → 0 < length id
    → Each is_not_whitespace id → Each is_open_char id → IsInnerProcess process
inner_process id (PID n) h l a o = tt
inner_process id (Name t) (none, e) l a o = rw e (l, each_both is_not_whitespace is_open_char id a o, none)

no_colon_process : (id : Text) (process : ProcId Text) → NamesProcess id process → Each is_no_colon id
    → HasNoColon process
no_colon_process id (PID n) h a = tt
no_colon_process id (Name t) (none, e) a = rw e a

-- ---- what the two fields mean

-- with no colon in the process but where a lone text names it
pub record NearNames (program : Option (Option Text)) (n : Names3164) : Type 0 where
  pub visible : IfSome n.hostname IsVisible
  pub odd_host : IfSome n.hostname (λ h. IsOddHost h → n.appname ≡ None)
  pub names : AreNamesButQuirks n.hostname n.appname n.procid
  pub colon : IfSome n.procid HasNoColon ⊎ ((n.hostname ≡ None) × (program ≡ None))

-- before a space the host is not odd
before_space : (q : Text) (v : Option (Option Text)) (app : Option Text) → HostField q v → ((r : Text) × (q ≡ 32 ∷ r))
    → IfSome (unwrap_or v None) IsVisible × IfSome (unwrap_or v None) (λ h. IsOddHost h → app ≡ None)
before_space q (Some (Some h)) app (v, o) (r, w) =
    (v, λ x. absurd (let (s, y) = o x in let t : ◌≡◌ {A = ℕ} 58 32 = heads 58 32 s r (sym y ∙ w) in omega arith))
before_space q field app k s = (tt, tt)

pub near_names : (q : Text) (origin program : Option (Option Text)) (n : Names3164) → Resolves origin program n
    → HostField q origin → TagField q program → NearNames program n
near_names q = of_names (λ v t n. HostField q v → TagField q t → NearNames t n) (record {
  nobody = λ v t a b. record { visible = tt; odd_host = tt; names = tt; colon = inl tt };
  host = λ h none a b. record { visible = a.0; odd_host = λ o. refl; names = none; colon = inl tt };
  lone = λ h tag id p f g a b. let parts = form_parts h tag id f in
      let visible = within_form is_not_whitespace parts a.0.1 in
      let inner = inner_process id p g parts.some visible parts.unclosed in
      record { visible = tt; odd_host = tt; names = (parts.label, inner); colon = inr (refl, refl) };
  app = λ v t none a b. let o = before_space q v (Some t) a b.1 in
      record { visible = o.0; odd_host = o.1; names = (b.0.0, b.0.1, b.0.2, none); colon = inl tt };
  process = λ v t tag id p f g a b.
      let parts = form_parts t tag id f in
      let inside = within_form is_tag_char parts b.0.1 in
      let visible = each_left is_not_whitespace is_no_colon id inside in
      let o = before_space q v (Some tag) a b.1 in
      let inner = inner_process id p g parts.some visible parts.unclosed in
      let colon = no_colon_process id p g (each_right is_not_whitespace is_no_colon id inside) in
      record { visible = o.0; odd_host = o.1; names = (parts.label, inner); colon = inl colon };
})

-- ---- the message
module _ (rule : DashRule) (dating : Dating) (text : Text) where
  pub read_near : (m : MessageValue) → IsRead3164 rule dating text m → HasQuirksAlone m
  read_near m r =
      let v = r.values in
      let (n, resolves, means) = r.means in
      let row = division_front (rfc3164_row rule dating) r.division in
      let (_, _, (_, _, (t3, g3, (t4, g4, (t5, g5, (_, _, (_, _, (t8, _, (t9, g9, (_, g10, (_, g11, _))))))))))) =
      row_pieces (rfc3164_row rule dating) row in
      let near = near_names t4 v.1.1.1.0 v.1.1.1.1.0 n resolves (host_field t3 t4 v.1.1.1.0 g4)
      (tag_field t4 t5 v.1.1.1.1.0 g5) in
      let canonical = field_canonical rule g9.piece t9 v.1.1.1.1.1.1.1.1.0 g9.is in
      let colon : IfSome n.procid HasNoColon ⊎ (n.hostname ≡ None) = search rules in
      let front = subst (λ (x : Text). Ends is_blank x) (rest_whole g11) g10.is.1 in
      let end = last_ends (stamped_row dating ++ (fields_row ++ (optional (rfc3164_list rule) ∷ run is_blank ∷ []))) row
      (drop_ends (skip_leading_whitespace text)) in rw means (search (canonical.0, canonical.1) parts 1)

  -- a timestamp that was read is canonical, or that of a month date that the text shows
  abbrev IsOfKind : OffsetTimestamp → Type 0
  IsOfKind s = IsCanonicalStamp s ⊎ IsOfMonthDate dating text s

  stamp_kind : (p : Option ℕ) (t u q : Text) (v : Option OffsetTimestamp) → Front (optional priority) (trimmed text) t p
      → Front (run is_blank) t u tt → Front (rfc3164_stamp dating) u q v → IfSome v IsOfKind
  stamp_kind p t u q None f g h = tt
  stamp_kind p t u q (Some s) f g h = elim h.is [
    | inl k ↦ inl (stamp_text_canonical h.piece s k.0)
    | inr (date, k, stamp) ↦
        let d : Front month_date u q date = record { piece = h.piece; whole = h.whole; is = k } in
        inr (date, shows month_date f g d, stamp)
  ]

  pub stamp_read : (m : MessageValue) → IsRead3164 rule dating text m → IfSome m.timestamp IsOfKind
  stamp_read m r =
      let (n, resolves, means) = r.means in
      let (t1, g1, (t2, g2, (t3, g3, _))) = row_pieces (rfc3164_row rule dating)
      (division_front (rfc3164_row rule dating) r.division) in
      rw means (stamp_kind r.values.0 t1 t2 t3 r.values.1.1.0 g1 g2 g3)

  -- with a facility there is a severity
  pub read_nearly : (m : MessageValue) → IsRead3164 rule dating text m → IsSome m.facility → IsNearlyCanonical m
  read_nearly m r f =
      let (n, resolves, means) = r.means in
      let there = severity_beside r.values.0 (rw means at f) in
      record { facility = f; severity = rw means there; rest = read_near m r }

-- ---- what is already in printed form

-- a name of the form of a tag and a bare id, before `: `
formed_prints : {name tag id : Text} → FormParts name tag id → (process : ProcId Text) → IsBareWord id
    → NamesProcess id process → name ++ (58 ∷ 32 ∷ []) ≡ tag_text (Some tag) (Some process)
formed_prints {id = id} parts process bare named =
    rw (parts.whole, bare_prints id process bare named) (simp append_assoc)

-- the text of a number has no bracket
digits_open : (t : Text) → Each is_ascii_digit t → Each is_open_char t
digits_open = each_map is_ascii_digit is_open_char (λ c h. grind (arith, nat_tests))

process_open : (id : Text) (p : ProcId Text) → NamesProcess id p → Each is_open_char id
    → Each is_open_char (procid_text p)
process_open id (PID (pos n)) h each = digits_open (decimal n) (decimal_digits n (omega (arith, h.1))).1
process_open id (PID (negsuc n)) h each =
    (refl, digits_open (decimal (suc n)) (decimal_digits (suc n) (omega (arith, h.1))).1)
process_open id (Name s) h each = subst (λ (x : Text). Each is_open_char x) (sym h.1) each

-- a name of that form that prints as its tag and its process has a bare id, and `: ` after it
form_bare : (id : Text) (p : ProcId Text) (tag name between : Text) → FormParts name tag id → NamesProcess id p
    → name ++ between ≡ tag_text (Some tag) (Some p) → IsBareWord id × (between ≡ 58 ∷ 32 ∷ [])
form_bare id p tag name between parts named e =
    search (
      rules,
      append_assoc,
      procid_text,
      append_cancel_left,
      process_open,
      run_same,
      is_open_char,
      rest_same,
      process_same,
      named_process,
      named_names,
    )

module _ {tail t u name : Text} {origin : Option Text} (f : Front (optional (spaced host)) tail t (Some origin))
    (g : Front (optional (spaced tag_word)) t u (Some (Some name))) (between msg : Text) (w : u ≡ between ++ msg) where
  -- a host field and a program are in printed form where the program and what is before the message print as the tag
  fields_printed : (app : Option Text) (process : Option (ProcId Text))
      → (name ++ between ≡ tag_text app process) ↔ (tail ≡ fields_before (names origin app process) msg)
  fields_printed app process =
      search (
        rules,
        spaced_parts,
        host,
        present_front,
        spaced,
        tag_word,
        name_text,
        verbatim.host_text,
        append_assoc,
        append_cancel_right,
        tag_text,
        append_cancel_left,
      )

  -- what they mean is quiet
  fields_quiet : (app : Text) (process : Option (ProcId Text)) → Resolves (Some origin) (Some (Some name))
      (names origin (Some app) process) → HasQuietNames origin process
  fields_quiet app process r =
      let near = near_names t (Some origin) (Some (Some name)) (names origin (Some app) process) r
      (host_field tail t (Some origin) f) (tag_field t u (Some (Some name)) g) in
      search (rules, IfSome_then)

  -- the text of the process is bare, and `: ` is before the message
  abbrev IsBareBefore : Option Text → Type 0
  IsBareBefore process = IfSome process IsBareWord × (between ≡ 58 ∷ 32 ∷ [])

  -- so all of them are in printed form exactly where that holds; and they are quiet
  abbrev FieldsTold : Option Text → Names3164 → Type 0
  FieldsTold process n = (IsBareBefore process ↔ (tail ≡ fields_before n msg)) × HasQuietNames n.hostname n.procid

  pub fields_told : (h a process : Option Text) → NamesProgram origin name
      (names h a (option_map named_process process)) → IsIdOf name process
      → FieldsTold process (names h a (option_map named_process process))
  fields_told h a None (inl (tag, id, p, form, named, same)) of =
      absurd (let none = ap (λ (x : Names3164). x.procid) same in cc)
  fields_told h a None (inr (none, same)) of = search (rules, fields_printed, append_cancel_left)
  fields_told h a (Some word) (inl (tag, id, p, form, named, same)) (tag', form') =
      let prints = fields_printed (Some tag) (Some p) in
      let parts = form_parts name tag id form in
      let own = (one_form name tag id tag' word form form').1 in
      subst (FieldsTold (Some word)) (sym same) (
        (
          λ (bare, end). prints.0 (rw end (formed_prints parts p (subst IsBareWord (sym own) bare) named)),
          λ e. let (bare, end) = form_bare id p tag name between parts named (prints.1 e) in
              (subst IsBareWord own bare, end),
        ),
        fields_quiet tag (Some p) (inl (tag, id, p, form, named, refl)),
      )
  fields_told h a (Some word) (inr (none, same)) of =
      absurd (let none = ap (λ (x : Names3164). x.procid) same in cc)
