-- What the printed text of a message is read as: one that prints the same, or a lighter one; and its rank falls.
use Rattle.syslog_loose.proofs.Names.{some_front_run, stamp_text_canonical, printed_stamp-visible, printed_stamp-begins}
use Rattle.syslog_loose.proofs.Names.{[], is_not_whitespace, AreCanonicalNames, IsCanonicalElement, stamped_date_begins}
use Rattle.syslog_loose.proofs.Names.{◌then◌, bytes_eq-Decides, AreNamesButQuirks, priority_composed, rfc3164_stamp_det}
use Rattle.syslog_loose.proofs.Names.{EndsInColon, IsBoundedProcess, IsCanonicalHost, no_spaced_space, IsCanonicalStamp}
use Rattle.syslog_loose.proofs.Names.{length-append, no_spaced_piece, OffsetTimestamp, facility_number, severity_number}
use Rattle.syslog_loose.proofs.Names.{division_front, HasQuirksAlone, timestamp_text, AllByRecursion, nil_from_length}
use Rattle.syslog_loose.proofs.Names.{HasNoNameQuirk, is_inner_char, HasQuietNames, optional_some, BeginsNoDashes, ◌++◌}
use Rattle.syslog_loose.proofs.Names.{optional_none, append_assoc, names_weight, option_map_or, rfc3164_stamp, bytes_eq}
use Rattle.syslog_loose.proofs.Names.{is_open_char, is_tag_char, spaced_front, ElementValue, MessageValue, begins_apart}
use Rattle.syslog_loose.proofs.Names.{BeginsNoList, BeforeBlank, each_append, piece_front, is_no_colon, IsDashBefore, ℕ}
use Rattle.syslog_loose.proofs.Names.{elements_or, ◌≡◌, priority_of, rfc3164_row, facility_of, severity_of, begins_more}
use Rattle.syslog_loose.proofs.Names.{begins_with, append-nil, row_pieces, each_right, no_full_nil, IsCanonical, nat_eq}
use Rattle.syslog_loose.proofs.Names.{nat_tests, each_front, each_after, HasNoColon, step_value, IsRead3164, front_same}
use Rattle.syslog_loose.proofs.Names.{name_text, each_both, each_left, rows_step, IsVisible, IsOddHost, Names3164, true}
use Rattle.syslog_loose.proofs.Names.{NoFront, tail_text, rest_same, optional, is_blank, tag_word, dash_rule, IsBounded}
use Rattle.syslog_loose.proofs.Names.{DashRule, tag_text, Resolves, body_row, run_same, form_row, IsNoForm, row_head}
use Rattle.syslog_loose.proofs.Names.{IsDashed, EndsOnce, length, exactly, printed, row_det, HasRank, list_any, RFC3164}
use Rattle.syslog_loose.proofs.Names.{Option, IfSome, row_of, Values, spaced, ProcId, Dating, Weighs, Begins, Prints}
use Rattle.syslog_loose.proofs.Names.{rules, IsSome, false, None, refl, subst, arith, Some, Front, colon, names, heads}
use Rattle.syslog_loose.proofs.Names.{take, ◌≢◌, ◌<◌, ◌≤◌, Text, Each, Ends, dash, host, Name, List, step, zero, drop}
use Rattle.syslog_loose.proofs.Names.{ap, ◌⊎◌, ◌∷◌, ◌∙◌, ◌-◌, inl, inr, not, sym, Row, run, PID, ◌+◌, ◌*◌, suc, ◌↔◌}
use Rattle.std.proofs.lemmas.List.{take-append-drop, Prefix.end_rest}
use Rattle.syslog_loose.proofs.SettlingLemmas.Weights.{Decided, decided, no_char, no_list_by, no_list_inner, left_none}
use Rattle.syslog_loose.proofs.SettlingLemmas.Weights.{colon_weight, fields_light, host_light, process_light, free}
use Rattle.syslog_loose.proofs.SettlingLemmas.Weights.{paid, at_most, list_read, dash_before}
use Rattle.syslog_loose.proofs.Rfc3164Lemmas.{resolves_once, from_blanks, to_colon, to_colon_det, IsDigit, digit_range}
use Rattle.syslog_loose.proofs.Rfc3164Lemmas.{rfc3164_bounded, printed_3164_is, to_stamp, to_stamp_det, from_stamp}
use Rattle.syslog_loose.{proofs.Rfc3164Lemmas.body_det, proofs.Rfc3164Lemmas.told, specs.Printed.printed_3164}
use Rattle.syslog_text.proofs.PieceLemmas.Class.{firsts}
use Rattle.syslog_loose.proofs.CanonicalLemmas.{canonical_names, near_canonical, quiet_names}
use Rattle.syslog_loose.proofs.Rfc3164Lemmas.ReadBack.{program_field, resolved, no_tag_colon, names_back, tagged}
use Rattle.syslog_loose.proofs.Rfc3164Lemmas.ReadBack.{host_field_back, program_text, stamp_low, body_back, stamp_back}
use Rattle.syslog_loose.proofs.Rfc3164Lemmas.ReadBack.{to_stamp_back, trimmed_whole, canonical_back}
use Rattle.syslog_pieces.proofs.TimestampLemmas.Rfc3339.{stamp_each, space_ends}
use Rattle.syslog_loose.proofs.PrintedLemmas.{priority_small, message_blanks}
use Rattle.syslog_loose.proofs.Rfc3164Lemmas.Near.{read_near, read_nearly}

-- ---- what is known of a text

pub same_text : (xs ys : Text) → Decided (xs ≡ ys)
same_text xs ys = decided (bytes_eq xs ys) (bytes_eq-Decides xs ys)

ends_in : (h : Text) → Decided (EndsInColon h)
ends_in h = elim (same_text (drop (length h - 1) h) colon) [
  | inl e ↦ inl (take (length h - 1) h, sym (rw e at (take-append-drop (length h - 1) h)))
  | inr n ↦ inr (λ k. n (end_rest h colon k.0 k.1))
]

-- a text that ends otherwise than in `]` is not of the form of a program's name
pub no_form_open : (a : Text) (c : ℕ) (x : Text) → Each is_open_char (c ∷ x) → IsNoForm (a ++ (c ∷ x))
no_form_open a c x h vs d =
    let (_, f1, (_, f2, (_, f3, (t4, f4, e)))) = row_pieces form_row (division_front form_row d) in
    by a (f1.piece ++ (f2.piece ++ f3.piece))
    (f1.whole ∙ simp (f2.whole, f3.whole, f4.whole, f4.is, e, append_assoc))
  where
    by : (a front : Text) → a ++ (c ∷ x) ≡ front ++ (93 ∷ []) → ⊥
    by [] front e = let k = each_after is_open_char front (93 ∷ []) (subst (λ (y : Text). Each is_open_char y) e h) in
        let t : false ≡ true = k.0 in cc
    by (b ∷ a) [] e = let l = ap length e in omega (arith, l, length-append a (c ∷ x))
    by (b ∷ a) (d ∷ front) e = by a front cc

-- ---- the printed names, t being what follows their colon
abbrev pub names_text : Option Text → Option Text → Option (ProcId Text) → Text → Text
names_text h a p t = 32 ∷ (name_text h ++ (32 ∷ (program_text a p ++ (58 ∷ t))))

pub no_blanks : (t : Text) → Ends is_blank t → Front (run is_blank) t t tt
no_blanks t b = piece_front (run is_blank) [] t tt (tt, b)

pub colon_front : (t : Text) → Front (optional (exactly colon)) (58 ∷ t) t (Some tt)
colon_front t = optional_some (exactly colon) (piece_front (exactly colon) colon t tt refl)

space_front : (t : Text) → Front (exactly (32 ∷ [])) (32 ∷ t) t tt
space_front t = piece_front (exactly (32 ∷ [])) (32 ∷ []) t tt refl

-- a host that leaves its colon
pub host_left : (h t : Text) → IsVisible h → Front (Row to_colon) (32 ∷ ((h ++ colon) ++ (32 ∷ 58 ∷ t))) (32 ∷ 58 ∷ t)
    (Some (Some h), (None, (tt, (Some tt, tt))))
host_left h t (l, a) =
    let after : Text = 58 ∷ 32 ∷ 58 ∷ t in
    rw (append_assoc h colon (32 ∷ 58 ∷ t)) (row_of to_colon
    (optional_some (spaced host) (spaced_front host (space_front (h ++ after))
    (piece_front host h after (Some h) (l, a, inr (32 ∷ 58 ∷ t, refl, refl, refl))))
    then optional_none (spaced tag_word) (no_spaced_space tag_word (no_char 32 58 _ (λ e. omega arith)))
    then no_blanks after refl then colon_front (32 ∷ 58 ∷ t) then refl))

-- a host that is no more than its colon
no_host_alone : (t : Text) → NoFront host (58 ∷ 32 ∷ t)
no_host_alone t p q v e (l, a, inl (n, b, w)) =
    n ([], run_same is_not_whitespace p q colon (32 ∷ t) (sym e) a b (refl, tt) refl)
no_host_alone t p q v e (l, a, inr (r, w, b, z)) =
    let s = run_same is_not_whitespace (p ++ colon) r colon (32 ∷ t) (rw (append_assoc, ← w) (sym e))
    (each_append is_not_whitespace p colon a (refl, tt)) b (refl, tt) refl in
    omega (arith, ap length s, length-append p colon)

host_alone : (t : Text) → Front (Row to_colon) (32 ∷ 58 ∷ 32 ∷ t) (32 ∷ t) (None, (None, (tt, (Some tt, tt))))
host_alone t =
    let after : Text = 58 ∷ 32 ∷ t in
    row_of to_colon
    (optional_none (spaced host) (no_spaced_piece host (space_front after) (no_host_alone t))
    then optional_none (spaced tag_word) (no_spaced_piece tag_word (space_front after) (no_tag_colon (32 ∷ t)))
    then piece_front (run is_blank) (32 ∷ []) after tt ((refl, tt), refl) then colon_front (32 ∷ t) then refl)

-- ---- a process name with a colon: its tag word ends there

open_no_dash : (a x : Text) → a ++ (91 ∷ x) ≢ dash
open_no_dash [] x e = let u : ◌≡◌ {A = ℕ} 91 45 = heads 91 45 x [] e in omega arith
open_no_dash (c ∷ a) x e = let u = ap length e in omega (arith, length-append a (91 ∷ x))

cut_text : (a x z t : Text) → program_text (Some a) (Some (Name (x ++ (58 ∷ z)))) ++ (58 ∷ t) ≡ (a ++ (91 ∷ x))
    ++ (58 ∷ (z ++ (93 ∷ 58 ∷ t)))
cut_text a x z t = simp append_assoc

-- the name of the process has a colon, and this is the first
abbrev Cut : Option (ProcId Text) → Type 0
Cut p = (before : Text) × (after : Text) × (p ≡ Some (Name (before ++ (58 ∷ after)))) × Each is_no_colon before

whole_or_cut : (p : Option (ProcId Text)) → IfSome p HasNoColon ⊎ Cut p
whole_or_cut None = inl tt
whole_or_cut (Some (PID i)) = inl tt
whole_or_cut (Some (Name i)) = let (q, f) = some_front_run is_no_colon i in by f.piece q f.whole f.is.0 f.is.1
  where
    by : (before q : Text) → i ≡ before ++ q → Each is_no_colon before → Ends is_no_colon q
        → Each is_no_colon i ⊎ Cut (Some (Name i))
    by before [] e k ends = inl (subst (Each is_no_colon) (sym (e ∙ append-nil before)) k)
    by before (c ∷ after) e k ends =
        let is : c ≡ 58 = grind (arith, nat_tests) in inr (before, after, rw (e, is) refl, k)

cut_colon : (p : Option (ProcId Text)) → Cut p → IfSome p HasNoColon → ⊥
cut_colon p (x, z, is, none) h = let k = each_after is_no_colon x (58 ∷ z) (rw is at h) in
    let t : false ≡ true = k.0 in cc

has_colon : (x z : Text) → list_any (λ c. nat_eq c 58) (x ++ (58 ∷ z)) ≡ true
has_colon [] z = refl
has_colon (c ∷ x) z = grind (arith, has_colon x z)

-- ---- what is read

module _ (rule : DashRule) (t : Text) (n : Names3164) (vs : Values (body_row rule)) (r : Resolves vs.0 vs.1.0 n) where
  -- names that print the same and weigh no more, and after their colon what was printed there
  pub record Stays (h a : Option Text) (p : Option (ProcId Text)) : Type 0 where
    pub light : names_weight n.hostname n.procid ≤ names_weight h p
    pub host_is : name_text n.hostname ≡ name_text h
    pub tag_is : tag_text n.appname n.procid ≡ tag_text a p
    pub quiet : HasQuietNames n.hostname n.procid
    pub after : Front (Row (from_blanks rule)) t [] vs.1.1.1.1

  -- the host without the colon that it ended in, or none
  abbrev pub LosesColon : Option Text → Type 0
  LosesColon h = (x : Text) × (h ≡ Some (x ++ colon)) × IfSome n.hostname (λ y. y ≡ x)

  -- lighter names, and, but for a process name with a colon by the crate's rule of the dash, a message part that costs
  -- nothing: a process name was cut at a colon, or a host lost one
  abbrev pub Moved : Option Text → Option (ProcId Text) → Type 0
  Moved h p = (names_weight n.hostname n.procid < names_weight h p)
      × ((rule ≡ BeforeBlank) ⊎ IfSome p HasNoColon → elements_or vs.1.1.1.1.1.0 ≡ []
      → BeginsNoList rule vs.1.1.1.1.1.1.1.0)
      × (((IfSome p HasNoColon → ⊥) × HasQuietNames n.hostname n.procid) ⊎ LosesColon h)

  abbrev pub Step : Option Text → Option Text → Option (ProcId Text) → Type 0
  Step h a p = Stays h a p ⊎ Moved h p

  abbrev Reads : Text → Type 0
  Reads x = Front (Row (body_row rule)) x [] vs

  -- from names that are known
  pub known : {x q : Text} {us : Values to_colon} → Front (Row to_colon) x q us → Reads x
      → Resolves us.0 us.1.0 n × Front (Row (from_blanks rule)) q [] vs.1.1.1.1
  known f d = let (same, after) = rows_step to_colon (from_blanks rule) to_colon_det {vs = vs} f d in
      (subst (λ (x : Values to_colon). Resolves x.0 x.1.0 n) same r, after)

  -- a host that prints as a canonical one is read as that one
  canonical_stays : (g h a : Option Text) (p : Option (ProcId Text)) → name_text g ≡ name_text h
      → names_weight g p ≤ names_weight h p → IfSome g IsCanonicalHost → AreCanonicalNames g a p
      → IfSome p HasNoColon → IfSome p IsBoundedProcess → Reads (names_text h a p t) → Stays h a p
  canonical_stays g h a p same less k c q b d =
      let (means, after) = known (names_back g a p t k c b) (rw (← same) at d) in
      let e : n ≡ names g a p = resolves_once (Some g) (program_field a p) n (names g a p) means (resolved g a p c b) in
      search (rules, less, quiet_names)

  cut_moved : (h a : Option Text) (p : Option (ProcId Text)) → Cut p → h ≡ None → AreNamesButQuirks h a p
      → Reads (names_text h a p t) → Moved h p
  cut_moved (Some h) a p c e near d = cc
  cut_moved None None p (x, z, is, free) e near d = absurd (rw is at near)
  cut_moved None (Some a) p (x, z, is, free) e near d =
      let w : Text = a ++ (91 ∷ x) in
      let q : Text = z ++ (93 ∷ 58 ∷ t) in
      let (label, (some, inner, number)) = rw is at near in
      let inner_x = each_front is_inner_char x (58 ∷ z) inner in
      let tag : Each is_tag_char w = each_append is_tag_char a (91 ∷ x)
      (each_left is_tag_char (λ c. not (nat_eq c 91)) a label)
      (refl, each_both is_not_whitespace is_no_colon x (each_left is_not_whitespace is_open_char x inner_x) free) in
      let (means, after) = known
      (row_of to_colon (host_field_back None (w ++ (58 ∷ q)) tt
      then tagged w q (omega (arith, length-append a (91 ∷ x))) tag (open_no_dash a x) then no_blanks (58 ∷ q) refl
      then colon_front q then refl)) (rw (is, cut_text a x z t) at d) in
      let (no_blank, no_list) = no_list_inner z (58 ∷ t) (each_after is_inner_char x (58 ∷ z) inner).1 in
      let tag_alone : n ≡ names None (Some w) None = elim means [
        | inl (tag, id, p, f, g, e) ↦
            absurd (no_form_open a 91 x (refl, each_right is_not_whitespace is_open_char x inner_x) _ f)
        | inr (form, e) ↦ e
      ] in (
        rw (is, tag_alone, has_colon x z) (omega arith),
        λ dashes. elim dashes [
          | inl blank ↦ left_none rule q q vs.1.1.1.1 (no_blanks q no_blank) after (rw blank no_list)
          | inr whole ↦ absurd (cut_colon p (x, z, is, free) whole)
        ],
        inl (cut_colon p (x, z, is, free), rw tag_alone (quiet_names None None tt tt)),
      )

  -- a host that leaves its colon to the message
  colon_moved : (h : Text) → Front (Row (from_blanks rule)) (32 ∷ 58 ∷ t) [] vs.1.1.1.1
      → names_weight n.hostname n.procid < names_weight (Some h) None → LosesColon (Some h) → Moved (Some h) None
  colon_moved h d l how =
      let gap = piece_front (run is_blank) (32 ∷ []) (58 ∷ t) tt ((refl, tt), refl) in
      let none = no_list_by rule 58 t (λ e. omega arith) (λ e. omega arith) in
      (l, λ _. left_none rule _ _ vs.1.1.1.1 gap d none, inr how)

  colons_moved : (h : Text) → Each is_not_whitespace (h ++ colon) → Reads (names_text (Some (h ++ colon)) None None t)
      → Moved (Some (h ++ colon)) None
  colons_moved [] k d = let (means, after) = known (host_alone (58 ∷ t)) d in
      colon_moved colon after (omega (arith, fields_light None None n means)) ([], refl, rw means tt)
  colons_moved (c ∷ h) k d =
      let (means, after) = known (host_left (c ∷ h) t (omega arith, each_front is_not_whitespace (c ∷ h) colon k)) d in
      let heavy = colon_weight (c ∷ h) in
      elim means [
        | inl (tag, id, p, f, g, e) ↦ colon_moved (c ∷ h ++ colon) after (rw e (omega (arith, process_light p, heavy)))
            (c ∷ h, refl, rw e tt)
        | inr (none, e) ↦ colon_moved (c ∷ h ++ colon) after (rw e (omega (arith, host_light (c ∷ h), heavy)))
            (c ∷ h, refl, rw e refl)
      ]

  -- a host that is a dash is read as none
  whole_step : (h a : Option Text) (p : Option (ProcId Text)) → IfSome h IsVisible
      → IfSome h (λ x. IsOddHost x → a ≡ None) → AreCanonicalNames h a p → IfSome p HasNoColon
      → IfSome p IsBoundedProcess → Reads (names_text h a p t) → Step h a p
  whole_step None a p k o c q b d = inl (canonical_stays None None a p refl (omega arith) tt c q b d)
  whole_step (Some h) (Some a) p k o c q b d = inl (canonical_stays (Some h) (Some h) (Some a) p refl (omega arith)
      (k, (λ e. let x = o (inl e) in cc), (λ e. let x = o (inr e) in cc)) c q b d)
  whole_step (Some h) None (Some p) k o c q b d = absurd c
  whole_step (Some h) None None k o c q b d = elim (ends_in h) [
    | inl (front, e) ↦ inr (rw e (colons_moved front (rw e at k.1) (rw e at d)))
    | inr e ↦ elim (same_text h dash) [
      | inr m ↦ inl (canonical_stays (Some h) (Some h) None None refl (omega arith) (k, m, e) c q b d)
      | inl z ↦ inl (canonical_stays None (Some h) None None (sym z) (omega arith) tt tt tt tt d)
    ]
  ]

  pub names_step : (h a : Option Text) (p : Option (ProcId Text)) → IfSome h IsVisible
      → IfSome h (λ x. IsOddHost x → a ≡ None) → AreNamesButQuirks h a p → IfSome p HasNoColon ⊎ (h ≡ None)
      → IfSome p IsBoundedProcess → Reads (names_text h a p t) → Step h a p
  names_step h a p k o near cut b d = elim (whole_or_cut p) [
    | inl c ↦ whole_step h a p k o (canonical_names h a p near c) c b d
    | inr c ↦ elim cut [ inl k ↦ absurd (cut_colon p c k) | inr e ↦ inr (cut_moved h a p c e near d) ]
  ]

-- ---- elements and the message after the colon

-- they are read as they were printed, or a list begins the message, and less of it is left
abbrev pub Ended : (rule : DashRule) → List ElementValue → Text → Values (from_blanks rule) → Type 0
Ended rule es msg vs =
    ((elements_or vs.1.0 ≡ es) × (vs.1.1.1.0 ≡ msg) × (es ≡ [] → BeginsNoList rule msg))
    ⊎ ((es ≡ []) × (BeginsNoList rule msg → ⊥) × (length vs.1.1.1.0 < length msg)
    × (elements_or vs.1.0 ≡ [] → (rest : Text)
    × (msg ≡ 45 ∷ rest) × IsDashBefore rule rest × Front (run is_blank) rest vs.1.1.1.0 tt))

end_read : (rule : DashRule) (es : List ElementValue) (msg : Text) → AllByRecursion IsCanonicalElement es
    → AllByRecursion
    (λ e. 0 < length e.params) es → Ends is_blank msg → (vs : Values (from_blanks rule))
    → Front (Row (from_blanks rule))
    (tail_text es msg) [] vs → Ended rule es msg vs
end_read rule [] msg h k b vs d = elim (list_read rule _ msg vs (message_blanks msg b) d) [
  | inl (none, absent, same) ↦ inl (ap elements_or absent, same, λ e. none)
  | inr (began, short, dashed) ↦ inr (refl, began, short, dashed)
]
end_read rule (e ∷ es) msg h k b vs d =
    let some : e ∷ es ≡ [] → BeginsNoList rule msg = λ z. absurd (cc) in
    let means = (front_same (Row (from_blanks rule)) (row_det (from_blanks rule) (body_det rule).1.1.1.1) d
    (body_back rule (e ∷ es) msg h k b some)).1 in
    inl (
      ap (λ (u : Values (from_blanks rule)). elements_or u.1.0) means,
      ap (λ (u : Values (from_blanks rule)). u.1.1.1.0) means,
      some,
    )

-- ---- what is after the timestamp

abbrev pub after_space : MessageValue → Text
after_space m =
    name_text m.hostname ++ (32 ∷ (program_text m.appname m.procid ++ (58 ∷ tail_text m.structured_data m.msg)))

-- ---- the timestamp

-- after a dash that begins a printed timestamp
after_dash : (s : OffsetTimestamp) (q r : Text) → timestamp_text (Some s) ++ q ≡ 45 ∷ r → Begins IsDigit r
after_dash s q r e =
    let (c, more, digit, first) = printed_stamp-begins s in
    elim first [
      | inl f ↦ absurd (let u = heads c 45 (more ++ q) r (rw f at e) in
          let d = digit_range c digit in omega arith)
      | inr f ↦ begins_with IsDigit c r (more ++ q) (let u = rw f at e in cc) digit
    ]

-- What is read where a timestamp was printed: a canonical one or none, and what follows is what was printed after it,
-- or begins with a digit.
pub stamp_step : (dating : Dating) (s : OffsetTimestamp) (q p r : Text) (v : Option OffsetTimestamp)
    → timestamp_text (Some s) ++ (32 ∷ q) ≡ p ++ r → (rfc3164_stamp dating).Is p r v
    → IfSome v IsCanonicalStamp × ((r ≡ 32 ∷ q) ⊎ Begins IsDigit r)
stamp_step dating s q p r None e (inl h) = (tt, inr (after_dash s (32 ∷ q) r (e ∙ ap (λ (x : Text). x ++ r) h)))
stamp_step dating s q p r (Some z) e (inl (h, (more, f))) =
    let same = run_same is_not_whitespace (timestamp_text (Some s)) (32 ∷ q) p r e (printed_stamp-visible s) refl
    (stamp_each p z h) (space_ends r more f) in
    (stamp_text_canonical p z h, inl (sym (rest_same (timestamp_text (Some s)) (32 ∷ q) p r e same)))
stamp_step dating s q p r v e (inr h) = search (rules, begins_apart, begins_more, stamp_low, stamped_date_begins)

-- ---- the message
pub priority_again : (p : ℕ) → p < 192
    → option_map_or facility_number (facility_of p) 5 * 8 + option_map_or severity_number (severity_of p) 7 ≡ p
priority_again p l =
    let (f, s, e, g, h) = priority_composed p l in rw (e, g) h

pub printed_same : (m n : MessageValue) → priority_of n ≡ priority_of m → n.timestamp ≡ m.timestamp
    → name_text n.hostname ≡ name_text m.hostname → tag_text n.appname n.procid ≡ tag_text m.appname m.procid
    → n.structured_data ≡ m.structured_data → n.msg ≡ m.msg → printed_3164 n ≡ printed_3164 m
unfolding printed_3164
printed_same m n a b c d e f = rw (a, b, c, d, e, f) refl

-- after a dash that was taken there is nothing, or a text after blanks
end_or_dashed : (t rest left : Text) → t ≡ 45 ∷ rest → IsDashBefore BeforeBlank rest → Front (run is_blank) rest left tt
    → (left ≡ []) ⊎ IsDashed t left
end_or_dashed t [] left e before f =
    inl (nil_from_length left (omega (arith, ap length f.whole, length-append f.piece left)))
end_or_dashed t (c ∷ cs) left e before f = by f.piece f.whole f.is
  where
    by : (p : Text) → c ∷ cs ≡ p ++ left → (run is_blank).Is p left tt → (left ≡ []) ⊎ IsDashed t left
    by [] whole is = absurd (let odd = subst (Ends is_blank) (sym whole) is.1 in
        let z : true ≡ false = sym before ∙ odd in cc)
    by (d ∷ ds) whole is = inr (record {
      blanks = d ∷ ds;
      whole = e ∙ ap (λ (x : Text). 45 ∷ x) whole;
      some = omega arith;
      each = is.0;
      no_more = is.1;
    })

host_is : (o : Option Text) (x : Text) → IfSome o (λ y. y ≡ x) → (EndsInColon x → ⊥) → IfSome o (λ y. EndsInColon y → ⊥)
host_is None x e n = tt
host_is (Some y) x e n = λ ends. n (subst EndsInColon e ends)

no_end : (t : Text) → t ≡ [] → BeginsNoList dash_rule t
no_end t e = ((λ q f before. let z : [] ≡ 45 ∷ q = sym e ∙ f in cc), λ p q v f h. no_full_nil p q v (sym e ∙ f) h)

module _ (rule : DashRule) (first second : Dating) (text : Text) (m n : MessageValue) (r : IsRead3164 rule first text m)
    (s : IsRead3164 rule second (printed m) n) where
  near : HasQuirksAlone m
  near = read_near rule first text m r

  abbrev Tail : Text → Type 0
  Tail t = Front (Row (body_row rule)) t [] s.values.1.1.1

  abbrev Stamped : Option OffsetTimestamp → Type 0
  Stamped v = Front (Row (from_stamp rule second)) (timestamp_text v ++ (32 ∷ after_space m)) [] s.values.1.1

  stamped : (firsts to_stamp (from_stamp rule second) s.values ≡ (Some (priority_of m), (tt, tt))) × Stamped m.timestamp
  stamped = rows_step to_stamp (from_stamp rule second) to_stamp_det {vs = s.values} (to_stamp_back m (after_space m))
      (rw (printed_3164_is m near.protocol, trimmed_whole m near.msg_end) at
      (division_front (rfc3164_row rule second) s.division))

  -- a canonical timestamp is read as it was printed
  kept : (v : Option OffsetTimestamp) → IfSome v IsCanonicalStamp → Stamped v
      → (s.values.1.1.0 ≡ v) × Tail (32 ∷ after_space m)
  kept v k d = let front = stamp_back second v (after_space m) k in (
    step_value (rfc3164_stamp second) (body_row rule) (rfc3164_stamp_det second) front d,
    step (rfc3164_stamp second) (body_row rule) (rfc3164_stamp_det second) front d,
  )

  -- any is read as a canonical one or none, and what follows is what was printed after it, or begins with a digit
  other : (v : Option OffsetTimestamp) → Stamped v → IfSome s.values.1.1.0 IsCanonicalStamp
      × (t : Text) × Tail t × ((t ≡ 32 ∷ after_space m) ⊎ Begins IsDigit t)
  other None d = let (e, tail) = kept None tt d in (rw e tt, 32 ∷ after_space m, tail, inl refl)
  other (Some z) d =
      let (u, stamp, more) = row_head (rfc3164_stamp second) (body_row rule) d in
      let (canonical, next) = stamp_step second z (after_space m) stamp.piece u _ stamp.whole stamp.is in
      (canonical, u, more, next)

  abbrev Named : Type 0
  Named = Step rule (tail_text m.structured_data m.msg) s.means.0 s.values.1.1.1 s.means.1 m.hostname m.appname m.procid

  named_as : Tail (32 ∷ after_space m) → Named
  named_as = names_step rule (tail_text m.structured_data m.msg) s.means.0 s.values.1.1.1 s.means.1 m.hostname m.appname
      m.procid near.hostname near.odd_host near.names near.colon_process
      (rfc3164_bounded rule first text m r).procid

  named : IfSome m.timestamp IsCanonicalStamp → Named
  named k = named_as (kept m.timestamp k stamped.1).1

  ended : Stays rule (tail_text m.structured_data m.msg) s.means.0 s.values.1.1.1 s.means.1 m.hostname m.appname
      m.procid
      → Ended rule m.structured_data m.msg s.values.1.1.1.1.1.1.1
  ended k = end_read rule m.structured_data m.msg near.elements near.parameters near.msg_front _ k.after

  -- ---- weights
  module _ (dashes : (rule ≡ BeforeBlank) ⊎ IfSome m.procid HasNoColon) (w v : ℕ) (x : Weighs rule m w)
      (y : Weighs rule n v) where
    z : Weighs rule (told rule second s.values s.means.0) v
    z = subst (λ (u : MessageValue). Weighs rule u v) s.means.2 y

    -- the weight without the timestamp's
    abbrev old : ℕ
    old = names_weight m.hostname m.procid + x.taken

    abbrev new : ℕ
    new = names_weight s.means.0.hostname s.means.0.procid + z.taken

    tail_falls : Tail (32 ∷ after_space m)
        → (new < old) ⊎ ((new ≤ old) × (s.values.1.1.0 ≡ m.timestamp → printed n ≡ printed m))
    tail_falls d = elim (named_as d) [
      | inr (lighter, none, _) ↦ inl (omega (arith, lighter, free z.taken_is (none dashes)))
      | inl k ↦ elim (ended k) [
        | inl (es, msg, none) ↦ inr (
          omega (arith, k.light, free z.taken_is (λ e. rw msg (none (sym es ∙ e)))),
          λ e. ap printed s.means.2 ∙ printed_same m (told rule second s.values s.means.0)
              (rw (ap (λ (u : Values to_stamp). u.0) stamped.0) (priority_again (priority_of m) (priority_small m))) e
              k.host_is k.tag_is es msg ∙ sym (printed_3164_is m near.protocol),
        )
        | inr (es, began, short, _) ↦
            inl (omega (arith, k.light, paid x.taken_is (λ f. began (f es)), at_most z.taken_is, short))
      ]
    ]

    -- where it begins with a digit, all of it is the message, without names
    digit_falls : (t : Text) → Begins IsDigit t → Tail t → new ≡ 0
    digit_falls [] b d = absurd b
    digit_falls (c ∷ t) b d =
        let u = digit_range c b in
        let no_space = no_char 32 c t (λ e. omega arith) in
        let gap = no_blanks (c ∷ t) (grind (arith, nat_tests)) in
        let (means, after) = known rule t s.means.0 s.values.1.1.1 s.means.1
        (row_of to_colon (optional_none (spaced host) (no_spaced_space host no_space)
        then optional_none (spaced tag_word) (no_spaced_space tag_word no_space) then gap
        then optional_none (exactly colon) (no_char 58 c t (λ e. omega arith)) then refl)) d in
        let none = left_none rule (c ∷ t) (c ∷ t) s.values.1.1.1.1.1.1.1 gap after
        (no_list_by rule c t (λ e. omega arith) (λ e. omega arith)) in
        omega (arith, fields_light None None s.means.0 means, free z.taken_is none)

    -- The printed text of a message that was read is read as one that prints the same, or as a lighter one.
    pub falls : (v < w) ⊎ (printed n ≡ printed m)
    falls = elim x.stamp_is [
      | inl (k, o) ↦
          let (e, d) = kept m.timestamp k stamped.1 in
          let nothing = free z.stamp_is (rw e k) in
          elim (tail_falls d) [ inl l ↦ inl (omega (arith, x.total, z.total)) | inr (_, same) ↦ inr (same e) ]
      | inr (k, o) ↦
          let (canonical, t, d, next) = other m.timestamp stamped.1 in
          let nothing = free z.stamp_is canonical in
          let less : new ≤ old = elim next [
            | inl e ↦ elim (tail_falls (subst Tail e d)) [ inl l ↦ omega arith | inr (l, _) ↦ l ]
            | inr b ↦ omega (arith, digit_falls t b d)
          ] in
          inl (omega (arith, x.total, z.total))
    ]

  -- ---- ranks

  canonical : IfSome n.timestamp IsCanonicalStamp
  canonical = rw s.means.2 (other m.timestamp stamped.1).0

  quiet_so : HasQuietNames s.means.0.hostname s.means.0.procid → HasNoNameQuirk n
  quiet_so q = rw s.means.2 (record { timestamp = (other m.timestamp stamped.1).0; names = q })

  host_falls : IfSome m.timestamp IsCanonicalStamp → IfSome m.hostname EndsOnce
      → IfSome n.hostname (λ h. EndsInColon h → ⊥)
  host_falls k once = search (rules, named)

  quiet_falls : IfSome m.timestamp IsCanonicalStamp → IfSome m.hostname (λ h. EndsInColon h → ⊥) → HasNoNameQuirk n
  quiet_falls k none = search (rules, named, quiet_so)

  quiet_ended : HasNoNameQuirk m → Ended rule m.structured_data m.msg s.values.1.1.1.1.1.1.1
  quiet_ended q = search (rules, named, ended)

-- ---- read back from the printed text exactly where it is canonical

-- a message that is read as itself has not moved, so it has none of the quirks
read_is_canonical : (rule : DashRule) (dating : Dating) (m : MessageValue) → IsRead3164 rule dating (printed m) m
    → IsCanonical rule m
read_is_canonical rule dating m s =
    let same = s.means.2 in
    let first = stamped rule dating dating (printed m) m m s s in
    let (_, _, there, _, _) = priority_composed (priority_of m) (priority_small m) in
    let facility : IsSome m.facility = rw (
      ap (λ (x : MessageValue). x.facility) same,
      ap (λ (x : Values to_stamp). x.0) first.0,
      there,
    ) refl in
    let stamp = canonical rule dating dating (printed m) m m s s in
    elim (named rule dating dating (printed m) m m s s stamp) [
      | inr moved ↦
          absurd (omega (arith, moved.0, ap (λ (x : MessageValue). names_weight x.hostname x.procid) same))
      | inl stays ↦ elim (ended rule dating dating (printed m) m m s s stays) [
        | inr other ↦ absurd (omega (arith, other.2, ap (λ (x : MessageValue). length x.msg) same))
        | inl kept ↦ near_canonical rule m (
          read_nearly rule dating (printed m) m s facility,
          record { timestamp = stamp; names = rw same stays.quiet; no_list = kept.2 },
        )
      ]
    ]

pub rfc3164_exact : (rule : DashRule) (dating : Dating) (m : MessageValue) → m.protocol ≡ RFC3164 → IsBounded m
    → IsRead3164 rule dating (printed m) m ↔ IsCanonical rule m
rfc3164_exact rule dating m e b =
    (read_is_canonical rule dating m, λ c. rw (printed_3164_is m e) (canonical_back rule dating m e b c))

module _ (first second : Dating) (text : Text) (m n : MessageValue) (r : IsRead3164 BeforeBlank first text m)
    (s : IsRead3164 BeforeBlank second (printed m) n) where
  abbrev EndedSo : Type 0
  EndedSo = Ended BeforeBlank m.structured_data m.msg s.values.1.1.1.1.1.1.1

  -- without elements, what is left of the message part begins with no list, or follows a dash
  left : EndedSo → n.structured_data ≡ []
      → BeginsNoList dash_rule n.msg ⊎ ((m.structured_data ≡ []) × IsDashed m.msg n.msg)
  left end = rw s.means.2 (λ e. elim end [
    | inl (es, msg, none) ↦ inl (rw msg (none (sym es ∙ e)))
    | inr (es, _, _, dashed) ↦
        let (rest, is, before, gap) = dashed e in
        elim (end_or_dashed m.msg rest _ is before gap) [ inl z ↦ inl (no_end _ z) | inr d ↦ inr (es, d) ]
  ])

  no_list : EndedSo → BeginsNoDashes m → n.structured_data ≡ [] → BeginsNoList dash_rule n.msg
  no_list end bare e = elim (left end e) [ inl none ↦ none | inr (es, d) ↦ absurd (bare es _ d) ]

  no_dashes : EndedSo → (m.structured_data ≡ [] → (p q : Text) → IsDashed m.msg p → IsDashed p q → ⊥)
      → BeginsNoDashes n
  no_dashes end last e next d = elim (left end e) [
    | inl none ↦ none.0 (d.blanks ++ next) d.whole (dash_before d.blanks next d.some d.each)
    | inr (es, f) ↦ last es _ next f d
  ]

  abbrev quiet : IfSome m.timestamp IsCanonicalStamp → IfSome m.hostname (λ h. EndsInColon h → ⊥) → HasNoNameQuirk n
  quiet = quiet_falls BeforeBlank first second text m n r s

  abbrev end : HasNoNameQuirk m → EndedSo
  end = quiet_ended BeforeBlank first second text m n r s

  -- the rank of what a pass prints of a message falls
  pub rank_falls : (x : MessageValue) (k : ℕ) → Prints x m → HasRank (suc k) x → HasRank k n
  rank_falls x zero p (still, bare) =
      let q = p.quiet still in
      let z = quiet q.timestamp q.names.no_last_colon in
      record { timestamp = z.timestamp; names = z.names; no_list = no_list (end q) (p.no_dashes still bare) }
  rank_falls x (suc zero) p still =
      let q = p.quiet still in (quiet q.timestamp q.names.no_last_colon, no_dashes (end q) (p.last_dash still))
  rank_falls x (suc (suc zero)) p (stamp, host) = quiet (rw p.timestamp stamp) (rw (p.host host) host)
  rank_falls x (suc (suc (suc zero))) p stamp = (
    canonical BeforeBlank first second text m n r s,
    host_falls BeforeBlank first second text m n r s (rw p.timestamp stamp) (p.one_colon stamp),
  )
  rank_falls x (suc (suc (suc (suc zero)))) p h = canonical BeforeBlank first second text m n r s
  rank_falls x (suc (suc (suc (suc (suc k))))) p h = tt
