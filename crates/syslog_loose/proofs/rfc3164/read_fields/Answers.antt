use Rattle.syslog_loose.proofs.Names.{◌≡◌, ◌↔◌, ◌∷◌, ◌∙◌, ◌then◌, [], List, ℕ, refl, sym, ap, arith, true, row_of}
use Rattle.syslog_loose.proofs.Names.{chars, run, optional, exactly, seen, shown, is_blank, colon, one_ascii, text_is}
use Rattle.syslog_loose.proofs.Names.{HasQuietNames, fields_row, fields_before, names_value, Option, Some, None, Text}
use Rattle.syslog_loose.proofs.Names.{IfSome, IsBareWord, field_seen, rules}
use Rattle.std.{proofs.lemmas.Str.Ascii.IsAscii-cons, specs.Borrow.Bor}
use Rattle.std.specs.Option.{is_some, option_flatten}
use Rattle.syslog_text.proofs.TextLemmas.Runs.{text_same}
use Rattle.syslog_loose.proofs.Rfc3164Lemmas.Near.{fields_told}
use Rattle.syslog_loose.proofs.rfc3164.read_fields.Goals as goal

pub before-requires : goal.before-requires
before-requires g c =
    let k = row_of (run is_blank ∷ optional (exactly colon) ∷ run is_blank ∷ [])
    (c.blanks.ensures then c.past_colon.ensures.1 then c.blanks-rest.ensures then refl) in (k.piece, k.whole)

-- a field that is there
there : (field : Option (Option Text)) → is_some field ≡ true → (origin : Option Text) × (field ≡ Some origin)
there (Some origin) e = (origin, refl)
there None e = cc

-- a field whose name is there
flat : (field : Option (Option Text)) → is_some (option_flatten field) ≡ true
    → (text : Text) × (field ≡ Some (Some text))
flat (Some (Some text)) e = (text, refl)
flat field e = cc

seen_some : (name : Option (Bor (List ℕ))) → is_some (seen name) ≡ is_some name
seen_some None = refl
seen_some (Some s) = refl

-- the fields, and whether they are in printed form
pub returns : goal.returns
returns g c =
    let front = row_of fields_row (c.host_field.ensures then c.tag_field.ensures then c.blanks.ensures
    then c.past_colon.ensures.1 then c.blanks-rest.ensures then refl) in
    let names = c.resolve-names.result in
    let rest = shown c.blanks-rest.result in
    let between = chars c.before-2.result.now in
    let host = field_seen c.host_field.result.0 in
    let tag = field_seen c.tag_field.result.0 in
    let all = c.are_all-are_printed.ensures in
    let ascii = IsAscii-cons 58 (32 ∷ []) (omega arith) (one_ascii 32 (omega arith)) in
    let tagged = c.is_some.ensures ∙ sym (seen_some c.name.result)
    ∙ ap (λ (x : Option Text). is_some x) c.name.ensures in
    let told : is_some host ≡ true → is_some (option_flatten tag) ≡ true
    → ((IfSome (seen names.process) IsBareWord × (between ≡ 58 ∷ 32 ∷ []))
    ↔ (chars c.args.text.now ≡ fields_before (names_value names) rest))
    × HasQuietNames (names_value names).hostname (names_value names).procid = λ is_host is_tag.
    (let (origin, is_origin) = there host is_host in
    let (name, is_name) = flat tag is_tag in
    fields_told (rw is_origin at c.host_field.ensures) (rw is_name at c.tag_field.ensures) between rest
    c.before-2.ensures (seen names.hostname) (seen names.appname) (seen names.process)
    (rw (is_origin, is_name) at c.resolve-names.ensures.names)
    (rw (is_origin, is_name) at c.resolve-names.ensures.process)) in
    record {
      read = record { values = _; front = front; means = c.resolve-names.ensures.names };
      process = c.resolve-names.ensures.process;
      ends = c.blanks-rest.ensures.is.1;
      prints = (
        λ e. let (is_host, (is_tag, (bare, (gap, _)))) = all.0 e in
            let host_there = sym c.is_there.ensures ∙ is_host in
            let tag_there = sym tagged ∙ is_tag in
            let end = text_is _ (58 ∷ 32 ∷ []) ascii (sym gap ∙ c.eq.ensures) in
            (host_there, tag_there, (told host_there tag_there).0.0 (c.is_bare.ensures.0 bare, end)),
        λ k. let (bare, end) = (told k.0 k.1).0.1 k.2 in
            let gap = c.eq.ensures ∙ text_same _ (58 ∷ 32 ∷ []) (search rules) ascii end in
            all.1 (c.is_there.ensures ∙ k.0, (tagged ∙ k.1, (c.is_bare.ensures.1 bare, (gap, (refl, tt))))),
      );
      quiet = λ e. let (is_host, (is_tag, _)) = all.0 e in
          (told (sym c.is_there.ensures ∙ is_host) (sym tagged ∙ is_tag)).1;
    }
