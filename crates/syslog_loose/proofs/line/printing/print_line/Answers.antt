use Rattle.syslog_loose.proofs.Names.{rules, ◌≡◌, ◌++◌, ◌∙◌, [], ℕ, List, Result, Ok, Err, string_bytes, sym, ap}
use Rattle.syslog_loose.proofs.Names.{encodes-chars, encode_utf8_all, line_value, printed, OnOk, ap₂}
use Rattle.std.specs.{Bool.if◌then◌else◌, Result.is_ok}
use Rattle.syslog_loose.proofs.PrintedLemmas.{printed_line}
use Rattle.syslog_loose.proofs.line.printing.print_line.Goals as goal

-- a text that was empty
started : (text before piece front : List ℕ) → before ≡ [] → piece ≡ front → text ≡ before ++ piece → text ≡ front
started text before piece front h k e = e ∙ ap (λ (x : List ℕ). x ++ piece) h ∙ k

-- what was appended, where there was memory
pushed : {T E : Type 0} (r : Result T E) (new old piece all : List ℕ)
    → new ≡ if is_ok r then old ++ piece else old → old ++ piece ≡ all → OnOk r (new ≡ all)
pushed (Ok x) new old piece all e h = e ∙ h
pushed (Err x) new old piece all e h = tt

pub returns-then-not-line : goal.returns-then-not-line
returns-then-not-line c = search rules

pub returns : goal.returns
returns c =
    let line = c.args.line.now in
    let front = started _ _ _ _ (c.in_ok-reserve.ensures.bytes ∙ c.clear.ensures.bytes)
    (c.as_str.ensures ∙ c.front_of-front.ensures) c.in_ok-push_str.ensures.bytes in
    let rest = sym (encodes-chars line.rest.now c.requires.utf8)
    ∙ ap encode_utf8_all (c.requires.prints c.if-not-line.false) in
    pushed c.push_str-2.result (string_bytes c.push_str-2.new.self) (string_bytes c.push_str.new.self)
    line.rest.now (encode_utf8_all (printed (line_value line))) c.push_str-2.ensures.bytes
    (ap₂ (λ (a b : List ℕ). a ++ b) front rest ∙ printed_line line)
