-- Hosts, and how forms end.
use Rattle.std.specs.Prelude.{◌≡◌, ℕ, IsSomeAnd, List, [], ◌∷◌, Option, MatchOption, Some}
use Rattle.std.specs.Borrow.{Bor}
use Rattle.syslog_text.specs.Pieces.Class.{Class, Front, NoFront, Row, Text, Values, exactly, mapped, rest, run}
use Rattle.syslog_text.specs.Pieces.Class.{some_run}
use Rattle.syslog_text.specs.Pieces.View.{seen, shown}
use Rattle.syslog_text.specs.Text.{colon, host, is_blank}
use Rattle.syslog_sent.specs.Named.{NamedTexts, process_id, program, tagged, untagged}
use Rattle.syslog_sent.specs.Views.{Names, named_value}
use Rattle.syslog_sent.specs.declared.named.Named.{Named}
use Rattle.syslog_named_forms.specs.declared.hosts.AfterHost.{AfterHost}

-- a host, and the blanks after it
abbrev pub host_row : List Class
host_row = host ∷ some_run is_blank ∷ []

-- what the reader of a host returns
abbrev pub ReadsHost : Text → Option AfterHost → Type 0
ReadsHost text r = MatchOption r (NoFront (Row host_row) text)
    (λ h. Front (Row host_row) text (shown h.text) (seen h.hostname, (tt, tt)))

-- what the reader of a row returns that is all that is left
abbrev pub Tells : (row : List Class) → (Values row → NamedTexts) → Bor (List ℕ) → Option Named → Type 0
Tells row of t r = Names (mapped (Row row) NamedTexts of) named_value (shown t) r

-- what the reader of a row that begins with a host returns, from what the reader of the host returned
abbrev pub TellsBehind : (row : List Class) → (Values row → NamedTexts) → Option AfterHost → Option Named → Type 0
TellsBehind row of after_host r = (text : Text) → ReadsHost text after_host
    → Names (mapped (Row row) NamedTexts of) named_value text r

-- ---- how forms end

-- a program, and its message
abbrev pub program_tail : List Class
program_tail = program ∷ run is_blank ∷ rest ∷ []

abbrev pub program_said : Option Text → Values program_tail → NamedTexts
program_said h (p, (_, (m, _))) = tagged h p m

-- the id of a process, and the message of its program
abbrev pub process_tail : List Class
process_tail = process_id ∷ exactly colon ∷ run is_blank ∷ rest ∷ []

abbrev pub process_said : Option Text → Text → Values process_tail → NamedTexts
process_said h name (id, (_, (_, (m, _)))) = tagged h (record { name = name; process = Some id }) m

-- a message without a program
abbrev pub IsUntagged : Option Text → Text → Option Named → Type 0
IsUntagged h text r = IsSomeAnd r (λ n. named_value n ≡ untagged h text)
