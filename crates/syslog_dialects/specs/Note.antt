-- The lines that journalctl writes between messages, as `-- Reboot --`. They are no messages.
use Rattle.std.specs.Prelude.{◌≡◌, ◌++◌, ◌⊎◌, codes}
use Rattle.syslog_text.specs.Pieces.Class.{Text}
use Rattle.syslog_text.specs.Text.{trimmed}

-- these words begin the text
abbrev pub BeginsWith : Text → Text → Type 0
BeginsWith words text = (more : Text) × (text ≡ words ++ more)

-- it begins as what is between the dashes of such a line
abbrev pub BeginsNote : Text → Type 0
BeginsNote inner = BeginsWith (codes "Boot ") inner
    ⊎ (BeginsWith (codes "Reboot") inner
    ⊎ (BeginsWith (codes "No entries") inner
    ⊎ (BeginsWith (codes "Logs begin at ") inner ⊎ BeginsWith (codes "Journal begins at ") inner)))

-- the text, without the white space at its ends, is such a line: two dashes, a space, what is between, a space and two
-- dashes
abbrev pub IsNote : Text → Type 0
IsNote text = (inner : Text) × (trimmed text ≡ codes "-- " ++ (inner ++ codes " --")) × BeginsNote inner
