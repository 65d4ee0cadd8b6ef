-- The header of RFC 3164 (section 4, read loosely), as eleven pieces of the trimmed text, and the message that they
-- mean. After the timestamp nothing can fail.
use Rattle.std.specs.Prelude.{◌≡◌, ◌⊎◌, ◌∷◌, unwrap_or}
use Rattle.syslog_loose.specs.Words.{List, [], Option, Some, None, Text, Class, Values, Division, run, rest, exactly}
use Rattle.syslog_loose.specs.Words.{optional, AreInPieces, priority, rfc3164_list, trimmed, is_blank, colon, host}
use Rattle.syslog_loose.specs.Words.{tag_word, rfc3164_stamp, Dating, ProcId, DashRule, after, NamesProcess}
use Rattle.syslog_loose.specs.declared.message.Protocol.TheVariants.{RFC3164}
use Rattle.syslog_loose.specs.Message.{MessageValue, message_of_parts, message_texts}
use Rattle.syslog_loose.specs.TagForm.{IsIdOf, IsNoForm, form_row}

-- ---- the names: host, app name, process id

pub record Names3164 : Type 0 where
  pub hostname : Option Text
  pub appname : Option Text
  pub procid : Option (ProcId Text)

abbrev pub names : Option Text → Option Text → Option (ProcId Text) → Names3164
names hostname appname procid = record { hostname = hostname; appname = appname; procid = procid }

-- a text of the form `tag[id]` gives app name and process id beside this host, any other text gives these names
abbrev pub NamesByForm : Option Text → Text → Names3164 → Names3164 → Type 0
NamesByForm host text otherwise n =
    ((tag : Text) × (id : Text) × (process : ProcId Text) × Division form_row text (tag, (tt, (id, (tt, tt))))
    × NamesProcess id process × (n ≡ names host (Some tag) (Some process)))
    ⊎ (IsNoForm text × (n ≡ otherwise))

-- what the host field and the tag field mean together: each is not there, or there and empty (`-`), or a text
abbrev pub Resolves : Option (Option Text) → Option (Option Text) → Names3164 → Type 0
Resolves None None n = n ≡ names None None None
Resolves (Some None) None n = n ≡ names None None None
Resolves (Some (Some lone)) None n = NamesByForm None lone (names (Some lone) None None) n
Resolves None (Some (Some program)) n = NamesByForm None program (names None (Some program) None) n
Resolves (Some origin) (Some (Some program)) n = NamesByForm origin program (names origin (Some program) None) n
Resolves field (Some None) n = n ≡ names None None None

-- the text that names the process: the id of the tag field's name, or of a lone name
abbrev pub HasProcess : Option (Option Text) → Option (Option Text) → Option Text → Type 0
HasProcess field (Some (Some program)) process = IsIdOf program process
HasProcess (Some (Some lone)) None process = IsIdOf lone process
HasProcess field tag process = process ≡ None

-- ---- the pieces

-- priority, timestamp, host, tag, colon, list, message, of which the timestamp alone must be there
abbrev pub rfc3164_row : DashRule → Dating → List Class
rfc3164_row rule dating =
    optional priority ∷ run is_blank ∷ rfc3164_stamp dating ∷ optional (after 32 host) ∷ optional (after 32 tag_word)
    ∷ run is_blank ∷ optional (exactly colon) ∷ run is_blank ∷ optional (rfc3164_list rule) ∷ run is_blank ∷ rest ∷ []

-- the pieces mean the message
abbrev pub Means3164 : (rule : DashRule) (dating : Dating) → Values (rfc3164_row rule dating) → MessageValue → Type 0
Means3164 rule dating (pri, (_, (stamp, (origin, (program, (_, (_, (_, (es, (_, (m, _))))))))))) message =
    (n : Names3164) × Resolves origin program n
    × (message ≡ message_of_parts RFC3164 pri stamp n.hostname n.appname n.procid None (unwrap_or es []) m)

-- the trimmed text has a division into these pieces, and they mean the message
pub record IsRead3164 (rule : DashRule) (dating : Dating) (text : Text) (m : MessageValue) : Type 0 where
  pub values : Values (rfc3164_row rule dating)
  pub division : Division (rfc3164_row rule dating) (trimmed text) values
  pub means : Means3164 rule dating values m

-- the trimmed text has no such division
abbrev pub IsNot3164 : DashRule → Dating → Text → Type 0
IsNot3164 rule dating text = (vs : Values (rfc3164_row rule dating))
    → Division (rfc3164_row rule dating) (trimmed text) vs → ⊥

-- and each text of that message is one of the pieces, or a part of one
pub record Quotes3164 (rule : DashRule) (dating : Dating) (text : Text) (m : MessageValue) : Type 0 where
  pub read : IsRead3164 rule dating text m
  pub each : AreInPieces read.division.pieces (message_texts m)
