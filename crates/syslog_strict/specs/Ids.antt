-- Ids that came before.
use Rattle.std.specs.Prelude.{◌≡◌, ◌<◌, ◌||◌, ℕ, List, [], length, map}
use Rattle.std.specs.Borrow.{Bor}
use Rattle.std.specs.BTreeSet.{contains}
use Rattle.std.specs.Cmp.Lexicographic.{slice_cmp}
use Rattle.std.specs.Ordering.{nat_cmp}
use Rattle.std.specs.Str.{IsUtf8}
use Rattle.syslog_text.specs.Pieces.Class.{Text}
use Rattle.syslog_text.specs.Pieces.View.{shown}
use Rattle.syslog_strict.specs.Conversion.{is_among}
use Rattle.syslog_strict.specs.declared.ids.Ids.{Ids}

-- it has an id exactly where these texts have it, and the first eight are the few
pub record HasSeen (ids : Ids) (seen : List Text) : Type 0 where
  pub first : length ids.few.items < 8 → ids.many.keys ≡ []
  pub same : (id : Bor (List ℕ)) → IsUtf8 id.now → (is_among (shown id) (map (λ s. shown s) ids.few.items)
      || contains (λ x y. slice_cmp nat_cmp x.now y.now) ids.many id) ≡ is_among (shown id) seen
