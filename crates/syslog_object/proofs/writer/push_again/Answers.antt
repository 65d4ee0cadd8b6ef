use Rattle.syslog_object.proofs.Names.{◌≡◌, ◌≤◌, ◌++◌, ℕ, List, append_assoc, length, on_ok_weaker, take}
use Rattle.std.proofs.lemmas.List.{take-append-le}
use Rattle.std.proofs.lemmas.Bool.{ne_eqb}
use Rattle.json.specs.Print.{escape_byte}
use Rattle.syslog_object.proofs.writer.push_again.Goals as goal

added : (old mid now key : List ℕ) (n : ℕ) → n ≤ length old → mid ≡ old ++ key → now ≡ mid ++ take n mid
    → now ≡ old ++ (key ++ take n old)
added old mid now key n within first second =
    rw (second, first, take-append-le n old key within) (append_assoc old key (take n old))

pub returns : goal.returns
unfolding escape_byte
returns c = rw (ne_eqb c.args.end 0 c.if-end-eq0.false)
    (on_ok_weaker c.push_again.result (λ e. added _ _ _ _ _ c.requires c.in_ok-push.ensures e) c.push_again.ensures)
