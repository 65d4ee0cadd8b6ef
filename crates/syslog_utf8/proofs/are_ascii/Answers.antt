use Rattle.std.proofs.Common.{◌≡◌, ◌<◌, ◌+◌, ◌-◌, ℕ, ap, arith, get_or, subst, ◌∙◌}
use Rattle.std.proofs.lemmas.Simd.{get_or-chunk, length-chunk}
use Rattle.simdutf8.proofs.Lanes.{ascii_of_mask}
use lib.Lanes.{chunk}
use Rattle.syslog_utf8.proofs.are_ascii.Goals as goal

pub returns : goal.returns
returns c = λ none k low high.
    let at = c.args.at in
    let bytes = c.args.bytes.now in
    let back : at + (k - at) ≡ k = omega arith in
    let place = get_or-chunk at 64 bytes (k - at) 0 (omega arith) ∙ ap (λ j. get_or bytes j 0) back in
    subst (λ (byte : ℕ). byte < 128) place
    (ascii_of_mask (chunk at 64 bytes) (length-chunk at 64 bytes c.requires) none (k - at))
