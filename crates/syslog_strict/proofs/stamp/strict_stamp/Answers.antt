use Rattle.syslog_strict.proofs.Words.{refl, ap, sym, ◌∙◌, timestamp_text, cut_stamp, in_utc}
use Rattle.syslog_strict.proofs.StampLemmas.{converted_own, utc_told}
use Rattle.syslog_strict.proofs.stamp.strict_stamp.Goals as goal

pub returns-in-Some : goal.returns-in-Some
returns-in-Some c =
    let s = c.args.stamp.now in
    let own = c.in-Some.ensures (cut_stamp s) (refl, refl) in
    own.1 ∙ ap timestamp_text (sym (converted_own s own.0))

pub returns-in-None : goal.returns-in-None
returns-in-None c =
    let s = c.args.stamp.now in
    utc_told s _ (c.in-None.ensures (cut_stamp s) (refl, refl))
    (c.cut_at-in-None.ensures (in_utc (cut_stamp s)) (refl, refl))
