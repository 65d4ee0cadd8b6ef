use Rattle.std.proofs.Common.{◌∙◌, inl, inr, refl, w32}
use Rattle.std.proofs.lemmas.Int.{to_z-of_z}
use Rattle.syslog_loose.proofs.ReadingLemmas.{in_year_map, in_year_told}
use Rattle.syslog_tests.proofs.tests.callers.recent.instant_of.Goals as goal

pub returns-in-Ok : goal.returns-in-Ok
returns-in-Ok c =
    in_year_map (λ year r. inr (_, r, refl)) (in_year_told c.in-Ok.ensures.reads
    (λ date y is. (λ e. is.1.0 e ∙ to_z-of_z w32 _ c.ranges.last, λ o. is.1.1 o ∙ to_z-of_z w32 _ c.ranges.now)))

pub returns-in-Err-Invalid : goal.returns-in-Err-Invalid
returns-in-Err-Invalid c =
    in_year_map (λ year u. inl (u, refl))
    (in_year_told (rw c.in-Err-Invalid.field-0-is at c.in-Err-Invalid.ensures.reads)
    (λ date y is. (λ e. is.1.0 e ∙ to_z-of_z w32 _ c.ranges.last, λ o. is.1.1 o ∙ to_z-of_z w32 _ c.ranges.now)))

pub returns-in-Err-Memory : goal.returns-in-Err-Memory
returns-in-Err-Memory c =
    in_year_map (λ year u. tt) (in_year_told c.in-Err-Memory.ensures.reads
    (λ date y is. (λ e. is.1.0 e ∙ to_z-of_z w32 _ c.ranges.last, λ o. is.1.1 o ∙ to_z-of_z w32 _ c.ranges.now)))
