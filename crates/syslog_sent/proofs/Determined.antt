-- That one text has one front of a class, or of each class of a row, as `search determined depth 60` finds it.
use Rattle.std.proofs.Common.{◌≡◌, inl, inr, [], ◌∷◌, sym, ap, arith}
use Rattle.syslog_text.specs.Pieces.Class.{Class, IsDeterministic, exactly}
use Rattle.syslog_text.specs.Pieces.Rules.{◌or◌}
use Rattle.syslog_text.proofs.Determined.{of_text, of_others}
use Rattle.syslog_text.proofs.PieceLemmas.Class.{exactly_det, rest_det}
use Rattle.syslog_text.proofs.PieceLemmas.Rules.{exactly_apart, or_det}
use Rattle.syslog_pieces.proofs.TimestampLemmas.MonthDate.{month_date_det}
use Rattle.syslog_pieces.proofs.TimestampLemmas.Rfc3339.{decimals_det, sign_det, small_pair_det, year_det}
use Rattle.syslog_sent.specs.Date.{point, unless, whole_year}
use Rattle.syslog_sent.specs.Named.{◌otherwise◌, beginning}
use Rattle.syslog_sent.specs.Zone.{ended}

pub otherwise_det : {C D : Class} → IsDeterministic C → IsDeterministic D → IsDeterministic (C otherwise D)
otherwise_det c d p q p' q' (inl v) (inl w) e h h' = let r = c p q p' q' v w e h h' in (r.0, ap inl r.1)
otherwise_det c d p q p' q' (inl v) (inr w) e h (n, h') = absurd (n p q v (sym e) h)
otherwise_det c d p q p' q' (inr v) (inl w) e (n, h) h' = absurd (n p' q' w e h')
otherwise_det c d p q p' q' (inr v) (inr w) e (n, h) (m, h') = let r = d p q p' q' v w e h h' in (r.0, ap inr r.1)

pub beginning_det : (C : Class) → IsDeterministic (beginning C)
beginning_det C p q p' q' t t' e h h' = rest_det p q p' q' t t' e (h.0, h.1) (h'.0, h'.1)

pub ended_det : (C : Class) → IsDeterministic C → IsDeterministic (ended C)
ended_det C d p q p' q' v v' e h h' = d p q p' q' v v' e h.0 h'.0

pub unless_det : (C D : Class) → IsDeterministic D → IsDeterministic (unless C D)
unless_det C D d p q p' q' v v' e h h' = d p q p' q' v v' e h.1 h'.1

pub point_det : IsDeterministic point
point_det = or_det (exactly_det _) (exactly_det _)
    (exactly_apart 46 (exactly (44 ∷ [])) (λ p q v h. (44, [], h, omega arith)))

pub middle_sign_det : IsDeterministic (exactly (84 ∷ []) or exactly (32 ∷ []))
middle_sign_det = or_det (exactly_det _) (exactly_det _)
    (exactly_apart 84 (exactly (32 ∷ [])) (λ p q v h. (32, [], h, omega arith)))

pub whole_year_det : IsDeterministic whole_year
whole_year_det p q p' q' v v' e h h' = year_det p q p' q' v v' e h.0 h'.0

pub ruleset of_numbers = (small_pair_det, year_det, whole_year_det, decimals_det)

pub ruleset of_dates = (of_numbers, sign_det, point_det, middle_sign_det, month_date_det)

pub ruleset determined = (of_text, otherwise_det, beginning_det, ended_det, unless_det, of_dates, of_others)
