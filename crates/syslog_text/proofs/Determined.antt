-- That one text has one front of a class, or of each class of a row: `search determined depth 60` finds it, from what
-- the class is made of.
use Rattle.syslog_text.proofs.PieceLemmas.Class.{run_det, some_run_det, exactly_det, rest_det, optional_det, mapped_det}
use Rattle.std.proofs.Common.{List, [], ◌∷◌}
use Rattle.syslog_text.specs.Pieces.Class.{Class, IsDeterministic}
use Rattle.syslog_text.proofs.PieceLemmas.Class.{texted_det, row_det, after_det, AllDeterministic}
use Rattle.syslog_text.proofs.PieceLemmas.Lists.{many_det}
use Rattle.syslog_text.proofs.PieceLemmas.Rules.{short_run_det, such_det}
use Rattle.syslog_text.proofs.TextLemmas.Bounded.{numeral_det}
use Rattle.syslog_text.proofs.TextLemmas.Words.{number_det, word_det, tag_word_det, host_det}

pub none_det : AllDeterministic []
none_det = tt

pub more_det : (C : Class) (Cs : List Class) → IsDeterministic C → AllDeterministic Cs → AllDeterministic (C ∷ Cs)
more_det C Cs d ds = (d, ds)

pub ruleset of_words = (number_det, numeral_det, word_det, tag_word_det, host_det)

pub ruleset of_text = (run_det, some_run_det, short_run_det, exactly_det, rest_det, of_words)

pub ruleset of_rows = (none_det, more_det, row_det, many_det)

pub ruleset of_others = (of_rows, optional_det, mapped_det, texted_det, after_det, such_det)

pub ruleset determined = (of_text, of_others)
