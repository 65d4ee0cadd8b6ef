use Rattle.syslog_command_line.proofs.Names.{◌≡◌, ◌∷◌, [], refl}
use Rattle.std.proofs.lemmas.Result.{err_from_is_err_and}
use Rattle.syslog_command_line.proofs.{OptionLemmas.none_valued, WordLemmas.among_later}
use Rattle.syslog_command_line.specs.{Flags.flag_word, Words.texts}
use Rattle.syslog_command_line.proofs.options.read_flag.Goals as goal

pub returns-in_err-value : goal.returns-in_err-value
returns-in_err-value c =
    let p = err_from_is_err_and c.from_residual.result c.from_residual.ensures.1 in
    let (among, none) = c.in_err-value.ensures in
    let (known, word) = c.in-Some-find_flag.ensures in
    let split = c.in-Some.ensures.cases.0 in
    let first : texts c.args.words.now ≡ flag_word c.in-Some-find_flag.flag ∷ texts c.in-Some.rest.now =
    rw (split, word, c.as_str.ensures.value) refl in
    rw (p.1, p.2) (
      among_later (flag_word c.in-Some-find_flag.flag ∷ []) _ _ _ first among,
      (c.in-Some-find_flag.flag, texts c.in-Some.rest.now, first),
      none_valued _ _ c.in-Some-find_flag.flag _ _ first none,
    )
