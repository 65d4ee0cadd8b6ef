-- The severity as a word before a program, and the facility before it: `daemon.info`. 46 is `.`.
use Rattle.std.specs.Prelude.{Bool, IsTrue, ◌||◌, List, [], ◌∷◌, codes}
use Rattle.std.specs.Char.{is_not_whitespace}
use Rattle.syslog_text.specs.Pieces.Class.{Text, Class, some_run, exactly, texted}
use Rattle.syslog_text.specs.Pieces.Rules.{such_that}
use Rattle.syslog_text.specs.Pieces.View.{text_eq}
use Rattle.syslog_sent.specs.Runs.{is_plain_char}

abbrev pub is_grave : Text → Bool
is_grave t = text_eq t (codes "emerg") || (text_eq t (codes "alert") || (text_eq t (codes "crit")
    || (text_eq t (codes "err") || text_eq t (codes "error"))))

abbrev pub is_mild : Text → Bool
is_mild t = text_eq t (codes "warning") || (text_eq t (codes "warn") || (text_eq t (codes "notice")
    || (text_eq t (codes "info") || text_eq t (codes "debug"))))

abbrev pub is_severity : Text → Bool
is_severity t = is_grave t || is_mild t

-- a severity, as a word of its own
abbrev pub severity : Class
severity = such_that (texted (some_run is_not_whitespace)) (λ t. IsTrue (is_severity t))

-- the names of facilities (`syslog.h` of the C library; busybox and FreeBSD write the same)
abbrev pub is_system_facility : Text → Bool
is_system_facility t = text_eq t (codes "kern") || (text_eq t (codes "user") || (text_eq t (codes "mail")
    || (text_eq t (codes "daemon") || (text_eq t (codes "auth") || (text_eq t (codes "syslog")
    || (text_eq t (codes "lpr") || (text_eq t (codes "news") || (text_eq t (codes "uucp") || (text_eq t (codes "cron")
    || (text_eq t (codes "authpriv") || text_eq t (codes "ftp")))))))))))

abbrev pub is_local_facility : Text → Bool
is_local_facility t = text_eq t (codes "local0") || (text_eq t (codes "local1") || (text_eq t (codes "local2")
    || (text_eq t (codes "local3") || (text_eq t (codes "local4") || (text_eq t (codes "local5")
    || (text_eq t (codes "local6") || text_eq t (codes "local7")))))))

abbrev pub is_facility : Text → Bool
is_facility t = is_system_facility t || is_local_facility t

abbrev pub facility : Class
facility = such_that (texted (some_run is_plain_char)) (λ t. IsTrue (is_facility t))

-- `daemon.info`
abbrev pub selector_row : List Class
selector_row = facility ∷ exactly (46 ∷ []) ∷ severity ∷ []
