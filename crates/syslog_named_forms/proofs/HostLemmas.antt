-- Lines of which the host is read before anything else: what is said after it, the line says with it.
use Rattle.syslog_named_forms.proofs.Names.{◌++◌, AfterHost, Class, Front, host_row, List, mapped, Named, named_value}
use Rattle.syslog_named_forms.proofs.Names.{NamedTexts, Names, no_mapped, NoFront, Option, refl, Row, rows_none_here}
use Rattle.syslog_named_forms.proofs.Names.{seen, shown, Text, Values}
use Rattle.syslog_named_forms.proofs.ReaderLemmas.{goes_on}
use Rattle.syslog_named_forms.proofs.RowLemmas.{host_row_det}

module _ (more : List Class) (of : Values (host_row ++ more) → NamedTexts) {text : Text} where
  pub no_host : NoFront (Row host_row) text → NoFront (mapped (Row (host_row ++ more)) NamedTexts of) text
  no_host n = no_mapped (Row (host_row ++ more)) NamedTexts of (rows_none_here host_row more n)

  pub past_host : (h : AfterHost) → Front (Row host_row) text (shown h.text) (seen h.hostname, (tt, tt))
      → (r : Option Named) → Names (mapped (Row more) NamedTexts (λ vs. of (seen h.hostname, (tt, vs)))) named_value
      (shown h.text) r → Names (mapped (Row (host_row ++ more)) NamedTexts of) named_value text r
  past_host h f r g =
      goes_on host_row more host_row_det of (λ vs. of (seen h.hostname, (tt, vs))) f (λ ws. refl) r g
