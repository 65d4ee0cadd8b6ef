-- The texts that words, hosts and tags mean are parts of their pieces.
use Rattle.std.proofs.Common.{inl, inr, refl, Option, Some, None}
use Rattle.std.specs.List.{AllByRecursion}
use Rattle.syslog_text.specs.Pieces.Class.{Text}
use Rattle.syslog_text.specs.Pieces.Parts.{IsPart, text_list}
use Rattle.syslog_text.specs.Text.{Names, host, tag_word, word}
use Rattle.syslog_text.proofs.PieceLemmas.Lists.{Quotes, part_same}

names_quotes : (p : Text) (v : Option Text) → Names p v → AllByRecursion (λ t. IsPart p t) (text_list v)
names_quotes p None h = tt
names_quotes p (Some t) h = (part_same p t h.0, tt)

pub word_quotes : Quotes word text_list
word_quotes p q v h = names_quotes p v h.4

pub host_quotes : Quotes host text_list
host_quotes p q v (l, a, inl (n, b, m)) = names_quotes p v m
host_quotes p q v (l, a, inr (r, f, b, m)) = rw m (part_same p p refl, tt)

pub tag_word_quotes : Quotes tag_word text_list
tag_word_quotes p q v h = names_quotes p v h.3
