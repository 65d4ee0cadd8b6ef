use Rattle.syslog_pieces.proofs.Names.{inl, inr, ◌+◌, [], ◌∷◌, refl, rules}
use Rattle.syslog_pieces.proofs.TimestampLemmas.Digits.{first_rest}
use Rattle.syslog_pieces.proofs.timestamp.digits.after_letter.Goals as goal

pub returns-in-len1-up : goal.returns-in-len1-up
returns-in-len1-up c = record {
  piece = c.args.upper ∷ [];
  whole = first_rest _ _ c.in-len1-up.len_at_least (search rules);
  is = inl refl;
}

pub returns-in-len1-up-2 : goal.returns-in-len1-up-2
returns-in-len1-up-2 c = record {
  piece = (c.args.upper + 32) ∷ [];
  whole = first_rest _ _ c.in-len1-up.len_at_least (search rules);
  is = inr refl;
}
