use Rattle.syslog_named_forms.proofs.Names.{◌past◌, ◌then◌, heroku_last, inl, refl, rest_front, row_of, source_row}
use Rattle.syslog_sent.specs.declared.dialect.Dialect.TheVariants.{Heroku}
use Rattle.syslog_named_forms.specs.NearHeader.{heroku_says}
use Rattle.syslog_named_forms.proofs.NearHeaderLemmas.{heroku_last_det, named, source_det, unnamed}
use Rattle.syslog_named_forms.proofs.near_header.read_heroku.Goals as goal

pub returns-in_err-source : goal.returns-in_err-source
returns-in_err-source c text front = rw c.from_residual.ensures
    (unnamed source_row heroku_last source_det heroku_last_det front (inl c.in_err-source.ensures))

pub returns-in_err-after_id : goal.returns-in_err-after_id
returns-in_err-after_id c text front = rw c.from_residual-in_err-after_id.ensures
    (unnamed source_row heroku_last source_det heroku_last_det front
    (c.in_ok-source.ensures past inl c.in_err-after_id.ensures))

pub returns-in_err-msg : goal.returns-in_err-msg
returns-in_err-msg c text front = rw c.from_residual-in_err-msg.ensures
    (unnamed source_row heroku_last source_det heroku_last_det front
    (c.in_ok-source.ensures past c.in_ok-after_id.ensures past inl c.in_err-msg.ensures))

pub returns : goal.returns
returns c text front = named source_row heroku_last source_det heroku_last_det front Heroku heroku_says
    c.in_ok-source.ensures
    (row_of heroku_last (c.in_ok-after_id.ensures then c.in_ok-msg.ensures then rest_front _ then refl)) c.sent.ensures
