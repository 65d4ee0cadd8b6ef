use Rattle.syslog_dialects.proofs.Names.{◌past◌, ◌then◌, chars, inl, match_map, no_row, refl, row_of, tag_row}
use Rattle.syslog_dialects.proofs.OrdinaryLemmas.{tag_det}
use Rattle.syslog_dialects.proofs.ordinary.past_tag.Goals as goal

pub returns-in_err-rest : goal.returns-in_err-rest
returns-in_err-rest c =
    rw c.from_residual.ensures (no_row (tag_row (chars c.args.host.now) (chars c.args.app.now)) (tag_det _ _)
    (inl c.in_err-rest.ensures))

pub returns-in_err-rest-2 : goal.returns-in_err-rest-2
returns-in_err-rest-2 c =
    rw c.from_residual-in_err-rest-2.ensures (no_row (tag_row (chars c.args.host.now) (chars c.args.app.now))
    (tag_det _ _) (c.in_ok-rest.ensures past inl c.in_err-rest-2.ensures))

pub returns-in_err-rest-3 : goal.returns-in_err-rest-3
returns-in_err-rest-3 c =
    rw c.from_residual-in_err-rest-3.ensures (no_row (tag_row (chars c.args.host.now) (chars c.args.app.now))
    (tag_det _ _) (c.in_ok-rest.ensures past c.in_ok-rest-2.ensures past inl c.in_err-rest-3.ensures))

pub returns-in_err-rest-4 : goal.returns-in_err-rest-4
returns-in_err-rest-4 c =
    rw c.from_residual-in_err-rest-4.ensures (no_row (tag_row (chars c.args.host.now) (chars c.args.app.now))
    (tag_det _ _) (c.in_ok-rest.ensures past c.in_ok-rest-2.ensures past c.in_ok-rest-3.ensures
    past inl c.in_err-rest-4.ensures))

pub returns : goal.returns
returns c =
    match_map c.past_mark.result
    (λ none. no_row (tag_row (chars c.args.host.now) (chars c.args.app.now)) (tag_det _ _)
    (c.in_ok-rest.ensures past c.in_ok-rest-2.ensures past c.in_ok-rest-3.ensures past c.in_ok-rest-4.ensures
    past inl none))
    (λ q f. row_of (tag_row (chars c.args.host.now) (chars c.args.app.now))
    (c.in_ok-rest.ensures then c.in_ok-rest-2.ensures then c.in_ok-rest-3.ensures then c.in_ok-rest-4.ensures
    then f then refl)) c.past_mark.ensures
