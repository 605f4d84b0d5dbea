use Rattle.std.proofs.Common.{◌*◌, ap, ◌∙◌, sym, subst}
use Rattle.std.proofs.lemmas.Result.{IfOk-weaker}
use Rattle.track_state.specs.Views.{view_of}
use Rattle.region_trial.specs.Reached.{StandsAt}
use Rattle.region_account.specs.Accounts.{patience, fast_lines, ended_line, running_line}
use Rattle.region_account.proofs.OnFast.{lines-closed, lines-ended, lines-running}
use Rattle.region_account.proofs.account.fast_text.Goals as goal

pub returns-in-Boundary : goal.returns-in-Boundary
returns-in-Boundary c =
    let o = view_of c.args.original.now in
    let f = view_of c.reach.new.track in
    let ran = c.in_ok-reach.ensures.track in
    let count = c.own-count.result in
    let here = subst (λ r. StandsAt c.args.input.now f (patience * count) r) c.in-Boundary.is c.in_ok-reach.ensures.stands in
    IfOk-weaker c.closed_text.result _ _
    (λ text is.
    is ∙ sym (lines-closed c.args.input.now o f (patience * count) c.requires.original (ran.kind ∙ c.requires.fast.kind) (ran.start ∙ c.requires.fast.start) ran.way here)
    ∙ ap (λ n. fast_lines c.args.input.now o.start o.own (patience * n)) c.own-count.ensures.own)
    c.closed_text.ensures

pub returns-in-Ended : goal.returns-in-Ended
returns-in-Ended c =
    let o = view_of c.args.original.now in
    let f = view_of c.reach.new.track in
    let ran = c.in_ok-reach.ensures.track in
    let count = c.own-count.result in
    let ended = subst (λ r. StandsAt c.args.input.now f (patience * count) r) c.in-Ended.is c.in_ok-reach.ensures.stands in
    IfOk-weaker c.ended_text.result _ _
    (λ text is.
    is ∙ ap (λ s. ended_line s c.in-Ended.end c.own.result) c.now.ensures.flat ∙ ap (λ n. ended_line f.state c.in-Ended.end n) c.own.ensures.own
    ∙ sym (lines-ended c.args.input.now o f (patience * count) c.requires.original (ran.kind ∙ c.requires.fast.kind) (ran.start ∙ c.requires.fast.start) ran.way c.in-Ended.end ended)
    ∙ ap (λ n. fast_lines c.args.input.now o.start o.own (patience * n)) c.own-count.ensures.own)
    c.ended_text.ensures

pub returns-in-Limit : goal.returns-in-Limit
returns-in-Limit c =
    let o = view_of c.args.original.now in
    let f = view_of c.reach.new.track in
    let ran = c.in_ok-reach.ensures.track in
    let count = c.own-count.result in
    let stands = subst (λ r. StandsAt c.args.input.now f (patience * count) r) c.in-Limit.is c.in_ok-reach.ensures.stands in
    IfOk-weaker c.running_text.result _ _
    (λ text is.
    is ∙ ap running_line c.own-in-Limit.ensures.own
    ∙ sym (lines-running c.args.input.now o f (patience * count) c.requires.original (ran.kind ∙ c.requires.fast.kind) (ran.start ∙ c.requires.fast.start) ran.way stands.0 stands.1)
    ∙ ap (λ n. fast_lines c.args.input.now o.start o.own (patience * n)) c.own-count.ensures.own)
    c.running_text.ensures
