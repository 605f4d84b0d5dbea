use Rattle.std.proofs.Common.{ap, ◌∙◌, subst}
use Rattle.track_state.specs.Views.{view_of}
use Rattle.region_trial.specs.Reached.{StandsAt}
use Rattle.region_trial.proofs.OnRegions.{fast-running}
use Rattle.region_trial.proofs.region.try_fast.Goals as goal

pub returns-in-Limit-clause-sees : goal.returns-in-Limit-clause-sees
returns-in-Limit-clause-sees c =
    let ran = c.in_ok-reach.ensures.track in
    let stands = subst (λ r. StandsAt c.args.input.now (view_of c.reach.new.track) c.own.result r) c.in-Limit.is c.in_ok-reach.ensures.stands in
    fast-running c.args.input.now _ _ _ _ (ran.kind ∙ ap (λ v. v.kind) c.requires.fast) (ran.start ∙ ap (λ v. v.start) c.requires.fast) c.own-in-Limit.ensures.own ran.way stands.1
