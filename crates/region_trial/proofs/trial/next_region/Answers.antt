use Rattle.std.proofs.Common.{◌≡◌, ◌+◌, ◌-◌, Some, ap, ◌∙◌, sym, subst}
use Rattle.std.proofs.lemmas.Result.{IfOk-weaker}
use Rattle.speculation.specs.declared.tracks.Kind.TheVariants.{Segment}
use Rattle.track_state.specs.Views.{view_of}
use Rattle.region_trial.specs.Reached.{IsUnderWay}
use Rattle.region_trial.specs.Finished.{finished_at}
use Rattle.region_trial.specs.Regions.{Finishes, Steps}
use Rattle.region_trial.proofs.OnReach.{way-begun}
use Rattle.region_trial.proofs.OnRegions.{way-guest, stands-boundary, segment-finishes, segment-steps}
use Rattle.region_trial.proofs.trial.next_region.Goals as goal

pub reach-requires : goal.reach-requires
reach-requires c = subst (λ v. IsUnderWay c.args.input.now v c.args.left) (sym c.requires.track) (way-begun c.args.input.now Segment _ _ _ c.requires.guest c.requires.budget)

pub pass_region-requires-clause-guest : goal.pass_region-requires-clause-guest
pass_region-requires-clause-guest c = way-guest c.args.input.now _ _ c.in_ok-reached.ensures.track.way

pub returns-in-Some : goal.returns-in-Some
returns-in-Some c =
    let t = view_of c.reach.new.track in
    let ran = c.in_ok-reached.ensures.track in
    let kind : t.kind ≡ Segment = ran.kind ∙ ap (λ v. v.kind) c.requires.track in
    let is : finished_at c.in_ok-reached.reached (c.args.at + t.own) ≡ Some c.in-Some.finished = ap (λ n. finished_at c.in_ok-reached.reached (c.args.at + n)) (sym c.own-own.ensures.own) ∙ sym c.in-Some.ensures in
    subst (λ s. Finishes c.args.input.now s c.args.at c.args.left c.args.number c.in-Some.finished) ran.start
    (segment-finishes c.args.input.now t c.in_ok-reached.reached _ _ _ _ kind ran.way c.in_ok-reached.ensures.stands is)

pub returns-in-None : goal.returns-in-None
returns-in-None c =
    let t = view_of c.reach.new.track in
    let ran = c.in_ok-reached.ensures.track in
    let kind : t.kind ≡ Segment = ran.kind ∙ ap (λ v. v.kind) c.requires.track in
    let here = stands-boundary c.args.input.now t c.args.left (c.args.at + c.own-own.result) c.in_ok-reached.reached c.in_ok-reached.ensures.stands (sym c.in-None.ensures) in
    IfOk-weaker c.pass_region.result
    (λ step. Steps c.args.input.now t.state (c.args.at + c.own-own.result) (c.args.left - c.own-own.result) c.args.number step t.budget)
    (λ step. Steps c.args.input.now (view_of c.args.track).start c.args.at c.args.left c.args.number step (view_of c.args.track).budget)
    (λ step h.
    subst (λ s. Steps c.args.input.now s c.args.at c.args.left c.args.number step (view_of c.args.track).budget) ran.start
    (segment-steps c.args.input.now t c.args.at c.args.left c.args.number step (view_of c.args.track).budget kind ran.way here
    (subst (λ b. Steps c.args.input.now t.state (c.args.at + t.own) (c.args.left - t.own) c.args.number step b) ran.budget
    (subst (λ n. Steps c.args.input.now t.state (c.args.at + n) (c.args.left - n) c.args.number step t.budget) c.own-own.ensures.own h))))
    c.pass_region.ensures
