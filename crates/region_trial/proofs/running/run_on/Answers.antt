use Rattle.std.proofs.Common.{◌≡◌, ◌-◌, ◌<◌, ap, ◌∙◌, sym, subst}
use Rattle.speculation.specs.Events.{left_over}
use Rattle.track_state.specs.Views.{view_of}
use Rattle.track_state.specs.Runs.{run_length}
use Rattle.region_trial.specs.Reached.{RunsOn}
use Rattle.region_trial.proofs.OnReach.{IsFurther, further, taken-some}
use Rattle.region_trial.proofs.running.run_on.Goals as goal

is_further : (c : goal.After-discard) → IsFurther c.args.input.now (view_of c.args.track.now) (view_of c.run.new.self) c.args.limit c.in_ok-run.field-0
is_further c = record {
  ran = c.in_ok-run.ensures.1;
  count = c.in_ok-run.ensures.0 ∙ ap (λ k. run_length c.args.input.now (view_of c.args.track.now) (c.args.limit - k)) c.own.ensures.own;
}

dropped : (c : goal.After-discard) → view_of c.discard.new.self ≡ record (view_of c.run.new.self) { held = left_over (view_of c.run.new.self).own (view_of c.run.new.self).held }
dropped c = c.discard.ensures.left ∙ ap (λ k. record (view_of c.run.new.self) { held = left_over k (view_of c.run.new.self).held }) c.own-own.ensures.own

pub returns-clause-on : goal.returns-clause-on
returns-clause-on c =
    subst (λ v. RunsOn c.args.input.now (view_of c.args.track.now) v c.args.limit) (sym (dropped c))
    (further c.args.input.now _ _ _ _ c.requires.way c.requires.going c.requires.more (is_further c))

pub returns-clause-more : goal.returns-clause-more
returns-clause-more c =
    subst (λ v. (view_of c.args.track.now).own < v.own) (sym (dropped c))
    (taken-some c.args.input.now _ _ _ _ c.requires.way c.requires.going c.requires.more (is_further c))
