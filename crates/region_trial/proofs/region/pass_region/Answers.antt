use Rattle.std.proofs.Common.{◌≡◌, ℕ, ◌+◌, Some, ap, ap₂, ◌∙◌, sym, subst}
use Rattle.speculation.specs.declared.tracks.Kind.TheVariants.{Normal, Fast}
use Rattle.guest_model.specs.MachineState.{MachineState}
use Rattle.track_state.specs.Views.{view_of, begun}
use Rattle.track_state.proofs.OnTracks.{is_track}
use Rattle.region_trial.specs.Reached.{IsUnderWay}
use Rattle.region_trial.specs.Finished.{finished_at}
use Rattle.region_trial.specs.Regions.{Finishes, Passes}
use Rattle.region_trial.proofs.OnReach.{way-begun}
use Rattle.region_trial.proofs.OnRegions.{call-at, stands-boundary, original-finishes, way-closed, tried-is, original-passes}
use Rattle.region_trial.proofs.region.pass_region.Goals as goal

pub reach-requires : goal.reach-requires
reach-requires c = subst (λ v. IsUnderWay c.args.input.now v c.args.left) (sym c.in_ok-original.ensures.normal) (way-begun c.args.input.now Normal _ _ _ c.requires.guest c.requires.budget)

pub returns-in-Some : goal.returns-in-Some
returns-in-Some c =
    let t = view_of c.reach.new.track in
    let ran = c.in_ok-reached.ensures.track in
    let kind : t.kind ≡ Normal = ran.kind ∙ ap (λ v. v.kind) c.in_ok-original.ensures.normal in
    let start : t.start ≡ (view_of c.args.track).state = ran.start ∙ ap (λ v. v.start) c.in_ok-original.ensures.normal in
    let is : finished_at c.in_ok-reached.reached (c.args.at + t.own) ≡ Some c.in-Some.finished = ap (λ n. finished_at c.in_ok-reached.reached (c.args.at + n)) (sym c.own.ensures.own) ∙ sym c.in-Some.ensures in
    subst (λ s. Finishes c.args.input.now s c.args.at c.args.left c.args.number c.in-Some.finished) start
    (original-finishes c.args.input.now t c.in_ok-reached.reached _ _ _ _ kind (call-at t.kind t.start kind (is_track c.reach.new.track).call) ran.way c.in_ok-reached.ensures.stands is)

pub returns : goal.returns
returns c =
    let o = view_of c.reach.new.track in
    let f = view_of c.judge_fast.new.fast in
    let ran = c.in_ok-reached.ensures.track in
    let kind : o.kind ≡ Normal = ran.kind ∙ ap (λ v. v.kind) c.in_ok-original.ensures.normal in
    let start : o.start ≡ (view_of c.args.track).state = ran.start ∙ ap (λ v. v.start) c.in_ok-original.ensures.normal in
    let budget : o.budget ≡ (view_of c.args.track).budget = ran.budget ∙ ap (λ v. v.budget) c.in_ok-original.ensures.normal in
    let here = stands-boundary c.args.input.now o c.args.left (c.args.at + c.own.result) c.in_ok-reached.reached c.in_ok-reached.ensures.stands (sym c.in_default.ensures) in
    let began : view_of c.fork.new.self ≡ begun Fast o.start o.budget = c.in_ok-original.ensures.fast ∙ ap₂ (λ (s : MachineState) (b : ℕ). begun Fast s b) (sym start) (sym budget) in
    subst (λ b. Passes c.args.input.now (view_of c.args.track).state c.args.at c.args.left c.args.number c.in_ok-row.row o f b) budget
    (subst (λ s. Passes c.args.input.now s c.args.at c.args.left c.args.number c.in_ok-row.row o f o.budget) start
    (original-passes c.args.input.now o f _ _ _ _ (call-at o.kind o.start kind (is_track c.reach.new.track).call) (way-closed c.args.input.now o c.args.left kind ran.way here) ran.way.within c.in_ok-row.ensures.row
    (tried-is c.args.input.now o _ f began c.in_ok-row.ensures.fast)))
