use Rattle.std.proofs.Common.{map, arith}
use Rattle.track_state.specs.Kept.{flat_state}
use Rattle.time_points.proofs.OnSaved.{saved-first, saved-next, saved-all, saved-ended}
use Rattle.time_points.proofs.save.save_states.Goals as goal

pub loop-point-init : goal.loop-point-init
loop-point-init c =
    saved-first c.args.input.now (flat_state c.args.start) c.args.every c.args.greatest (flat_state c.snapshot_of.new.state) c.in_ok-first.first c.new-saved.result.items _ c.requires.place
    c.snapshot_of.ensures.same c.in_ok-first.ensures.snapshot c.new-saved.ensures.items c.in_ok-push.ensures.items

pub returns-then-is_some : goal.returns-then-is_some
returns-then-is_some c =
    saved-ended c.args.input.now (flat_state c.args.start) c.args.every c.args.greatest c.loop-point._point (flat_state c.loop-point.state) (flat_state c.run_plain.new.state) c.in_ok-end.end (map flat_state c.loop-point.saved.items)
    c.loop-point.invariant c.in_ok-end.ensures.ran (cc)

pub loop-point-preserved : goal.loop-point-preserved
loop-point-preserved c =
    saved-next c.args.input.now (flat_state c.args.start) c.args.every c.args.greatest c.loop-point._point (flat_state c.loop-point.state) (flat_state c.run_plain.new.state) (flat_state c.snapshot_of-in-loop-point.new.state) c.in_ok-end.end c.in_ok-next.next c.loop-point.saved.items _
    c.loop-point.invariant c.in_ok-end.ensures.ran (cc) c.run_plain.ensures.place c.requires.spacing c.loop-point-test.true c.snapshot_of-in-loop-point.ensures.same c.in_ok-next.ensures.snapshot c.in_ok-push-2.ensures.items

pub returns : goal.returns
returns c = saved-all c.args.input.now (flat_state c.args.start) c.args.every c.args.greatest c.loop-point._point (flat_state c.loop-point.state) (map flat_state c.loop-point.saved.items) c.loop-point.invariant c.requires.spacing (omega arith)
