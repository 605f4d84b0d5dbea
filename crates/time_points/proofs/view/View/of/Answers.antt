use Rattle.std.proofs.Common.{arith}
use Rattle.guest_model.specs.ByteMap.{bytes_from}
use Rattle.paged_image.specs.Image.{content}
use Rattle.track_state.specs.Kept.{flat_state}
use Rattle.track_state.proofs.OnPlain.{go-none, go-more}
use Rattle.time_points.proofs.OnViews.{count-more, count-spent, view-ended, view-spent}
use Rattle.time_points.proofs.view.View.of.Goals as goal
use Rattle.time_points.proofs.view.View.of.Goals.{in-Next, in-Wrote}

pub loop-taken-init : goal.loop-taken-init
loop-taken-init g c = record { at = go-none c.args.input.now (flat_state c.args.start); place = c.requires.place; steps = omega arith }

pub counted_step-requires-clause-room : goal.counted_step-requires-clause-room
counted_step-requires-clause-room g c =
    omega (arith, count-more c.args.input.now (flat_state c.args.start) c.loop-taken.taken c.args.count (flat_state c.loop-taken.state) c.loop-taken.invariant.at c.loop-taken-test.true, c.loop-taken.invariant.steps, c.requires.room)

pub returns-in-Ends-clause-view : goal.returns-in-Ends-clause-view
returns-in-Ends-clause-view g c =
    view-ended c.args.input.now (flat_state c.args.start) c.loop-taken.taken c.args.count (flat_state c.loop-taken.state) c.counted_step.new.state c.in-Ends.end c.loop-taken.invariant.at c.in-Ends.ensures.means.1 c.in-Ends.ensures.means.2 c.loop-taken-test.true

pub returns-in-Ends-clause-steps : goal.returns-in-Ends-clause-steps
returns-in-Ends-clause-steps g c =
    omega (arith, count-more c.args.input.now (flat_state c.args.start) c.loop-taken.taken c.args.count (flat_state c.loop-taken.state) c.loop-taken.invariant.at c.loop-taken-test.true, c.loop-taken.invariant.steps, c.counted_step.ensures.step)

pub returns-in-NoMemory-clause-steps : goal.returns-in-NoMemory-clause-steps
returns-in-NoMemory-clause-steps g c =
    omega (arith, count-more c.args.input.now (flat_state c.args.start) c.loop-taken.taken c.args.count (flat_state c.loop-taken.state) c.loop-taken.invariant.at c.loop-taken-test.true, c.loop-taken.invariant.steps, c.counted_step.ensures.step)

pub loop-taken-preserved : goal.loop-taken-preserved
loop-taken-preserved g c = elim c.match-counted_step.branch [
  | in-Next w ↦ record {
    at = go-more c.args.input.now (flat_state c.args.start) c.loop-taken.taken (flat_state c.loop-taken.state) (flat_state c.counted_step.new.state) 1 _ c.loop-taken.invariant.at w.in-Next.ensures.means;
    place = c.counted_step.ensures.place;
    steps = omega (arith, c.loop-taken.invariant.steps, c.counted_step.ensures.step);
  }
  | in-Wrote w ↦ record {
    at = go-more c.args.input.now (flat_state c.args.start) c.loop-taken.taken (flat_state c.loop-taken.state) (flat_state c.counted_step.new.state) w.in-Wrote.stream
        (bytes_from (content c.counted_step.new.state.memory) w.in-Wrote.at w.in-Wrote.count) c.loop-taken.invariant.at w.in-Wrote.ensures.means.3;
    place = c.counted_step.ensures.place;
    steps = omega (arith, c.loop-taken.invariant.steps, c.counted_step.ensures.step);
  }
]

pub returns-clause-view : goal.returns-clause-view
returns-clause-view g c = view-spent c.args.input.now (flat_state c.args.start) c.loop-taken.taken c.args.count c.loop-taken.state c.loop-taken.invariant.at (omega arith)

pub returns-clause-steps : goal.returns-clause-steps
returns-clause-steps g c =
    omega (arith, count-spent c.args.input.now (flat_state c.args.start) c.loop-taken.taken c.args.count (flat_state c.loop-taken.state) c.loop-taken.invariant.at (omega arith), c.loop-taken.invariant.steps)
