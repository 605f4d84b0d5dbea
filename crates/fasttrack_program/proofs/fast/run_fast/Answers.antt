use Rattle.std.proofs.Common.{arith}
use Rattle.std.proofs.lemmas.Result.{err_from_is_err_and}
use Rattle.guest_model.specs.ByteMap.{bytes_from}
use Rattle.guest_model.specs.Flat.{flat_bytes}
use Rattle.guest_model.specs.MachineState.{flat}
use Rattle.fasttrack_program.specs.FastProgram.{fast_rv32, outside}
use Rattle.guest_streams.proofs.OnStreams.{SoFar-first, SoFar-quiet, SoFar-wrote, SoFar-ends, SoFar-spent, SoFar-refuses}
use Rattle.fasttrack_program.proofs.OnFast.{fast-by, place_at}
use Rattle.fasttrack_program.proofs.fast.run_fast.Goals as goal
use Rattle.fasttrack_program.proofs.fast.run_fast.Goals.{in-Next, in-Wrote+in_ok-pass_on-in-Wrote}

pub loop-done-init : goal.loop-done-init
loop-done-init g c = record {
  so_far = SoFar-first (fast_rv32 c.args.input.now) (outside (flat flat_bytes c.args.state.now)) _;
  place = c.requires;
}

pub returns-in_err-pass_on-in-Wrote : goal.returns-in_err-pass_on-in-Wrote
returns-in_err-pass_on-in-Wrote g c =
    let p = err_from_is_err_and c.from_residual.result c.from_residual.ensures.1 in
    rw (p.1, p.2) (SoFar-refuses (fast_rv32 c.args.input.now) (Unit {0}) (outside (flat flat_bytes c.args.state.now)) c.loop-done._done c.args.budget (place_at c.loop-done.inside (flat flat_bytes c.loop-done.state)) (place_at c.is_inside_after-inside.result (flat flat_bytes c.step.new.state)) c.in-Wrote.stream
    (bytes_from (flat_bytes c.step.new.state.memory) c.in-Wrote.at c.in-Wrote.count) _ _ _ c.in_err-pass_on-in-Wrote.field-0.0
    c.loop-done.invariant.so_far (fast-by c.args.input.now c.loop-done.inside c.is_inside_after-inside.result (flat flat_bytes c.loop-done.state) _ c.is_inside_after-inside.ensures c.in-Wrote.ensures.means.3) c.loop-done-test.true c.in_err-pass_on-in-Wrote.ensures)

pub returns-in-Ends : goal.returns-in-Ends
returns-in-Ends g c = SoFar-ends (fast_rv32 c.args.input.now) (outside (flat flat_bytes c.args.state.now)) c.loop-done._done c.args.budget (place_at c.loop-done.inside (flat flat_bytes c.loop-done.state)) c.in-Ends.end _ _
    c.loop-done.invariant.so_far (fast-by c.args.input.now c.loop-done.inside c.is_inside_after-inside.result (flat flat_bytes c.loop-done.state) _ c.is_inside_after-inside.ensures c.in-Ends.ensures.means.1) c.loop-done-test.true

pub loop-done-preserved : goal.loop-done-preserved
loop-done-preserved g c = elim c.match-step.branch [
  | in-Next w ↦ rw (w.out-is, w.notes-is) (record {
    so_far = SoFar-quiet (fast_rv32 c.args.input.now) (outside (flat flat_bytes c.args.state.now)) c.loop-done._done (place_at c.loop-done.inside (flat flat_bytes c.loop-done.state)) (place_at c.is_inside_after-inside.result (flat flat_bytes c.step.new.state)) 1 _ _ c.loop-done.invariant.so_far (fast-by c.args.input.now c.loop-done.inside c.is_inside_after-inside.result (flat flat_bytes c.loop-done.state) _ c.is_inside_after-inside.ensures w.in-Next.ensures.means);
    place = c.step.ensures.place;
  })
  | in-Wrote+in_ok-pass_on-in-Wrote w ↦ rw (w.out-is, w.notes-is) (record {
    so_far = SoFar-wrote (fast_rv32 c.args.input.now) (outside (flat flat_bytes c.args.state.now)) c.loop-done._done (place_at c.loop-done.inside (flat flat_bytes c.loop-done.state)) (place_at c.is_inside_after-inside.result (flat flat_bytes c.step.new.state)) w.in-Wrote.stream
        (bytes_from (flat_bytes c.step.new.state.memory) w.in-Wrote.at w.in-Wrote.count) _ _ _ c.loop-done.invariant.so_far (fast-by c.args.input.now c.loop-done.inside c.is_inside_after-inside.result (flat flat_bytes c.loop-done.state) _ c.is_inside_after-inside.ensures w.in-Wrote.ensures.means.3) w.in_ok-pass_on-in-Wrote.ensures;
    place = c.step.ensures.place;
  })
]

pub returns : goal.returns
returns g c = SoFar-spent (fast_rv32 c.args.input.now) (outside (flat flat_bytes c.args.state.now)) c.loop-done._done c.args.budget (place_at c.loop-done.inside (flat flat_bytes c.loop-done.state)) _ _ c.loop-done.invariant.so_far (omega arith)
