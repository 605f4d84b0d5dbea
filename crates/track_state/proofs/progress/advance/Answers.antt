use Rattle.std.proofs.Common.{◌≡◌, ◌+◌, ◌<◌, true, false, Some, None, sym, ap, ◌∙◌, subst, arith}
use Rattle.guest_model.specs.ByteMap.{bytes_from}
use Rattle.guest_model.specs.MachineState.{MachineState}
use Rattle.guest_model.proofs.OnByteMap.{length-bytes_from}
use Rattle.paged_image.specs.Image.{content}
use Rattle.track_state.specs.Kept.{flat_state}
use Rattle.track_state.specs.Progress.{halts, IsProgress, KeepsPages}
use Rattle.track_state.proofs.OnPages.{KeepsPages-refl, KeepsPages-trans}
use Rattle.track_state.proofs.OnProgress.{SoFar, SoFar-first, SoFar-quiet, SoFar-wrote, pauses-at_call, pauses-limit, pauses-full, pauses-refused, pauses-ended}
use Rattle.track_state.proofs.OnQuiet.{SoFar-quiets}
use Rattle.track_state.proofs.OnWrites.{is_write, taken_back}
use Rattle.track_state.proofs.progress.advance.Goals as goal
use Rattle.track_state.proofs.progress.advance.Goals.{in-Next, in-Wrote+in-Ok-false}

pub parts-init : goal.parts-init
parts-init c = record {
  so_far = SoFar-first c.args.input.now c.args.kind (flat_state c.args.state.now) c.args.own c.args.held.now c.requires.numbers c.requires.room;
  place = c.requires.place;
  kept = KeepsPages-refl c.args.state.now.memory;
  within = omega arith;
}

pub returns-then-taken-limit-clause-progress : goal.returns-then-taken-limit-clause-progress
returns-then-taken-limit-clause-progress c =
    let so_far : SoFar c.args.input.now c.args.kind (flat_state c.args.state.now) c.args.own c.args.held.now (c.parts.taken + c.run_quietly-taken.result) (flat_state c.run_quietly-taken.new.state) c.parts.held
    = SoFar-quiets c.args.input.now c.args.kind (flat_state c.args.state.now) c.args.own c.args.held.now c.parts.taken c.run_quietly-taken.result (flat_state c.parts.state) (flat_state c.run_quietly-taken.new.state) c.parts.held c.parts.invariant.so_far c.run_quietly-taken.ensures.ran in
    rw c.paused.ensures (pauses-limit c.args.input.now c.args.kind (flat_state c.args.state.now) c.args.own c.args.held.now (c.parts.taken + c.run_quietly-taken.result) c.args.limit (flat_state c.run_quietly-taken.new.state) c.parts.held so_far c.if-taken-limit.true)

pub returns-then-at_call-clause-progress : goal.returns-then-at_call-clause-progress
returns-then-at_call-clause-progress c =
    let so_far : SoFar c.args.input.now c.args.kind (flat_state c.args.state.now) c.args.own c.args.held.now (c.parts.taken + c.run_quietly-taken.result) (flat_state c.run_quietly-taken.new.state) c.parts.held
    = SoFar-quiets c.args.input.now c.args.kind (flat_state c.args.state.now) c.args.own c.args.held.now c.parts.taken c.run_quietly-taken.result (flat_state c.parts.state) (flat_state c.run_quietly-taken.new.state) c.parts.held c.parts.invariant.so_far c.run_quietly-taken.ensures.ran in
    let less : c.parts.taken + c.run_quietly-taken.result < c.args.limit = omega (arith, c.if-taken-limit.false, c.run_quietly-taken.ensures.within, c.parts.invariant.within) in
    rw c.paused-then-at_call.ensures (pauses-at_call c.args.input.now c.args.kind (flat_state c.args.state.now) c.args.own c.args.held.now (c.parts.taken + c.run_quietly-taken.result) c.args.limit (flat_state c.run_quietly-taken.new.state) c.parts.held so_far less
    (c.boundary_call-call.ensures (flat_state c.run_quietly-taken.new.state) ∙ sym c.at_call.ensures ∙ c.if-at_call.true))

pub returns-in-Ok-true-clause-progress : goal.returns-in-Ok-true-clause-progress
returns-in-Ok-true-clause-progress c =
    let bytes = bytes_from (content c.take.new.state.memory) c.in-Wrote.at c.in-Wrote.count in
    let so_far : SoFar c.args.input.now c.args.kind (flat_state c.args.state.now) c.args.own c.args.held.now (c.parts.taken + c.run_quietly-taken.result) (flat_state c.run_quietly-taken.new.state) c.parts.held
    = SoFar-quiets c.args.input.now c.args.kind (flat_state c.args.state.now) c.args.own c.args.held.now c.parts.taken c.run_quietly-taken.result (flat_state c.parts.state) (flat_state c.run_quietly-taken.new.state) c.parts.held c.parts.invariant.so_far c.run_quietly-taken.ensures.ran in
    let less : c.parts.taken + c.run_quietly-taken.result < c.args.limit = omega (arith, c.if-taken-limit.false, c.run_quietly-taken.ensures.within, c.parts.invariant.within) in
    let call : halts c.args.kind (flat_state c.run_quietly-taken.new.state) ≡ false = c.boundary_call-call.ensures (flat_state c.run_quietly-taken.new.state) ∙ sym c.at_call.ensures ∙ c.if-at_call.false in
    rw (c.paused-in-Ok-true.ensures, c.in-Ok-true.ensures.same) (pauses-full c.args.input.now c.args.kind (flat_state c.args.state.now) c.args.own c.args.held.now
    (c.parts.taken + c.run_quietly-taken.result) c.args.limit (flat_state c.run_quietly-taken.new.state) (flat_state c.take.new.state) c.in-Wrote.stream bytes c.parts.held c.hold.new.held
    so_far less call c.in-Wrote.ensures.means.3 (omega (arith, length-bytes_from (content c.take.new.state.memory) c.in-Wrote.at c.in-Wrote.count, c.in-Wrote.ensures.means.0))
    c.in-Ok-true.ensures.held (sym c.in-Ok-true.ensures.full ∙ c.in-Ok-true.field-0-test))

pub returns-in-Err-clause-progress : goal.returns-in-Err-clause-progress
returns-in-Err-clause-progress c =
    let bytes = bytes_from (content c.take.new.state.memory) c.in-Wrote.at c.in-Wrote.count in
    let so_far : SoFar c.args.input.now c.args.kind (flat_state c.args.state.now) c.args.own c.args.held.now (c.parts.taken + c.run_quietly-taken.result) (flat_state c.run_quietly-taken.new.state) c.parts.held
    = SoFar-quiets c.args.input.now c.args.kind (flat_state c.args.state.now) c.args.own c.args.held.now c.parts.taken c.run_quietly-taken.result (flat_state c.parts.state) (flat_state c.run_quietly-taken.new.state) c.parts.held c.parts.invariant.so_far c.run_quietly-taken.ensures.ran in
    let less : c.parts.taken + c.run_quietly-taken.result < c.args.limit = omega (arith, c.if-taken-limit.false, c.run_quietly-taken.ensures.within, c.parts.invariant.within) in
    let call : halts c.args.kind (flat_state c.run_quietly-taken.new.state) ≡ false = c.boundary_call-call.ensures (flat_state c.run_quietly-taken.new.state) ∙ sym c.at_call.ensures ∙ c.if-at_call.false in
    let back : flat_state c.hold.new.state ≡ flat_state c.run_quietly-taken.new.state
    = ap flat_state c.in-Err.ensures.undone ∙ taken_back (flat_state c.run_quietly-taken.new.state) (flat_state c.take.new.state) c.in-Wrote.stream c.pc-pc.ensures.zero (omega (arith, c.pc-pc.ensures.value))
    (is_write c.args.input.now (flat_state c.run_quietly-taken.new.state) (flat_state c.take.new.state) c.in-Wrote.stream bytes
    (omega (arith, length-bytes_from (content c.take.new.state.memory) c.in-Wrote.at c.in-Wrote.count, c.in-Wrote.ensures.means.0)) c.in-Wrote.ensures.means.3) in
    rw (c.paused-in-Err.ensures, c.in-Err.ensures.lost) (subst (λ (s : MachineState). IsProgress c.args.input.now c.args.kind (flat_state c.args.state.now) c.args.own c.args.held.now c.args.limit s c.parts.held (record { taken = c.parts.taken + c.run_quietly-taken.result; end = None; refused = true })) (sym back)
    (pauses-refused c.args.input.now c.args.kind (flat_state c.args.state.now) c.args.own c.args.held.now (c.parts.taken + c.run_quietly-taken.result) c.args.limit (flat_state c.run_quietly-taken.new.state) c.parts.held so_far less call))

pub returns-in-Ends-clause-progress : goal.returns-in-Ends-clause-progress
returns-in-Ends-clause-progress c =
    let so_far : SoFar c.args.input.now c.args.kind (flat_state c.args.state.now) c.args.own c.args.held.now (c.parts.taken + c.run_quietly-taken.result) (flat_state c.run_quietly-taken.new.state) c.parts.held
    = SoFar-quiets c.args.input.now c.args.kind (flat_state c.args.state.now) c.args.own c.args.held.now c.parts.taken c.run_quietly-taken.result (flat_state c.parts.state) (flat_state c.run_quietly-taken.new.state) c.parts.held c.parts.invariant.so_far c.run_quietly-taken.ensures.ran in
    let less : c.parts.taken + c.run_quietly-taken.result < c.args.limit = omega (arith, c.if-taken-limit.false, c.run_quietly-taken.ensures.within, c.parts.invariant.within) in
    let call : halts c.args.kind (flat_state c.run_quietly-taken.new.state) ≡ false = c.boundary_call-call.ensures (flat_state c.run_quietly-taken.new.state) ∙ sym c.at_call.ensures ∙ c.if-at_call.false in
    rw c.paused-in-Ends.ensures (subst (λ (s : MachineState). IsProgress c.args.input.now c.args.kind (flat_state c.args.state.now) c.args.own c.args.held.now c.args.limit s c.parts.held (record { taken = c.parts.taken + c.run_quietly-taken.result + 1; end = Some c.in-Ends.end; refused = false })) (sym c.in-Ends.ensures.means.2)
    (pauses-ended c.args.input.now c.args.kind (flat_state c.args.state.now) c.args.own c.args.held.now (c.parts.taken + c.run_quietly-taken.result) c.args.limit (flat_state c.run_quietly-taken.new.state) c.in-Ends.end c.parts.held so_far less call c.in-Ends.ensures.means.1))

pub returns-in-NoMemory-clause-progress : goal.returns-in-NoMemory-clause-progress
returns-in-NoMemory-clause-progress c =
    let so_far : SoFar c.args.input.now c.args.kind (flat_state c.args.state.now) c.args.own c.args.held.now (c.parts.taken + c.run_quietly-taken.result) (flat_state c.run_quietly-taken.new.state) c.parts.held
    = SoFar-quiets c.args.input.now c.args.kind (flat_state c.args.state.now) c.args.own c.args.held.now c.parts.taken c.run_quietly-taken.result (flat_state c.parts.state) (flat_state c.run_quietly-taken.new.state) c.parts.held c.parts.invariant.so_far c.run_quietly-taken.ensures.ran in
    let less : c.parts.taken + c.run_quietly-taken.result < c.args.limit = omega (arith, c.if-taken-limit.false, c.run_quietly-taken.ensures.within, c.parts.invariant.within) in
    let call : halts c.args.kind (flat_state c.run_quietly-taken.new.state) ≡ false = c.boundary_call-call.ensures (flat_state c.run_quietly-taken.new.state) ∙ sym c.at_call.ensures ∙ c.if-at_call.false in
    rw c.paused-in-NoMemory.ensures (subst (λ (s : MachineState). IsProgress c.args.input.now c.args.kind (flat_state c.args.state.now) c.args.own c.args.held.now c.args.limit s c.parts.held (record { taken = c.parts.taken + c.run_quietly-taken.result; end = None; refused = true })) (sym c.in-NoMemory.ensures.means.1)
    (pauses-refused c.args.input.now c.args.kind (flat_state c.args.state.now) c.args.own c.args.held.now (c.parts.taken + c.run_quietly-taken.result) c.args.limit (flat_state c.run_quietly-taken.new.state) c.parts.held so_far less call))

pub parts-preserved : goal.parts-preserved
parts-preserved c =
    let so_far : SoFar c.args.input.now c.args.kind (flat_state c.args.state.now) c.args.own c.args.held.now (c.parts.taken + c.run_quietly-taken.result) (flat_state c.run_quietly-taken.new.state) c.parts.held
    = SoFar-quiets c.args.input.now c.args.kind (flat_state c.args.state.now) c.args.own c.args.held.now c.parts.taken c.run_quietly-taken.result (flat_state c.parts.state) (flat_state c.run_quietly-taken.new.state) c.parts.held c.parts.invariant.so_far c.run_quietly-taken.ensures.ran in
    let less : c.parts.taken + c.run_quietly-taken.result < c.args.limit = omega (arith, c.if-taken-limit.false, c.run_quietly-taken.ensures.within, c.parts.invariant.within) in
    let call : halts c.args.kind (flat_state c.run_quietly-taken.new.state) ≡ false = c.boundary_call-call.ensures (flat_state c.run_quietly-taken.new.state) ∙ sym c.at_call.ensures ∙ c.if-at_call.false in
    let kept : KeepsPages c.args.state.now.memory c.take.new.state.memory
    = KeepsPages-trans c.args.state.now.memory c.run_quietly-taken.new.state.memory c.take.new.state.memory
    (KeepsPages-trans c.args.state.now.memory c.parts.state.memory c.run_quietly-taken.new.state.memory c.parts.invariant.kept c.run_quietly-taken.ensures.kept) c.take.ensures.kept in
    elim c.match-take.branch [
      | in-Next w ↦ rw (w.state-is, w.held-is) (record {
        so_far = SoFar-quiet c.args.input.now c.args.kind (flat_state c.args.state.now) c.args.own c.args.held.now
            (c.parts.taken + c.run_quietly-taken.result) (flat_state c.run_quietly-taken.new.state) (flat_state c.take.new.state) 1 c.parts.held so_far call w.in-Next.ensures.means;
        place = c.take.ensures.place;
        kept = kept;
        within = omega arith;
      })
      | in-Wrote+in-Ok-false w ↦ rw (w.state-is, w.held-is, w.in-Ok-false.ensures.same) (record {
        so_far = SoFar-wrote c.args.input.now c.args.kind (flat_state c.args.state.now) c.args.own c.args.held.now
            (c.parts.taken + c.run_quietly-taken.result) (flat_state c.run_quietly-taken.new.state) (flat_state c.take.new.state) w.in-Wrote.stream (bytes_from (content c.take.new.state.memory) w.in-Wrote.at w.in-Wrote.count) c.parts.held w.hold.new.held
            so_far call w.in-Wrote.ensures.means.3 (omega (arith, length-bytes_from (content c.take.new.state.memory) w.in-Wrote.at w.in-Wrote.count, w.in-Wrote.ensures.means.0))
            w.in-Ok-false.ensures.held (sym w.in-Ok-false.ensures.full ∙ w.in-Ok-false.field-0-test);
        place = c.take.ensures.place;
        kept = kept;
        within = omega arith;
      })
    ]
