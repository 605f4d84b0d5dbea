use Rattle.std.proofs.Common.{◌+◌, ◌<◌, arith}
use Rattle.guest_model.specs.ByteMap.{bytes_from}
use Rattle.paged_image.specs.Image.{content}
use Rattle.track_state.specs.Kept.{flat_state}
use Rattle.track_state.proofs.OnPlain.{go-none, go-more, go-quiets, go-met, go-spent}
use Rattle.track_state.proofs.plain.run_plain.Goals as goal
use Rattle.track_state.proofs.plain.run_plain.Goals.{in-Next, in-Wrote}

pub parts-init : goal.parts-init
parts-init c = record { at = go-none c.args.input.now (flat_state c.args.state.now); place = c.requires; within = omega arith }

pub returns-then-taken-limit-clause-ran : goal.returns-then-taken-limit-clause-ran
returns-then-taken-limit-clause-ran c =
    go-spent c.args.input.now (flat_state c.args.state.now) (c.parts.taken + c.run_quietly-taken.result) c.args.limit (flat_state c.run_quietly-taken.new.state)
    (go-quiets c.args.input.now (flat_state c.args.state.now) c.parts.taken c.run_quietly-taken.result (flat_state c.parts.state) (flat_state c.run_quietly-taken.new.state) c.parts.invariant.at c.run_quietly-taken.ensures.ran) c.if-taken-limit.true

pub returns-in-Ends-clause-ran : goal.returns-in-Ends-clause-ran
returns-in-Ends-clause-ran c =
    let less : c.parts.taken + c.run_quietly-taken.result < c.args.limit = omega (arith, c.if-taken-limit.false, c.run_quietly-taken.ensures.within, c.parts.invariant.within) in
    go-met c.args.input.now (flat_state c.args.state.now) (c.parts.taken + c.run_quietly-taken.result) c.args.limit (flat_state c.run_quietly-taken.new.state) (flat_state c.take.new.state) c.in-Ends.end
    (go-quiets c.args.input.now (flat_state c.args.state.now) c.parts.taken c.run_quietly-taken.result (flat_state c.parts.state) (flat_state c.run_quietly-taken.new.state) c.parts.invariant.at c.run_quietly-taken.ensures.ran)
    c.in-Ends.ensures.means.1 c.in-Ends.ensures.means.2 less

pub returns-in-NoMemory-clause-short : goal.returns-in-NoMemory-clause-short
returns-in-NoMemory-clause-short c =
    let less : c.parts.taken + c.run_quietly-taken.result < c.args.limit = omega (arith, c.if-taken-limit.false, c.run_quietly-taken.ensures.within, c.parts.invariant.within) in (
      c.parts.taken + c.run_quietly-taken.result,
      less,
      rw c.in-NoMemory.ensures.means.1
          (go-quiets c.args.input.now (flat_state c.args.state.now) c.parts.taken c.run_quietly-taken.result (flat_state c.parts.state) (flat_state c.run_quietly-taken.new.state) c.parts.invariant.at c.run_quietly-taken.ensures.ran),
    )

pub parts-preserved : goal.parts-preserved
parts-preserved c =
    let quiet = go-quiets c.args.input.now (flat_state c.args.state.now) c.parts.taken c.run_quietly-taken.result (flat_state c.parts.state) (flat_state c.run_quietly-taken.new.state) c.parts.invariant.at c.run_quietly-taken.ensures.ran in
    elim c.match-take.branch [
      | in-Next w ↦ record {
        at = go-more c.args.input.now (flat_state c.args.state.now) (c.parts.taken + c.run_quietly-taken.result) (flat_state c.run_quietly-taken.new.state) (flat_state c.take.new.state) 1 _ quiet w.in-Next.ensures.means;
        place = c.take.ensures.place;
        within = omega (arith, c.if-taken-limit.false, c.run_quietly-taken.ensures.within, c.parts.invariant.within);
      }
      | in-Wrote w ↦ record {
        at = go-more c.args.input.now (flat_state c.args.state.now) (c.parts.taken + c.run_quietly-taken.result) (flat_state c.run_quietly-taken.new.state) (flat_state c.take.new.state) w.in-Wrote.stream
            (bytes_from (content c.take.new.state.memory) w.in-Wrote.at w.in-Wrote.count) quiet w.in-Wrote.ensures.means.3;
        place = c.take.ensures.place;
        within = omega (arith, c.if-taken-limit.false, c.run_quietly-taken.ensures.within, c.parts.invariant.within);
      }
    ]

pub returns-clause-ran : goal.returns-clause-ran
returns-clause-ran c = go-spent c.args.input.now (flat_state c.args.state.now) c.parts.taken c.args.limit (flat_state c.parts.state) c.parts.invariant.at (omega (arith, c.parts.invariant.within))
