use Rattle.std.proofs.Common.{ap, ◌∙◌, length, sym, subst, arith}
use Rattle.guest_model.specs.ByteMap.{bytes_from}
use Rattle.guest_model.proofs.OnByteMap.{length-bytes_from}
use Rattle.paged_image.specs.Image.{content}
use Rattle.rv32_step.specs.RegisterSteps.{IsOther}
use Rattle.track_state.specs.Kept.{flat_state}
use Rattle.track_state.proofs.OnQuiet.{store-is_silent}
use Rattle.track_state.proofs.quiet.take_store.Goals as goal

pub unreachable-requires : goal.unreachable-requires
unreachable-requires c =
    let bytes = bytes_from (content c.step_other.new.state.memory) c.in-Wrote.at c.in-Wrote.count in
    let none = store-is_silent c.args.input.now (flat_state c.args.state.now) (flat_state c.step_other.new.state) c.in-Store.width c.in-Store.rs1 c.in-Store.rs2 c.in-Store.offset c.in-Wrote.stream bytes
    (subst (λ i. IsOther (flat_state c.args.state.now) i) c.in-Store.is c.requires.here) c.in-Wrote.ensures.means.3 in
    omega (arith, sym (length-bytes_from (content c.step_other.new.state.memory) c.in-Wrote.at c.in-Wrote.count) ∙ ap length none, c.in-Wrote.ensures.means.0)
