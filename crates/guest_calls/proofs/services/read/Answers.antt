-- The bytes of the input are at most as many as the range that is mapped, so their range is mapped too.
use Rattle.std.proofs.Common.{◌≡◌, true, arith}
use Rattle.std.proofs.lemmas.Grind.{common_steps}
use Rattle.guest_model.specs.ByteMap.{mapped}
use Rattle.guest_model.proofs.OnByteMap.{mapped-shorter}
use Rattle.guest_calls.proofs.services.read.Goals as goal

pub unreachable-requires : goal.unreachable-requires
unreachable-requires g c =
    let whole : mapped (g.M.Memory.bytes c.args.memory.now) c.args.at c.min-count.result ≡ true = grind (arith, common_steps) in
    let refused = rw c.in-Err-Unmapped.field-0-is at c.in-Err-Unmapped.ensures.stores in
    grind (arith, common_steps, mapped-shorter, refused)
