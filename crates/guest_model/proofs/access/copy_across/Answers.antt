use Rattle.std.proofs.Common.{length, sym, arith}
use Rattle.guest_model.specs.AreaMap.{areas_bytes}
use Rattle.guest_model.proofs.OnByteMap.{bytes_from-fill}
use Rattle.guest_model.proofs.access.copy_across.Goals as goal

pub returns : goal.returns
returns c = (
  sym c.if-not-mapped_across.ensures.value,
  sym (bytes_from-fill (areas_bytes c.args.areas.now) c.args.a (length c.args.into.now) c.loop-k.into c.loop-k.auto.into (λ j l. c.loop-k.invariant j (omega arith))),
)
