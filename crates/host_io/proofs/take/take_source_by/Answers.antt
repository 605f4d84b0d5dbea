use Rattle.std.proofs.Common.{ℕ, ◌++◌, take, arith, length-append, length-take}
use Rattle.std.proofs.KnownBytes.{Consumes-trans}
use Rattle.host_io.proofs.take.take_source_by.Goals as goal

pub returns-then-is_err-clause-left : goal.returns-then-is_err-clause-left
returns-then-is_err-clause-left g c =
    let was = c.loop-bytes.bytes in
    let piece = take c.in-Ok.count c.read.new.into in (
      was ++ piece,
      omega (arith, length-append was piece, c.in-Ok.ensures.bound, c.room_for-room.ensures.within, c.len-in-loop-bytes.ensures, length-take {A = ℕ}),
      Consumes-trans (g.S.Source.remaining c.args.source.now) (g.S.Source.remaining c.loop-bytes.source) (g.S.Source.remaining c.read.new.self) was piece c.loop-bytes.invariant.1 c.in-Ok.ensures.bytes.0,
    )
