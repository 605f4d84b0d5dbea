use Rattle.std.proofs.Common.{◌≡◌, ℕ, ◌++◌, ◌∙◌, take, drop, length, arith, rules, ap, length-append, length-take}
use Rattle.host_io.specs.declared.failed.Failed.{Failed}
use Rattle.host_io.proofs.Pieces.{reads_on}
use Rattle.host_io.proofs.take.take_file_by.Goals as goal

pub loop-bytes-preserved : goal.loop-bytes-preserved
loop-bytes-preserved g c =
    let kept = c.loop-bytes.invariant in
    let read = c.in-Ok.ensures in
    let name = c.args.name.now in
    let rest = drop c.room_for-room.result c.loop-bytes.piece in
    let grown : c.append.new.self ≡ c.loop-bytes.bytes ++ take c.in-Ok.count (c.read.new.into ++ rest) = search rules in (
      omega (arith, ap length grown, length-append {A = ℕ}, length-take {A = ℕ}, read.bound, c.room_for-room.ensures.within, c.len-in-loop-bytes.ensures),
      reads_on Failed (g.F.Files.contents c.args.files.now name) (g.F.Files.contents c.loop-bytes.files name) c.loop-bytes.bytes c.read.new.into rest c.append.new.self c.len-in-loop-bytes-2.result c.in-Ok.count (ap (λ h. h name) kept.2) c.len-in-loop-bytes-2.ensures kept.1 read.bound read.bytes grown,
      read.held ∙ kept.2,
      read.counted ∙ kept.3,
    )
