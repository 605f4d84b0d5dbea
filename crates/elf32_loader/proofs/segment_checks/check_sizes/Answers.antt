use Rattle.std.proofs.Common.{refl}
use Rattle.guest_model.specs.ImageFault as image
use Rattle.guest_model.specs.ImageFault.{is_bad}
use Rattle.elf32_loader.proofs.OnPlacesInTable.{fault-found, fault-none}
use Rattle.elf32_loader.proofs.segment_checks.check_sizes.Goals as goal

pub returns-then-is_bad : goal.returns-then-is_bad
returns-then-is_bad c = (refl, fault-found image.BadSegment (is_bad c.args.file_length) c.args.segments.now c.loop-i.i c.index-segments-i.result c.is_bad.result c.loop-i-test.true c.index-segments-i.is c.is_bad.ensures c.if-is_bad.true c.loop-i.invariant)

pub returns : goal.returns
returns c = fault-none image.BadSegment (is_bad c.args.file_length) c.args.segments.now c.loop-i.i c.loop-i-test.false c.loop-i.invariant
