use Rattle.std.proofs.Common.{refl}
use Rattle.guest_model.specs.ImageFault as image
use Rattle.guest_model.specs.ImageFault.{overlaps_stack}
use Rattle.elf32_loader.proofs.OnPlacesInTable.{fault-found, fault-none}
use Rattle.elf32_loader.proofs.segment_checks.check_stack.Goals as goal

pub returns-then-overlaps_stack : goal.returns-then-overlaps_stack
returns-then-overlaps_stack c = (refl, fault-found image.StackOverlap overlaps_stack c.args.segments.now c.loop-i.i c.index-segments-i.result c.overlaps_stack.result c.loop-i-test.true c.index-segments-i.is c.overlaps_stack.ensures c.if-overlaps_stack.true c.loop-i.invariant)

pub returns : goal.returns
returns c = fault-none image.StackOverlap overlaps_stack c.args.segments.now c.loop-i.i c.loop-i-test.false c.loop-i.invariant
