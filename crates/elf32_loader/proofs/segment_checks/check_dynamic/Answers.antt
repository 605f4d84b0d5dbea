use Rattle.std.proofs.Common.{refl}
use Rattle.guest_model.specs.ImageFault as image
use Rattle.guest_model.specs.Segment.{is_dynamic}
use Rattle.elf32_loader.proofs.OnPlacesInTable.{fault-found, fault-none}
use Rattle.elf32_loader.proofs.segment_checks.check_dynamic.Goals as goal

pub returns-then-is_dynamic : goal.returns-then-is_dynamic
returns-then-is_dynamic c = (refl, fault-found image.Dynamic is_dynamic c.args.segments.now c.loop-i.i c.index-segments-i.result c.is_dynamic.result c.loop-i-test.true c.index-segments-i.is c.is_dynamic.ensures c.if-is_dynamic.true c.loop-i.invariant)

pub returns : goal.returns
returns c = fault-none image.Dynamic is_dynamic c.args.segments.now c.loop-i.i c.loop-i-test.false c.loop-i.invariant
