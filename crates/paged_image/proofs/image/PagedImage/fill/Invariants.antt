use Rattle.std.proofs.Common.{◌≡◌, ◌-◌, ◌≤◌, length, take}
use Rattle.guest_model.specs.ByteMap.{bytes_from}
use Rattle.paged_image.specs.Image.{content}
use Rattle.paged_image.proofs.image.PagedImage.fill.Given as goal

abbrev pub invariant-loop-done : goal.invariant-loop-done
invariant-loop-done l = (l.done ≤ length l.into) × (take l.done l.into ≡ bytes_from (content l.self) l.a l.done)

abbrev pub decreases-loop-done : goal.decreases-loop-done
decreases-loop-done l = length l.initial.into - l.done
