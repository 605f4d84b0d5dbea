use Rattle.std.proofs.Common.{◌≡◌, ◌-◌, ◌≤◌, false, length, take}
use Rattle.guest_model.specs.ByteMap.{write}
use Rattle.paged_image.specs.Image.{content}
use Rattle.paged_image.specs.Changes.{Advances}
use Rattle.paged_image.proofs.image.PagedImage.put_in_own_pages.Given as goal

abbrev pub invariant-loop-done : goal.invariant-loop-done
invariant-loop-done l = (l.done ≤ length l.from) × (content l.self ≡ write (content l.fn.self) l.a (take l.done l.from)) × Advances (λ _. false) l.fn.self l.self

abbrev pub decreases-loop-done : goal.decreases-loop-done
decreases-loop-done l = length l.from - l.done
