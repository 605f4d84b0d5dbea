use Rattle.std.proofs.Common.{◌≡◌, false, map, take}
use Rattle.paged_image.specs.Entries.{face, NoneOwn}
use Rattle.paged_image.specs.Changes.{Grows}
use Rattle.paged_image.proofs.image.snapshot.share_all.Given as goal

abbrev pub invariant-loop-place : goal.invariant-loop-place
invariant-loop-place l =
    (map face l.entries.items ≡ map face l.fn.entries.items)
    × Grows (λ _. false) l.fn.entries.items l.entries.items
    × NoneOwn (take l.place l.entries.items)
    × (map face l.others.items ≡ map face (take l.place l.entries.items))
    × NoneOwn l.others.items
