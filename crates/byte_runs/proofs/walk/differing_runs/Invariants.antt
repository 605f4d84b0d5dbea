use Rattle.std.proofs.Common.{◌≡◌, ℕ, ◌+◌, ◌-◌, ◌*◌, length}
use Rattle.paged_image.specs.Image.{content}
use Rattle.byte_runs.specs.Collection.{Collected}
use Rattle.byte_runs.proofs.OnPages.{Walked}
use Rattle.byte_runs.proofs.walk.differing_runs.Given as goal

-- all bytes below a page were looked at, and the lists go on from there
abbrev pub invariant-loop-page : goal.invariant-loop-page
invariant-loop-page l =
    (floor : ℕ) × Collected (content l.a) (content l.b) (floor * 4096) l.found × Walked l.us l.i floor × Walked l.ws l.j floor × (l.found.most ≡ l.most)

abbrev pub decreases-loop-page : goal.decreases-loop-page
decreases-loop-page l = (length l.us - l.i) + (length l.ws - l.j)
