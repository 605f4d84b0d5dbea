use Rattle.std.proofs.Common.{ℕ, ◌+◌, ◌-◌, ◌<◌, ◌≤◌, length, drop}
use Rattle.std.specs.Prelude.{slice_index}
use Rattle.paged_image.specs.Image.{content}
use Rattle.page_compare.specs.Comparison.{SamePage, in_either}
use Rattle.page_compare.proofs.compare.first_difference.Given as goal

abbrev pub invariant-loop-page : goal.invariant-loop-page
invariant-loop-page g l =
    (l.steps + in_either (drop l.i l.us) (drop l.j l.ws) ≤ l.initial.steps + in_either l.us l.ws)
    × ((k : ℕ) → k < l.i → k < length l.us → SamePage (content l.a) (content l.b) (slice_index l.us k))
    × ((k : ℕ) → k < l.j → k < length l.ws → SamePage (content l.a) (content l.b) (slice_index l.ws k))

abbrev pub decreases-loop-page : goal.decreases-loop-page
decreases-loop-page g l = (length l.us - l.i) + (length l.ws - l.j)
