use Rattle.std.proofs.Common.{◌≡◌, length}
use Rattle.board_lock.specs.Entries.{Appends}
use Rattle.board_lock.specs.Steps.{staged}
use Rattle.board_lock.specs.Places.{IsSameSeat}
use Rattle.board_lock.proofs.steps.add_all.Given as goal

abbrev pub ghosts-add_one : goal.ghosts-add_one
ghosts-add_one g a = record { target = g.T.Kept.entries a.value.now }

abbrev pub invariant-loop : goal.invariant-loop
invariant-loop g l =
    IsSameSeat l.initial.place l.place × (l.place.me ≡ (staged l.initial.place.me.0 l.place.me.0.seen l.initial.place.me.0.stage, l.initial.place.me.1))
    × Appends g.T.Kept.belongs l.initial.place.me.0.seat l.place.me.0.seen (g.T.Kept.entries l.value) × (l.counter ≡ length l.place.me.0.seen)
