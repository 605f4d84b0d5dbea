-- How the oldest region's original changes where it goes on, and what becomes of the loans
use Rattle.std.specs.Prelude.{ℕ, List, Some, unwrap_or}
use Rattle.speculation.specs.declared.tracks.Kind.TheVariants.{Normal}
use Rattle.speculation.specs.Run.{Piece}
use Rattle.track_state.specs.Views.{view_of}
use Rattle.track_state.specs.Transitions.{IsAtBoundary, GoesOn}
use Rattle.track_board.specs.declared.loan.Lent.{Lent}
use Rattle.track_board.specs.declared.slot.Slot.{Slot}
use Rattle.track_board.specs.declared.slot.Slot.TheVariants.{Home, Away}

-- an original is at home that closes its region
abbrev pub OriginalCloses : Slot → Type 0
OriginalCloses (Home x) = IsAtBoundary Normal (view_of x)
OriginalCloses (Away own) = ⊥

-- it goes on as the segment behind the region, and gives away its count and its pieces
abbrev pub SlotGoesOn : Slot → Slot → ℕ × List Piece → Type 0
SlotGoesOn (Home x) (Home y) given = GoesOn x y given
SlotGoesOn _ _ given = ⊥

-- a loan that this row dropped, where no earlier row did
abbrev pub lent_dropped : ℕ → Lent → Lent
lent_dropped row l = record l { dropped = Some (unwrap_or l.dropped row) }
