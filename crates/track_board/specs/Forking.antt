-- How the lead changes where a region opens
use Rattle.speculation.specs.declared.tracks.Kind.TheVariants.{Segment}
use Rattle.track_state.specs.Views.{view_of}
use Rattle.track_state.specs.Transitions.{IsAtBoundary, IsForked}
use Rattle.track_state.specs.declared.track.transitions.Forked.{Forked}
use Rattle.track_board.specs.declared.slot.Slot.{Slot}
use Rattle.track_board.specs.declared.slot.Slot.TheVariants.{Home, Away}

-- a segment is at home that stands at an opening call
abbrev pub LeadOpens : Slot → Type 0
LeadOpens (Home x) = IsAtBoundary Segment (view_of x)
LeadOpens (Away own) = ⊥

-- it goes on as the fast version of the region
abbrev pub LeadForked : Slot → Slot → Forked → Type 0
LeadForked (Home x) (Home y) f = IsForked x y f
LeadForked _ _ f = ⊥
