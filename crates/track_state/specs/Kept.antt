-- What the state of a track has in common with the track's start
use Rattle.std.specs.Prelude.{◌≡◌, ◌≢◌, ℕ, ◌/◌, true, false}
use Rattle.speculation.specs.declared.tracks.Kind.{Kind}
use Rattle.speculation.specs.declared.tracks.Kind.TheVariants.{Segment}
use Rattle.guest_model.specs.MachineState.{MachineState, flat}
use Rattle.guest_model.specs.Step.{at_fast}
use Rattle.guest_model.specs.declared.state.State.{State}
use Rattle.rv32_law.specs.GuestStates.{SharesLayout}
use Rattle.paged_image.specs.WriteSet.{has}
use Rattle.paged_image.specs.Image.{content, written_of}
use Rattle.paged_image.specs.declared.image.PagedImage.{PagedImage}
use Rattle.track_state.specs.declared.start.Start.{Start}
use Rattle.page_compare.specs.Comparison.{AgreeOutside}

-- the machine state that a state over pages stands for
abbrev pub flat_state : State PagedImage → MachineState
flat_state s = flat content s

-- the machine state in which a track started
abbrev pub flat_start : Start → MachineState
flat_start s = flat content (record { regs = s.regs; memory = s.memory.value; place = s.place; heap = s.heap })

-- Outside of the pages that were written, memory is as it was at the start, and the layout is that of the start.
pub record KeepsStart (start : MachineState) (s : State PagedImage) : Type 0 where
  pub outside : (q : ℕ) → has (written_of s.memory) (q / 4096) ≡ false → content s.memory q ≡ start.memory q
  pub layout : SharesLayout start (flat_state s)

-- Both versions of a region start at the call that opens it; a segment starts anywhere.
abbrev pub StartsAtCall : Kind → MachineState → Type 0
StartsAtCall kind s = kind ≢ Segment → at_fast s ≡ true

-- The states can be compared by their written pages: their layout is one, and outside of both write sets memory is the
-- same. Two states that keep one start are so.
pub record AreComparable (a b : State PagedImage) : Type 0 where
  pub outside : AgreeOutside (written_of a.memory) (written_of b.memory) (content a.memory) (content b.memory)
  pub layout : SharesLayout (flat_state a) (flat_state b)
