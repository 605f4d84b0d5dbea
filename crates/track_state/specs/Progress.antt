-- A part of a run, instruction by instruction, from a state in which a track of some kind has `own` instructions behind it
use Rattle.std.specs.Prelude.{◌≡◌, ℕ, ◌+◌, ◌^◌, ◌%◌, ◌-◌, ◌<◌, ◌≤◌, ◌⊎◌, ◌/◌, Bool, true, false, ◌||◌, List, [], ◌∷◌, ◌++◌, is_some, nat_le}
use Rattle.speculation.specs.declared.tracks.Kind.{Kind}
use Rattle.speculation.specs.declared.tracks.Kind.TheVariants.{Normal, Fast, Segment}
use Rattle.speculation.specs.Run.{Piece, fresh, go, pieces}
use Rattle.speculation.specs.Core.{held_size, most_held}
use Rattle.guest_model.specs.ByteMap.{Keeps}
use Rattle.guest_model.specs.Registers.{RegFile, with_reg, with_pc}
use Rattle.guest_model.specs.MachineState.{MachineState}
use Rattle.guest_model.specs.Step.{at_fast, at_end}
use Rattle.guest_model.specs.Rv32.{rv32}
use Rattle.paged_image.specs.WriteSet.{has}
use Rattle.paged_image.specs.Image.{content, written_of}
use Rattle.paged_image.specs.declared.image.PagedImage.{PagedImage}
use Rattle.track_state.specs.declared.progress.Progress.{Progress}

-- the state is at the call at which a track of this kind halts
abbrev pub halts : Kind → MachineState → Bool
halts Normal s = at_end s
halts Fast s = at_end s
halts Segment s = at_fast s

-- what the track holds of the n instructions from s on, which are numbered from own + 1; of a fast version nothing
abbrev pub kept_pieces : List ℕ → Kind → MachineState → ℕ → ℕ → List Piece
kept_pieces input Normal s own n = pieces (rv32 input) (fresh s) own n
kept_pieces input Fast s own n = []
kept_pieces input Segment s own n = pieces (rv32 input) (fresh s) own n

-- what it holds of the instruction of this number, which wrote these bytes
abbrev pub held_piece : Kind → ℕ → ℕ → List ℕ → List Piece
held_piece Normal number stream bytes = record { number = number; stream = stream; bytes = bytes } ∷ []
held_piece Fast number stream bytes = []
held_piece Segment number stream bytes = record { number = number; stream = stream; bytes = bytes } ∷ []

-- after n instructions the run has met an end, is at the call, or holds as many bytes as it may
abbrev pub is_over : List ℕ → Kind → MachineState → ℕ → List Piece → ℕ → Bool
is_over input kind s own held n =
    is_some (go (rv32 input) (fresh s) n).end
    || (halts kind (go (rv32 input) (fresh s) n).state || nat_le most_held (held_size (held ++ kept_pieces input kind s own n)))

-- why no further instruction was taken: there was no memory for it, the limit was reached, or the run is over
abbrev pub Pauses : List ℕ → Kind → MachineState → ℕ → List Piece → (limit taken : ℕ) → (refused : Bool) → Type 0
Pauses input kind s own held limit taken true = (taken < limit) × (is_over input kind s own held taken ≡ false)
Pauses input kind s own held limit taken false = (taken ≡ limit) ⊎ (is_over input kind s own held taken ≡ true)

-- what a run of at most `limit` instructions from s leaves: state, pieces, and its answer
pub record IsProgress (input : List ℕ) (kind : Kind) (s : MachineState) (own : ℕ) (held : List Piece) (limit : ℕ) (t : MachineState) (held' : List Piece) (p : Progress) : Type 0 where
  pub at : go (rv32 input) (fresh s) p.taken ≡ record { state = t; end = p.end }
  pub holds : held' ≡ held ++ kept_pieces input kind s own p.taken
  pub below : p.taken ≤ limit
  pub going : (n : ℕ) → n < p.taken → is_over input kind s own held n ≡ false
  pub pause : Pauses input kind s own held limit p.taken p.refused

-- pages that were written stay so, and bytes outside of them are as before
abbrev pub KeepsPages : PagedImage → PagedImage → Type 0
KeepsPages old new = Keeps (λ q. has (written_of old) (q / 4096)) (content old) (λ q. has (written_of new) (q / 4096)) (content new)

-- the registers before a write to this stream went on: a0 is the stream again, and pc is one instruction back
abbrev pub undone : ℕ → RegFile → RegFile
undone stream f = with_pc (with_reg f 10 stream) ((f.pc + (2 ^ 32 - 4)) % 2 ^ 32)
