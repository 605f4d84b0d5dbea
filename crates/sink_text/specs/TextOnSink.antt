-- What the writing of a text to one sink answers and leaves
use Rattle.std.specs.Prelude.{◌≡◌, ℕ, ◌<◌, List, ◌++◌, length, Option, Result, Ok, Err}
use Rattle.std.specs.Io.KnownBytes.{Appends}
use Rattle.host_io.specs.Faults.{Rose}
use Rattle.host_io.specs.declared.sink.Sink.{Ghosts as SinkRow}
use Rattle.guest_streams.specs.declared.fault.OutputFault.{OutputFault}
use Rattle.guest_streams.specs.declared.fault.OutputFault.TheVariants.{Write, NoMemory}

-- the sink got a beginning of the text, where its bytes are known
pub record GotBeginning (old new : Option (List ℕ)) (text : List ℕ) : Type 0 where
  pub got : List ℕ
  pub rest : List ℕ
  pub parts : got ++ rest ≡ text
  pub appends : Appends old new got

-- and the text has more, whose first byte could not be written
pub record StoppedInText (old new : Option (List ℕ)) (text : List ℕ) : Type 0 where
  pub beginning : GotBeginning old new text
  pub more : 0 < length beginning.rest

-- All of it, or a beginning: one that is shorter after a fault, which is counted.
abbrev pub WritesText : {T : Type 0} → (old new : Option (List ℕ)) → (faults faults' : ℕ) → List ℕ → Result T OutputFault → Type 0
WritesText old new faults faults' text (Ok _) = Appends old new text × (faults' ≡ faults)
WritesText old new faults faults' text (Err Write) = StoppedInText old new text × Rose faults faults'
WritesText old new faults faults' text (Err NoMemory) = GotBeginning old new text × (faults' ≡ faults)

-- the same of a sink; in a clause `O.Sink` is the row of its bound
abbrev pub WritesOn : {O T : Type 0} → SinkRow O → O → O → List ℕ → Result T OutputFault → Type 0
WritesOn sink old new text r = WritesText (sink.contents old) (sink.contents new) (sink.faults old) (sink.faults new) text r
