-- What a run of a guest leaves on its two streams: stream 1 goes to `out`, stream 2 to `notes`
use Rattle.std.specs.Prelude.{◌≡◌, ℕ, List, [], ◌∷◌, ◌++◌, Option, Some, None, Result, Ok, Err, ◌⊎◌}
use Rattle.std.specs.Io.KnownBytes.{Appends}
use Rattle.speculation.specs.Run.{Mark, stream_bytes}
use Rattle.speculation.specs.Record.{Ran, output_of}
use Rattle.host_io.specs.Faults.{Rose}
use Rattle.host_io.specs.declared.sink.Sink.{Ghosts as SinkRow}
use Rattle.guest_model.specs.declared.end.End.{End}
use Rattle.guest_model.specs.declared.end.End.TheVariants.{Spent}
use Rattle.guest_streams.specs.declared.fault.OutputFault.{OutputFault}
use Rattle.guest_streams.specs.declared.fault.OutputFault.TheVariants.{Write, NoMemory}

-- the end of a run; none is that the budget was spent
abbrev pub end_of : Option End → End
end_of None = Spent
end_of (Some e) = e

-- The two sinks as contracts see them: the bytes that each holds, where it tells them, and its count of faults.
pub record Sinks : Type 0 where
  pub out : Option (List ℕ)
  pub out_faults : ℕ
  pub notes : Option (List ℕ)
  pub notes_faults : ℕ

-- Two sinks as that. In a clause the rows of their bounds are `O.Sink` and `N.Sink`.
abbrev pub sinks_of : {O N : Type 0} → SinkRow O → SinkRow N → O → N → Sinks
sinks_of o n out notes = record { out = o.contents out; out_faults = o.faults out; notes = n.contents notes; notes_faults = n.faults notes }

-- the same sinks with this one as `out`
abbrev pub with_out : {O : Type 0} → SinkRow O → O → Sinks → Sinks
with_out o out s = record s { out = o.contents out; out_faults = o.faults out }

-- both sinks got the two streams of these marked bytes, each where it tells
pub record Gets (old new : Sinks) (ms : List Mark) : Type 0 where
  pub stream_1 : Appends old.out new.out (stream_bytes 1 ms)
  pub stream_2 : Appends old.notes new.notes (stream_bytes 2 ms)

-- both counts are as before
pub record IsCalm (old new : Sinks) : Type 0 where
  pub on_out : new.out_faults ≡ old.out_faults
  pub on_notes : new.notes_faults ≡ old.notes_faults

-- the next marked byte is of this stream
abbrev pub IsNext : ℕ → List Mark → Type 0
IsNext stream [] = ⊥
IsNext stream (m ∷ ms) = m.stream ≡ stream

-- one of the two counts rose, and the byte that could not be written is of its stream
abbrev pub FailsAt : Sinks → Sinks → List Mark → Type 0
FailsAt old new rest =
    (Rose old.out_faults new.out_faults × (new.notes_faults ≡ old.notes_faults) × IsNext 1 rest)
    ⊎ (Rose old.notes_faults new.notes_faults × (new.out_faults ≡ old.out_faults) × IsNext 2 rest)

-- they got this output from its beginning on up to a byte that could not be written
pub record StopsShort (old new : Sinks) (output : List Mark) : Type 0 where
  pub got : List Mark
  pub rest : List Mark
  pub parts : got ++ rest ≡ output
  pub gets : Gets old new got
  pub fails : FailsAt old new rest

-- they got this output from its beginning on up to some byte, and no count rose
pub record GetsPart (old new : Sinks) (output : List Mark) : Type 0 where
  pub got : List Mark
  pub rest : List Mark
  pub parts : got ++ rest ≡ output
  pub gets : Gets old new got
  pub calm : IsCalm old new

-- they got all of it, and no count rose
pub record GetsAll (old new : Sinks) (output : List Mark) : Type 0 where
  pub gets : Gets old new output
  pub calm : IsCalm old new

-- what the writing of one piece of output answers and leaves
abbrev pub WritesPiece : {T E : Type 0} → Sinks → Sinks → List Mark → Result T E → Type 0
WritesPiece old new piece (Ok _) = GetsAll old new piece
WritesPiece old new piece (Err _) = StopsShort old new piece

-- the same with a piece for which there may be no memory
abbrev pub PassesOn : {T : Type 0} → Sinks → Sinks → List Mark → Result T OutputFault → Type 0
PassesOn old new piece (Ok _) = GetsAll old new piece
PassesOn old new piece (Err Write) = StopsShort old new piece
PassesOn old new piece (Err NoMemory) = new ≡ old

-- What a guest's run answers and leaves: all of its output and its own end, or a part of its output.
abbrev pub Leaves : {S : Type 0} → Ran S End → Sinks → Sinks → Result End OutputFault → Type 0
Leaves run old new (Ok e) = GetsAll old new (output_of run) × (e ≡ end_of run.end)
Leaves run old new (Err Write) = StopsShort old new (output_of run)
Leaves run old new (Err NoMemory) = GetsPart old new (output_of run)
