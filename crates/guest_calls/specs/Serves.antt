-- What a call of a service answers and leaves, against the outcome that the table of services wants
use Rattle.std.specs.Prelude.{◌≡◌, ℕ, ◌<◌, Bool, if◌then◌else◌, [], IsTrue, ◌⊎◌}
use Rattle.speculation.specs.Machine.{Next, Ends}
use Rattle.guest_model.specs.ByteMap.{ByteMap, mapped, bytes_from}
use Rattle.guest_model.specs.Registers.{RegFile, next, with_pc, with_result}
use Rattle.guest_model.specs.MachineState.{MachineState}
use Rattle.guest_model.specs.Service.{Outcome, answer, cut}
use Rattle.guest_model.specs.declared.state.Heap.{Heap}
use Rattle.guest_model.specs.declared.end.End.TheVariants as E
use Rattle.guest_calls.specs.declared.served.Served.{Served}
use Rattle.guest_calls.specs.declared.served.Served.TheVariants.{Answer, Wrote, Exit, FastTrack, EndDual, NoMemory}

-- the state with the parts that a service sees, and with registers, which it doesn't
abbrev pub state_of : ByteMap → ℕ → Heap → RegFile → MachineState
state_of memory place heap regs = record { regs = regs; memory = memory; place = place; heap = heap }

-- a read of the input into a range that is mapped and not empty
pub record StoresInput (memory : ByteMap) (number descriptor at count : ℕ) : Type 0 where
  pub read : number ≡ 63
  pub input : descriptor ≡ 0
  pub some : 0 < cut count
  pub range : IsTrue (mapped memory at (cut count))

-- The state `new` has the registers of `old`: they are the caller's to set.
abbrev pub Serves : Bool → Bool → Outcome → MachineState → MachineState → Served → Type 0
Serves refuses fast want old new (Answer v) = want ≡ answer new v
Serves refuses fast want old new (Wrote stream at count) =
    (0 < count) × ((stream ≡ 1) ⊎ (stream ≡ 2)) × IsTrue (mapped old.memory at count) × (new ≡ old)
    × (want ≡ Next (record old { regs = with_result old.regs 10 count }) stream (bytes_from old.memory at count))
Serves refuses fast want old new (Exit code) = (want ≡ Ends (E.Exit code)) × (new ≡ old)
Serves refuses fast want old new FastTrack = (want ≡ answer old (if fast then 1 else 0)) × (new ≡ old)
Serves refuses fast want old new EndDual =
    (want ≡ Next (record old { regs = with_pc old.regs (next old.regs) }) 1 []) × (new ≡ old)
Serves refuses fast want old new NoMemory = IsTrue refuses × (new ≡ old)
