-- Instructions that are at no call and write to no stream
use Rattle.std.specs.Prelude.{◌≡◌, ℕ, zero, suc, false, List, []}
use Rattle.std.specs.Int.{w32}
use Rattle.speculation.specs.Machine.{Next}
use Rattle.guest_model.specs.ByteMap.{ByteMap, load}
use Rattle.guest_model.specs.Registers.{RegFile}
use Rattle.guest_model.specs.MachineState.{MachineState}
use Rattle.guest_model.specs.Step.{step, is_ecall}
use Rattle.guest_model.specs.declared.state.Heap.{Heap}

-- the instruction of s leads to t, writes to no stream and is no call
pub record IsQuiet (input : List ℕ) (s t : MachineState) : Type 0 where
  pub goes : step false input s ≡ Next t 1 []
  pub word : is_ecall (load w32 s.memory s.regs.pc) ≡ false

-- n such instructions lead from s to t
abbrev pub QuietSteps : List ℕ → MachineState → ℕ → MachineState → Type 0
QuietSteps input s zero t = t ≡ s
QuietSteps input s (suc n) t = (u : MachineState) × QuietSteps input s n u × IsQuiet input u t

-- the state with this memory and these registers, and with parts that instructions on registers don't see
abbrev pub seen : ByteMap → ℕ → Heap → RegFile → MachineState
seen memory place heap regs = record { regs = regs; memory = memory; place = place; heap = heap }

-- over this memory, n such instructions lead from the registers f to g
abbrev pub QuietRegisters : ByteMap → RegFile → ℕ → RegFile → Type 0
QuietRegisters m f n g = (input : List ℕ) (place : ℕ) (heap : Heap) → QuietSteps input (seen m place heap f) n (seen m place heap g)
