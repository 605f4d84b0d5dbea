-- The machine state, and the one that a state over any memory stands for
use Rattle.std.specs.Prelude.{ℕ}
use Rattle.guest_model.specs.ByteMap.{ByteMap}
use Rattle.guest_model.specs.Registers.{RegFile}
use Rattle.guest_model.specs.declared.state.Heap.{Heap}
use Rattle.guest_model.specs.declared.state.State.{State}

-- pc and registers, the memory, how many bytes of the input were read, and the heap with the break
pub record MachineState : Type 0 where
  pub regs : RegFile
  pub memory : ByteMap
  pub place : ℕ
  pub heap : Heap

-- the machine state that a state stands for, its memory seen as the map of its bytes
abbrev pub flat : {M : Type 0} → (M → ByteMap) → State M → MachineState
flat bytes s = record { regs = s.regs; memory = bytes s.memory; place = s.place; heap = s.heap }
