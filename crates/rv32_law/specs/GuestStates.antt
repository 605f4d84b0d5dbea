-- What holds of each state that a program of the guest machine reaches, and what all of them have in common
use Rattle.std.specs.Prelude.{◌≡◌, ◌≢◌, ℕ, ◌^◌, ◌≤◌, List, None, length, is_some}
use Rattle.speculation.specs.Machine.{Next, Ends}
use Rattle.guest_model.specs.Registers.{IsRegFile}
use Rattle.guest_model.specs.MachineState.{MachineState}
use Rattle.guest_model.specs.Service.{Outcome}
use Rattle.guest_model.specs.declared.end.End.TheVariants.{Spent}

-- There are 32 registers, of which x0 is 0; memory has no byte from 2 ^ 32 on; and no more of the input was read than
-- there is.
pub record IsGuestState (input : List ℕ) (s : MachineState) : Type 0 where
  pub registers : IsRegFile s.regs
  pub memory : (q : ℕ) → 2 ^ 32 ≤ q → s.memory q ≡ None
  pub place : s.place ≤ length input

-- the same addresses are mapped in both, and the heap has the same start and size; the break may differ
pub record SharesLayout (s t : MachineState) : Type 0 where
  pub mapped : (q : ℕ) → is_some (s.memory q) ≡ is_some (t.memory q)
  pub start : s.heap.start ≡ t.heap.start
  pub size : s.heap.size ≡ t.heap.size

-- t is a guest state with the layout of s
pub record KeepsState (input : List ℕ) (s t : MachineState) : Type 0 where
  pub state : IsGuestState input t
  pub layout : SharesLayout s t

-- a next state with the layout of s, and how many bytes were written
pub record GoesOn (input : List ℕ) (s t : MachineState) (bytes : List ℕ) : Type 0 where
  pub keeps : KeepsState input s t
  pub written : length bytes ≤ 2 ^ 20

-- What one instruction in state s leads to: a guest state with the layout of s, with at most 2 ^ 20 bytes written, or an
-- end. That a budget was spent is no end of an instruction.
abbrev pub StepKeeps : List ℕ → MachineState → Outcome → Type 0
StepKeeps input s (Next t stream bytes) = GoesOn input s t bytes
StepKeeps input s (Ends e) = e ≢ Spent
