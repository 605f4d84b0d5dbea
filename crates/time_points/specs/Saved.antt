-- The states of a program at every so many instructions
use Rattle.std.specs.Prelude.{◌≡◌, ℕ, ◌*◌, ◌<◌, ◌≤◌, List, length, slice_get, Some, None}
use Rattle.speculation.specs.Record.{run}
use Rattle.guest_model.specs.MachineState.{MachineState}
use Rattle.guest_model.specs.Rv32.{rv32}

-- a state is to be saved after n instructions: up to `greatest`, and as far as the program still runs
pub record IsPoint (input : List ℕ) (start : MachineState) (greatest n : ℕ) : Type 0 where
  pub upto : n ≤ greatest
  pub runs : (run (rv32 input) start n).end ≡ None

-- the state there
pub record IsStateAt (input : List ℕ) (start : MachineState) (n : ℕ) (s : MachineState) : Type 0 where
  pub state : s ≡ (run (rv32 input) start n).last
  pub place : s.place ≤ length input

-- the states saved are exactly those at 0, every, twice every and so on, as far as these are points
pub record AreSaved (input : List ℕ) (start : MachineState) (every greatest : ℕ) (saved : List MachineState) : Type 0 where
  pub points : (k : ℕ) → k < length saved → IsPoint input start greatest (k * every)
  pub states : (k : ℕ) (s : MachineState) → slice_get saved k ≡ Some s → IsStateAt input start (k * every) s
  pub all : (k : ℕ) → IsPoint input start greatest (k * every) → k < length saved
