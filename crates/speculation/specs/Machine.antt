-- What a machine is: a step, two marks of a state, the answer 1 to the opening call, and where two states differ.
use Rattle.std.specs.Prelude.{ℕ, Bool, List, Option}

-- One instruction in a state of type S: the next state with the stream and the bytes that were written (no byte where
-- none was), or an end of type E.
pub data Stepped (S E : Type 0) : Type 0 where
  Next : S → ℕ → List ℕ → Stepped S E
  Ends : E → Stepped S E

-- A machine with states S, ends E and differences D. What it reads from outside is part of its step.
pub record Machine (S E D : Type 0) : Type 0 where
  -- one instruction; a call that opens a region is answered by 0
  pub step : S → Stepped S E
  -- the state is at a call that opens a region
  pub at_fast : S → Bool
  -- the state is at a call that closes a region
  pub at_end : S → Bool
  -- the state after the opening call, answered by 1
  pub answer_one : S → S
  -- the address of the next instruction
  pub pc : S → ℕ
  -- where two states differ first; none for equal states
  pub difference : S → S → Option D
