-- The program with the fast versions of its regions in place of the originals, unchecked
use Rattle.std.specs.Prelude.{ℕ, Bool, false, not, List, if◌then◌else◌}
use Rattle.speculation.specs.Machine.{Machine, Stepped, Next, Ends}
use Rattle.speculation.specs.Record.{Ran, alone}
use Rattle.guest_model.specs.Image.{Image, start_of}
use Rattle.guest_model.specs.MachineState.{MachineState}
use Rattle.guest_model.specs.Rv32.{answer_one}
use Rattle.guest_model.specs.Difference.{difference}
use Rattle.guest_model.specs.Step.{step, at_fast, at_end}
use Rattle.guest_model.specs.declared.end.End.{End}
use Rattle.guest_model.specs.declared.difference.Difference.{Difference}

-- where such a run stands: the state of the guest, and whether it is inside a region
pub record Place : Type 0 where
  pub state : MachineState
  pub inside : Bool

-- whether the next state is inside a region: an opening call outside of one opens it, and a closing call closes it
abbrev pub inside_after : Bool → MachineState → Bool
inside_after inside s = if inside then not (at_end s) else at_fast s

abbrev pub placed : Bool → Stepped MachineState End → Stepped Place End
placed inside (Next s stream bytes) = Next (record { state = s; inside = inside }) stream bytes
placed inside (Ends e) = Ends e

-- One instruction: an opening call outside of a region is answered by 1, and each other one by 0.
abbrev pub fast_step : List ℕ → Place → Stepped Place End
fast_step input p = placed (inside_after p.inside p.state) (step (not p.inside) input p.state)

-- As a machine of the theory. Its runs use the step alone.
abbrev pub fast_rv32 : List ℕ → Machine Place End Difference
fast_rv32 input = record {
  step = fast_step input;
  at_fast = λ p. at_fast p.state;
  at_end = λ p. at_end p.state;
  answer_one = λ p. record p { state = answer_one p.state };
  pc = λ p. p.state.regs.pc;
  difference = λ p q. difference p.state q.state;
}

-- a state outside of every region
abbrev pub outside : MachineState → Place
outside s = record { state = s; inside = false }

-- the program of an image so, alone within the budget
abbrev pub program_fast : Image → List ℕ → ℕ → Ran Place End
program_fast i input budget = alone (fast_rv32 input) (outside (start_of i)) budget
