-- RV32IM with the services as a machine of the theory: its plain runs answer FastTrack by 0
use Rattle.std.specs.Prelude.{ℕ, false, List}
use Rattle.speculation.specs.Machine.{Machine}
use Rattle.guest_model.specs.Registers.{with_result}
use Rattle.guest_model.specs.MachineState.{MachineState}
use Rattle.guest_model.specs.Difference.{difference}
use Rattle.guest_model.specs.Step.{step, at_fast, at_end}
use Rattle.guest_model.specs.declared.end.End.{End}
use Rattle.guest_model.specs.declared.difference.Difference.{Difference}

-- the state behind an opening call that is answered by 1
abbrev pub answer_one : MachineState → MachineState
answer_one s = record s { regs = with_result s.regs 10 1 }

-- the machine with this input
abbrev pub rv32 : List ℕ → Machine MachineState End Difference
rv32 input = record {
  step = step false input;
  at_fast = at_fast;
  at_end = at_end;
  answer_one = answer_one;
  pc = λ s. s.regs.pc;
  difference = difference;
}
