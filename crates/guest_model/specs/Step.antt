-- One instruction: fetch, decode, effect or service; and the calls that open and close a dual region
use Rattle.std.specs.Prelude.{ℕ, Bool, false, ◌&&◌, ◌==◌, List, [], Option, Some, None, Result, Ok, Err}
use Rattle.std.specs.Int.{w32}
use Rattle.speculation.specs.Machine.{Next, Ends}
use Rattle.guest_model.specs.ByteMap.{load}
use Rattle.guest_model.specs.Registers.{reg}
use Rattle.guest_model.specs.MachineState.{MachineState}
use Rattle.guest_model.specs.InstructionTable.{instr}
use Rattle.guest_model.specs.Effect.{effect}
use Rattle.guest_model.specs.Service.{Outcome, service}
use Rattle.guest_model.specs.declared.end.End.TheVariants as E
use Rattle.guest_model.specs.declared.end.Trap.{Trap}
use Rattle.guest_model.specs.declared.end.Trap.TheVariants.{FetchUnmapped, Illegal}
use Rattle.guest_model.specs.declared.instr.Instr.{Instr}
use Rattle.guest_model.specs.declared.instr.Instr.TheVariants.{Ecall}

-- an effect as the outcome of a step; a trap ends the program and names the pc of its instruction
abbrev pub after_effect : ℕ → Result MachineState Trap → Outcome
after_effect pc (Ok s) = Next s 1 []
after_effect pc (Err t) = Ends (E.Trap t pc)

abbrev pub step_instr : Bool → List ℕ → MachineState → Instr → Outcome
step_instr fast input s Ecall = service fast input s
step_instr fast input s i = after_effect s.regs.pc (effect i s)

-- a word that the table doesn't have is illegal
abbrev pub step_row : Bool → List ℕ → MachineState → Option Instr → Outcome
step_row fast input s None = Ends (E.Trap Illegal s.regs.pc)
step_row fast input s (Some i) = step_instr fast input s i

abbrev pub step_word : Bool → List ℕ → MachineState → Option ℕ → Outcome
step_word fast input s None = Ends (E.Trap FetchUnmapped s.regs.pc)
step_word fast input s (Some w) = step_row fast input s (instr w)

-- one instruction, with the word at pc as memory is now
unfoldable pub step : Bool → List ℕ → MachineState → Outcome
step fast input s = step_word fast input s (load w32 s.memory s.regs.pc)

-- the word is there and is ECALL
abbrev pub is_ecall : Option ℕ → Bool
is_ecall None = false
is_ecall (Some w) = w == 0x00000073

-- the state is at the call of this number
abbrev pub at_call : ℕ → MachineState → Bool
at_call number s = is_ecall (load w32 s.memory s.regs.pc) && (reg s.regs 17 == number)

-- at FastTrack, the call that opens a region
unfoldable pub at_fast : MachineState → Bool
at_fast s = at_call 2000 s

-- at EndDualTrack, the call that closes a region
unfoldable pub at_end : MachineState → Bool
at_end s = at_call 2001 s
