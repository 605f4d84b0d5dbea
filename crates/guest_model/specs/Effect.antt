-- What each instruction does (RISC-V Unprivileged ISA, chapters RV32I and M). Every instruction but ECALL gives the
-- next state or one trap, which changes nothing.
use Rattle.std.specs.Prelude.{ℕ, ◌%◌, ◌/◌, ◌*◌, ◌^◌, Bool, ◌==◌, if◌then◌else◌, ℤ, List, [], ◌∷◌, Option, Some, None, Result, Ok, Err, option_map}
use Rattle.std.specs.Int.{w8, w16, w32, to_le_bytes}
use Rattle.guest_model.specs.Word.{word_of, sum, sign_extend}
use Rattle.guest_model.specs.Arithmetic.{imm_value, op_value, taken, upper_value}
use Rattle.guest_model.specs.ByteMap.{ByteMap, mapped, load, write}
use Rattle.guest_model.specs.Registers.{RegFile, reg, with_reg, with_pc, next, with_result}
use Rattle.guest_model.specs.MachineState.{MachineState}
use Rattle.guest_model.specs.declared.end.Trap.{Trap}
use Rattle.guest_model.specs.declared.end.Trap.TheVariants.{Misaligned, Breakpoint, LoadUnmapped, StoreUnmapped}
use Rattle.guest_model.specs.declared.instr.Instr.{Instr}
use Rattle.guest_model.specs.declared.instr.Instr.TheVariants.{Upper, Jal, Jalr, Branch, Load, Store, OpImm, Op, Ebreak}
use Rattle.guest_model.specs.declared.instr.LoadWidth.{LoadWidth}
use Rattle.guest_model.specs.declared.instr.LoadWidth.TheVariants as L
use Rattle.guest_model.specs.declared.instr.StoreWidth.{StoreWidth}
use Rattle.guest_model.specs.declared.instr.StoreWidth.TheVariants as S

-- a jump, whose target has to be a multiple of 4; rd gets the address of the next instruction
abbrev pub jump : RegFile → ℕ → ℕ → Result RegFile Trap
jump f rd target = if target % 4 == 0 then Ok (with_pc (with_reg f rd (next f)) target) else Err Misaligned

-- a branch that isn't taken never traps
abbrev pub branch : RegFile → Bool → ℕ → Result RegFile Trap
branch f b target = if b then jump f 0 target else Ok (with_pc f (next f))

-- the address of a load, of a store or of a jump through a register
abbrev pub address : RegFile → ℕ → ℤ → ℕ
address f rs1 offset = sum (reg f rs1) (word_of offset)

abbrev pub load_value : LoadWidth → ByteMap → ℕ → Option ℕ
load_value L.B m a = option_map (λ v. word_of (sign_extend 8 v)) (load w8 m a)
load_value L.H m a = option_map (λ v. word_of (sign_extend 16 v)) (load w16 m a)
load_value L.W m a = load w32 m a
load_value L.Bu m a = load w8 m a
load_value L.Hu m a = load w16 m a

abbrev pub load_effect : RegFile → ℕ → Option ℕ → Result RegFile Trap
load_effect f rd None = Err LoadUnmapped
load_effect f rd (Some v) = Ok (with_result f rd v)

-- the low bytes of a word that a store writes, the lowest first
abbrev pub store_bytes : StoreWidth → ℕ → List ℕ
store_bytes S.B v = (v % 2 ^ 8) ∷ []
store_bytes S.H v = to_le_bytes w16 (v % 2 ^ 16)
store_bytes S.W v = to_le_bytes w32 v

abbrev pub store_len : StoreWidth → ℕ
store_len S.B = 1
store_len S.H = 2
store_len S.W = 4

-- the instructions that change registers alone, with the memory that they read
abbrev pub regs_effect : Instr → RegFile → ByteMap → Result RegFile Trap
regs_effect (Upper op rd imm) f m = Ok (with_result f rd (upper_value op f.pc imm))
regs_effect (Jal rd offset) f m = jump f rd (sum f.pc (word_of offset))
regs_effect (Jalr rd rs1 offset) f m = jump f rd (address f rs1 offset / 2 * 2)
regs_effect (Branch c rs1 rs2 offset) f m = branch f (taken c (reg f rs1) (reg f rs2)) (sum f.pc (word_of offset))
regs_effect (Load width rd rs1 offset) f m = load_effect f rd (load_value width m (address f rs1 offset))
regs_effect (OpImm op rd rs1 imm) f m = Ok (with_result f rd (imm_value op (reg f rs1) imm))
regs_effect (Op op rd rs1 rs2) f m = Ok (with_result f rd (op_value op (reg f rs1) (reg f rs2)))
regs_effect Ebreak f m = Err Breakpoint
regs_effect _ f m = Ok (with_pc f (next f))

abbrev pub store_effect : StoreWidth → ℕ → ℕ → MachineState → Result MachineState Trap
store_effect width a v s =
    if mapped s.memory a (store_len width)
    then Ok (record s { regs = with_pc s.regs (next s.regs); memory = write s.memory a (store_bytes width v) })
    else Err StoreUnmapped

abbrev pub with_regs : MachineState → Result RegFile Trap → Result MachineState Trap
with_regs s (Ok f) = Ok (record s { regs = f })
with_regs s (Err t) = Err t

-- the effect of every instruction but ECALL
abbrev pub effect : Instr → MachineState → Result MachineState Trap
effect (Store width rs1 rs2 offset) s = store_effect width (address s.regs rs1 offset) (reg s.regs rs2) s
effect i s = with_regs s (regs_effect i s.regs s.memory)
