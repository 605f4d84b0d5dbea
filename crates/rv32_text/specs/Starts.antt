-- How the texts of words begin: the mnemonics of the RISC-V Unprivileged ISA in lower case, each with one space behind it
-- where operands follow
use Rattle.std.specs.Prelude.{ℕ, Option, Some, None, List, codes}
use Rattle.guest_model.specs.declared.instr.Instr.{Instr}
use Rattle.guest_model.specs.declared.instr.Instr.TheVariants as Instrs
use Rattle.guest_model.specs.declared.instr.UpperOp.{UpperOp}
use Rattle.guest_model.specs.declared.instr.UpperOp.TheVariants.{Lui, Auipc}
use Rattle.guest_model.specs.declared.instr.Cond.{Cond}
use Rattle.guest_model.specs.declared.instr.Cond.TheVariants as Conds
use Rattle.guest_model.specs.declared.instr.LoadWidth.{LoadWidth}
use Rattle.guest_model.specs.declared.instr.LoadWidth.TheVariants as Loads
use Rattle.guest_model.specs.declared.instr.StoreWidth.{StoreWidth}
use Rattle.guest_model.specs.declared.instr.StoreWidth.TheVariants as Stores
use Rattle.guest_model.specs.declared.instr.ImmOp.{ImmOp}
use Rattle.guest_model.specs.declared.instr.ImmOp.TheVariants as ImmOps
use Rattle.guest_model.specs.declared.instr.RegOp.{RegOp}
use Rattle.guest_model.specs.declared.instr.RegOp.TheVariants as RegOps
use Rattle.rv32_text.specs.declared.mnemonic.Mnemonic.{Mnemonic}
use Rattle.rv32_text.specs.declared.mnemonic.Mnemonic.TheVariants as Mnemonics

abbrev pub upper_start : UpperOp → List ℕ
upper_start Lui = codes "lui "
upper_start Auipc = codes "auipc "

abbrev pub cond_start : Cond → List ℕ
cond_start Conds.Eq = codes "beq "
cond_start Conds.Ne = codes "bne "
cond_start Conds.Lt = codes "blt "
cond_start Conds.Ge = codes "bge "
cond_start Conds.Ltu = codes "bltu "
cond_start Conds.Geu = codes "bgeu "

abbrev pub load_start : LoadWidth → List ℕ
load_start Loads.B = codes "lb "
load_start Loads.H = codes "lh "
load_start Loads.W = codes "lw "
load_start Loads.Bu = codes "lbu "
load_start Loads.Hu = codes "lhu "

abbrev pub store_start : StoreWidth → List ℕ
store_start Stores.B = codes "sb "
store_start Stores.H = codes "sh "
store_start Stores.W = codes "sw "

abbrev pub imm_op_start : ImmOp → List ℕ
imm_op_start ImmOps.Add = codes "addi "
imm_op_start ImmOps.Slt = codes "slti "
imm_op_start ImmOps.Sltu = codes "sltiu "
imm_op_start ImmOps.Xor = codes "xori "
imm_op_start ImmOps.Or = codes "ori "
imm_op_start ImmOps.And = codes "andi "
imm_op_start ImmOps.Sll = codes "slli "
imm_op_start ImmOps.Srl = codes "srli "
imm_op_start ImmOps.Sra = codes "srai "

abbrev pub reg_op_start : RegOp → List ℕ
reg_op_start RegOps.Add = codes "add "
reg_op_start RegOps.Sub = codes "sub "
reg_op_start RegOps.Sll = codes "sll "
reg_op_start RegOps.Slt = codes "slt "
reg_op_start RegOps.Sltu = codes "sltu "
reg_op_start RegOps.Xor = codes "xor "
reg_op_start RegOps.Srl = codes "srl "
reg_op_start RegOps.Sra = codes "sra "
reg_op_start RegOps.Or = codes "or "
reg_op_start RegOps.And = codes "and "
reg_op_start RegOps.Mul = codes "mul "
reg_op_start RegOps.Mulh = codes "mulh "
reg_op_start RegOps.Mulhsu = codes "mulhsu "
reg_op_start RegOps.Mulhu = codes "mulhu "
reg_op_start RegOps.Div = codes "div "
reg_op_start RegOps.Divu = codes "divu "
reg_op_start RegOps.Rem = codes "rem "
reg_op_start RegOps.Remu = codes "remu "

abbrev pub start_of : Mnemonic → List ℕ
start_of (Mnemonics.Upper op) = upper_start op
start_of Mnemonics.Jal = codes "jal "
start_of Mnemonics.Jalr = codes "jalr "
start_of (Mnemonics.Branch cond) = cond_start cond
start_of (Mnemonics.Load width) = load_start width
start_of (Mnemonics.Store width) = store_start width
start_of (Mnemonics.OpImm op) = imm_op_start op
start_of (Mnemonics.Op op) = reg_op_start op
start_of Mnemonics.Fence = codes "fence "
start_of Mnemonics.Ecall = codes "ecall"
start_of Mnemonics.Ebreak = codes "ebreak"
start_of Mnemonics.Word = codes "word "

-- the mnemonic of an instruction
abbrev pub mnemonic_of : Instr → Mnemonic
mnemonic_of (Instrs.Upper op rd imm) = Mnemonics.Upper op
mnemonic_of (Instrs.Jal rd offset) = Mnemonics.Jal
mnemonic_of (Instrs.Jalr rd rs1 offset) = Mnemonics.Jalr
mnemonic_of (Instrs.Branch cond rs1 rs2 offset) = Mnemonics.Branch cond
mnemonic_of (Instrs.Load width rd rs1 offset) = Mnemonics.Load width
mnemonic_of (Instrs.Store width rs1 rs2 offset) = Mnemonics.Store width
mnemonic_of (Instrs.OpImm op rd rs1 imm) = Mnemonics.OpImm op
mnemonic_of (Instrs.Op op rd rs1 rs2) = Mnemonics.Op op
mnemonic_of Instrs.Fence = Mnemonics.Fence
mnemonic_of Instrs.Ecall = Mnemonics.Ecall
mnemonic_of Instrs.Ebreak = Mnemonics.Ebreak

-- the mnemonic of a word whose row in the instruction table is given
abbrev pub mnemonic_by : Option Instr → Mnemonic
mnemonic_by None = Mnemonics.Word
mnemonic_by (Some i) = mnemonic_of i
