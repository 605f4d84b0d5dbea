-- The words of instructions (RISC-V Unprivileged ISA, chapter RV32I, "Base Instruction Formats" and "Immediate Encoding
-- Variants"; chapter "RV32/64G Instruction Set Listings")
use Rattle.std.specs.Prelude.{◌≡◌, ℕ, ◌+◌, ◌*◌, ◌%◌, ◌^◌, ◌<◌, Bool, true, false, ℤ, pos, negsuc, ◌≤ℤ◌, MatchBool}
use Rattle.guest_model.specs.Word.{field, word_of}
use Rattle.guest_model.specs.declared.instr.Instr.{Instr}
use Rattle.guest_model.specs.declared.instr.Instr.TheVariants.{Upper, Jal, Jalr, Branch, Load, Store, OpImm, Op, Fence, Ecall, Ebreak}
use Rattle.guest_model.specs.declared.instr.Cond.{Cond}
use Rattle.guest_model.specs.declared.instr.Cond.TheVariants as Conds
use Rattle.guest_model.specs.declared.instr.UpperOp.{UpperOp}
use Rattle.guest_model.specs.declared.instr.UpperOp.TheVariants.{Lui, Auipc}
use Rattle.guest_model.specs.declared.instr.LoadWidth.{LoadWidth}
use Rattle.guest_model.specs.declared.instr.LoadWidth.TheVariants as Loads
use Rattle.guest_model.specs.declared.instr.StoreWidth.{StoreWidth}
use Rattle.guest_model.specs.declared.instr.StoreWidth.TheVariants as Stores
use Rattle.guest_model.specs.declared.instr.ImmOp.{ImmOp}
use Rattle.guest_model.specs.declared.instr.ImmOp.TheVariants as ImmOps
use Rattle.guest_model.specs.declared.instr.RegOp.{RegOp}
use Rattle.guest_model.specs.declared.instr.RegOp.TheVariants as RegOps

-- ---- the formats: opcode, funct3, the fields of a format in the order of the assembly language; an immediate is given
-- as a word, of which a format has the bits that it names

-- funct7 last
abbrev pub r_type : ℕ → ℕ → ℕ → ℕ → ℕ → ℕ → ℕ
r_type opcode funct3 rd rs1 rs2 funct7 =
    opcode + rd * 2 ^ 7 + funct3 * 2 ^ 12 + rs1 * 2 ^ 15 + rs2 * 2 ^ 20 + funct7 * 2 ^ 25

abbrev pub i_type : ℕ → ℕ → ℕ → ℕ → ℕ → ℕ
i_type opcode funct3 rd rs1 imm =
    opcode + rd * 2 ^ 7 + funct3 * 2 ^ 12 + rs1 * 2 ^ 15 + field 11 0 imm * 2 ^ 20

abbrev pub s_type : ℕ → ℕ → ℕ → ℕ → ℕ → ℕ
s_type opcode funct3 rs1 rs2 imm =
    opcode + field 4 0 imm * 2 ^ 7 + funct3 * 2 ^ 12 + rs1 * 2 ^ 15 + rs2 * 2 ^ 20 + field 11 5 imm * 2 ^ 25

abbrev pub b_type : ℕ → ℕ → ℕ → ℕ → ℕ → ℕ
b_type opcode funct3 rs1 rs2 imm =
    opcode + field 11 11 imm * 2 ^ 7 + field 4 1 imm * 2 ^ 8 + funct3 * 2 ^ 12 + rs1 * 2 ^ 15 + rs2 * 2 ^ 20
    + field 10 5 imm * 2 ^ 25 + field 12 12 imm * 2 ^ 31

abbrev pub u_type : ℕ → ℕ → ℕ → ℕ
u_type opcode rd imm = opcode + rd * 2 ^ 7 + field 31 12 imm * 2 ^ 12

abbrev pub j_type : ℕ → ℕ → ℕ → ℕ
j_type opcode rd imm =
    opcode + rd * 2 ^ 7 + field 19 12 imm * 2 ^ 12 + field 11 11 imm * 2 ^ 20 + field 10 1 imm * 2 ^ 21 + field 20 20 imm * 2 ^ 31

-- ---- the codes of operations

abbrev pub upper_opcode : UpperOp → ℕ
upper_opcode Lui = 0x37
upper_opcode Auipc = 0x17

-- funct3 of a branch
abbrev pub cond_code : Cond → ℕ
cond_code Conds.Eq = 0
cond_code Conds.Ne = 1
cond_code Conds.Lt = 4
cond_code Conds.Ge = 5
cond_code Conds.Ltu = 6
cond_code Conds.Geu = 7

-- funct3 of a load
abbrev pub load_code : LoadWidth → ℕ
load_code Loads.B = 0
load_code Loads.H = 1
load_code Loads.W = 2
load_code Loads.Bu = 4
load_code Loads.Hu = 5

-- funct3 of a store
abbrev pub store_code : StoreWidth → ℕ
store_code Stores.B = 0
store_code Stores.H = 1
store_code Stores.W = 2

-- funct3 of an operation with an immediate
abbrev pub imm_op_code : ImmOp → ℕ
imm_op_code ImmOps.Add = 0
imm_op_code ImmOps.Slt = 2
imm_op_code ImmOps.Sltu = 3
imm_op_code ImmOps.Xor = 4
imm_op_code ImmOps.Or = 6
imm_op_code ImmOps.And = 7
imm_op_code ImmOps.Sll = 1
imm_op_code ImmOps.Srl = 5
imm_op_code ImmOps.Sra = 5

-- a shift's immediate is its amount below funct7, which is 0x20 for an arithmetic shift
abbrev pub shift_kind : ImmOp → ℕ
shift_kind ImmOps.Sra = 0x20 * 2 ^ 5
shift_kind _ = 0

-- funct3 of an operation on two registers
abbrev pub reg_op_code : RegOp → ℕ
reg_op_code RegOps.Add = 0
reg_op_code RegOps.Sub = 0
reg_op_code RegOps.Sll = 1
reg_op_code RegOps.Slt = 2
reg_op_code RegOps.Sltu = 3
reg_op_code RegOps.Xor = 4
reg_op_code RegOps.Srl = 5
reg_op_code RegOps.Sra = 5
reg_op_code RegOps.Or = 6
reg_op_code RegOps.And = 7
reg_op_code RegOps.Mul = 0
reg_op_code RegOps.Mulh = 1
reg_op_code RegOps.Mulhsu = 2
reg_op_code RegOps.Mulhu = 3
reg_op_code RegOps.Div = 4
reg_op_code RegOps.Divu = 5
reg_op_code RegOps.Rem = 6
reg_op_code RegOps.Remu = 7

-- its funct7: 1 is the M extension
abbrev pub reg_op_kind : RegOp → ℕ
reg_op_kind RegOps.Sub = 0x20
reg_op_kind RegOps.Sra = 0x20
reg_op_kind RegOps.Mul = 1
reg_op_kind RegOps.Mulh = 1
reg_op_kind RegOps.Mulhsu = 1
reg_op_kind RegOps.Mulhu = 1
reg_op_kind RegOps.Div = 1
reg_op_kind RegOps.Divu = 1
reg_op_kind RegOps.Rem = 1
reg_op_kind RegOps.Remu = 1
reg_op_kind _ = 0

-- ---- the word of an instruction

-- FENCE is written with its other fields 0.
abbrev pub encoding : Instr → ℕ
encoding (Upper op rd imm) = u_type (upper_opcode op) rd imm
encoding (Jal rd offset) = j_type 0x6F rd (word_of offset)
encoding (Jalr rd rs1 offset) = i_type 0x67 0 rd rs1 (word_of offset)
encoding (Branch cond rs1 rs2 offset) = b_type 0x63 (cond_code cond) rs1 rs2 (word_of offset)
encoding (Load width rd rs1 offset) = i_type 0x03 (load_code width) rd rs1 (word_of offset)
encoding (Store width rs1 rs2 offset) = s_type 0x23 (store_code width) rs1 rs2 (word_of offset)
encoding (OpImm op rd rs1 imm) = i_type 0x13 (imm_op_code op) rd rs1 (word_of imm + shift_kind op)
encoding (Op op rd rs1 rs2) = r_type 0x33 (reg_op_code op) rd rs1 rs2 (reg_op_kind op)
encoding Fence = 0x0000000F
encoding Ecall = 0x00000073
encoding Ebreak = 0x00100073

-- ---- fields in range

-- the immediate of 12 bits of loads, stores, JALR and most operations
abbrev pub IsShortOffset : ℤ → Type 0
IsShortOffset z = (negsuc 2047 ≤ℤ z) × (z ≤ℤ pos 2047)

-- the offset of a branch: even, within 4 KiB
abbrev pub IsBranchOffset : ℤ → Type 0
IsBranchOffset z = (negsuc 4095 ≤ℤ z) × (z ≤ℤ pos 4095) × (word_of z % 2 ≡ 0)

-- the offset of JAL: even, within 1 MiB
abbrev pub IsJumpOffset : ℤ → Type 0
IsJumpOffset z = (negsuc 1048575 ≤ℤ z) × (z ≤ℤ pos 1048575) × (word_of z % 2 ≡ 0)

-- the amount of a shift by an immediate
abbrev pub IsShiftAmount : ℤ → Type 0
IsShiftAmount z = (pos 0 ≤ℤ z) × (z ≤ℤ pos 31)

abbrev pub is_shift : ImmOp → Bool
is_shift ImmOps.Sll = true
is_shift ImmOps.Srl = true
is_shift ImmOps.Sra = true
is_shift _ = false

-- the registers of an instruction are below 32, and its immediate is one that its format can give
abbrev pub IsInRange : Instr → Type 0
IsInRange (Upper op rd imm) = (rd < 32) × (imm < 2 ^ 32) × (imm % 2 ^ 12 ≡ 0)
IsInRange (Jal rd offset) = (rd < 32) × IsJumpOffset offset
IsInRange (Jalr rd rs1 offset) = (rd < 32) × (rs1 < 32) × IsShortOffset offset
IsInRange (Branch cond rs1 rs2 offset) = (rs1 < 32) × (rs2 < 32) × IsBranchOffset offset
IsInRange (Load width rd rs1 offset) = (rd < 32) × (rs1 < 32) × IsShortOffset offset
IsInRange (Store width rs1 rs2 offset) = (rs1 < 32) × (rs2 < 32) × IsShortOffset offset
IsInRange (OpImm op rd rs1 imm) = (rd < 32) × (rs1 < 32) × MatchBool (is_shift op) (IsShiftAmount imm) (IsShortOffset imm)
IsInRange (Op op rd rs1 rs2) = (rd < 32) × (rs1 < 32) × (rs2 < 32)
IsInRange Fence = Unit {0}
IsInRange Ecall = Unit {0}
IsInRange Ebreak = Unit {0}
