-- The instruction table of RV32I and M (RISC-V Unprivileged ISA, chapter "RV32/64G Instruction Set Listings")
use Rattle.std.specs.Prelude.{◌≡◌, ℕ, ◌<◌, ◌==◌, if◌then◌else◌, pos, Option, Some, None, option_map}
use Rattle.guest_model.specs.Word.{opcode, rd, funct3, rs1, rs2, funct7, imm_i, imm_s, imm_b, imm_u, imm_j}
use Rattle.guest_model.specs.declared.instr.Instr.{Instr}
use Rattle.guest_model.specs.declared.instr.Instr.TheVariants.{Upper, Jal, Jalr, Branch, Load, Store, OpImm, Op, Fence, Ecall, Ebreak}
use Rattle.guest_model.specs.declared.instr.Cond.{Cond}
use Rattle.guest_model.specs.declared.instr.Cond.TheVariants as Conds
use Rattle.guest_model.specs.declared.instr.UpperOp.TheVariants.{Lui, Auipc}
use Rattle.guest_model.specs.declared.instr.LoadWidth.{LoadWidth}
use Rattle.guest_model.specs.declared.instr.LoadWidth.TheVariants as Loads
use Rattle.guest_model.specs.declared.instr.StoreWidth.{StoreWidth}
use Rattle.guest_model.specs.declared.instr.StoreWidth.TheVariants as Stores
use Rattle.guest_model.specs.declared.instr.ImmOp.{ImmOp}
use Rattle.guest_model.specs.declared.instr.ImmOp.TheVariants as ImmOps
use Rattle.guest_model.specs.declared.instr.RegOp.{RegOp}
use Rattle.guest_model.specs.declared.instr.RegOp.TheVariants as RegOps

-- the branches, by funct3
abbrev pub cond_of : ℕ → Option Cond
cond_of f =
    if f == 0 then Some Conds.Eq else (
    if f == 1 then Some Conds.Ne else (
    if f == 4 then Some Conds.Lt else (
    if f == 5 then Some Conds.Ge else (
    if f == 6 then Some Conds.Ltu else (
    if f == 7 then Some Conds.Geu else None)))))

-- the loads, by funct3
abbrev pub load_width_of : ℕ → Option LoadWidth
load_width_of f =
    if f == 0 then Some Loads.B else (
    if f == 1 then Some Loads.H else (
    if f == 2 then Some Loads.W else (
    if f == 4 then Some Loads.Bu else (
    if f == 5 then Some Loads.Hu else None))))

-- the stores, by funct3
abbrev pub store_width_of : ℕ → Option StoreWidth
store_width_of f =
    if f == 0 then Some Stores.B else (
    if f == 1 then Some Stores.H else (
    if f == 2 then Some Stores.W else None))

-- the operations with an immediate but for the shifts, by funct3
abbrev pub imm_op_of : ℕ → Option ImmOp
imm_op_of f =
    if f == 0 then Some ImmOps.Add else (
    if f == 2 then Some ImmOps.Slt else (
    if f == 3 then Some ImmOps.Sltu else (
    if f == 4 then Some ImmOps.Xor else (
    if f == 6 then Some ImmOps.Or else (
    if f == 7 then Some ImmOps.And else None)))))

-- the shifts by an immediate, by funct3 and funct7
abbrev pub shift_of : ℕ → ℕ → Option ImmOp
shift_of f g =
    if f == 1 then (if g == 0 then Some ImmOps.Sll else None) else (
    if f == 5 then (if g == 0 then Some ImmOps.Srl else (if g == 0x20 then Some ImmOps.Sra else None)) else None)

-- the operations on two registers with funct7 0
abbrev pub base_op_of : ℕ → Option RegOp
base_op_of f =
    if f == 0 then Some RegOps.Add else (
    if f == 1 then Some RegOps.Sll else (
    if f == 2 then Some RegOps.Slt else (
    if f == 3 then Some RegOps.Sltu else (
    if f == 4 then Some RegOps.Xor else (
    if f == 5 then Some RegOps.Srl else (
    if f == 6 then Some RegOps.Or else (
    if f == 7 then Some RegOps.And else None)))))))

-- those with funct7 0x20
abbrev pub other_op_of : ℕ → Option RegOp
other_op_of f =
    if f == 0 then Some RegOps.Sub else (
    if f == 5 then Some RegOps.Sra else None)

-- those with funct7 1: the M extension
abbrev pub product_op_of : ℕ → Option RegOp
product_op_of f =
    if f == 0 then Some RegOps.Mul else (
    if f == 1 then Some RegOps.Mulh else (
    if f == 2 then Some RegOps.Mulhsu else (
    if f == 3 then Some RegOps.Mulhu else (
    if f == 4 then Some RegOps.Div else (
    if f == 5 then Some RegOps.Divu else (
    if f == 6 then Some RegOps.Rem else (
    if f == 7 then Some RegOps.Remu else None)))))))

abbrev pub reg_op_of : ℕ → ℕ → Option RegOp
reg_op_of f g =
    if g == 0 then base_op_of f else (
    if g == 0x20 then other_op_of f else (
    if g == 1 then product_op_of f else None))

-- a shift takes its amount from the rs2 field
abbrev pub shift_row : ℕ → Option Instr
shift_row w = option_map (λ o. OpImm o (rd w) (rs1 w) (pos (rs2 w))) (shift_of (funct3 w) (funct7 w))

-- opcode 0x13
abbrev pub imm_row : ℕ → Option Instr
imm_row w =
    if funct3 w == 1 then shift_row w else (
    if funct3 w == 5 then shift_row w else
    option_map (λ o. OpImm o (rd w) (rs1 w) (imm_i w)) (imm_op_of (funct3 w)))

-- opcode 0x73: of the system words only these two
abbrev pub system_row : ℕ → Option Instr
system_row w = if w == 0x00000073 then Some Ecall else (if w == 0x00100073 then Some Ebreak else None)

abbrev pub jalr_row : ℕ → Option Instr
jalr_row w = if funct3 w == 0 then Some (Jalr (rd w) (rs1 w) (imm_i w)) else None

abbrev pub branch_row : ℕ → Option Instr
branch_row w = option_map (λ c. Branch c (rs1 w) (rs2 w) (imm_b w)) (cond_of (funct3 w))

abbrev pub load_row : ℕ → Option Instr
load_row w = option_map (λ x. Load x (rd w) (rs1 w) (imm_i w)) (load_width_of (funct3 w))

abbrev pub store_row : ℕ → Option Instr
store_row w = option_map (λ x. Store x (rs1 w) (rs2 w) (imm_s w)) (store_width_of (funct3 w))

abbrev pub op_row : ℕ → Option Instr
op_row w = option_map (λ x. Op x (rd w) (rs1 w) (rs2 w)) (reg_op_of (funct3 w) (funct7 w))

-- FENCE with any other fields; FENCE.I, with funct3 1, is none
abbrev pub fence_row : ℕ → Option Instr
fence_row w = if funct3 w == 0 then Some Fence else None

-- the rows by opcode
abbrev pub row_of : ℕ → ℕ → Option Instr
row_of o w =
    if o == 0x37 then Some (Upper Lui (rd w) (imm_u w)) else (
    if o == 0x17 then Some (Upper Auipc (rd w) (imm_u w)) else (
    if o == 0x6F then Some (Jal (rd w) (imm_j w)) else (
    if o == 0x67 then jalr_row w else (
    if o == 0x63 then branch_row w else (
    if o == 0x03 then load_row w else (
    if o == 0x23 then store_row w else (
    if o == 0x13 then imm_row w else (
    if o == 0x33 then op_row w else (
    if o == 0x0F then fence_row w else (
    if o == 0x73 then system_row w else None))))))))))

-- the instruction of a word, none where the word is illegal
abbrev pub instr : ℕ → Option Instr
instr w = row_of (opcode w) w

-- w is an encoding of i
abbrev pub IsEncoding : ℕ → Instr → Type 0
IsEncoding w i = instr w ≡ Some i

-- the registers that an instruction names are below 32
abbrev pub FieldsFit : Instr → Type 0
FieldsFit (Upper op rd imm) = rd < 32
FieldsFit (Jal rd offset) = rd < 32
FieldsFit (Jalr rd rs1 offset) = (rd < 32) × (rs1 < 32)
FieldsFit (Branch c rs1 rs2 offset) = (rs1 < 32) × (rs2 < 32)
FieldsFit (Load width rd rs1 offset) = (rd < 32) × (rs1 < 32)
FieldsFit (Store width rs1 rs2 offset) = (rs1 < 32) × (rs2 < 32)
FieldsFit (OpImm op rd rs1 imm) = (rd < 32) × (rs1 < 32)
FieldsFit (Op op rd rs1 rs2) = (rd < 32) × (rs1 < 32) × (rs2 < 32)
FieldsFit Fence = Unit {0}
FieldsFit Ecall = Unit {0}
FieldsFit Ebreak = Unit {0}
