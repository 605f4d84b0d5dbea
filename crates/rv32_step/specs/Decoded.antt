-- Instructions in a form that has one code for each operation
use Rattle.std.specs.Prelude.{ℕ, ℤ}
use Rattle.guest_model.specs.Word.{word_of}
use Rattle.guest_model.specs.declared.instr.Instr.{Instr}
use Rattle.guest_model.specs.declared.instr.Instr.TheVariants.{Upper, Jal, Jalr, Branch, Load, Store, OpImm, Op, Fence, Ecall, Ebreak}
use Rattle.guest_model.specs.declared.instr.UpperOp.TheVariants as U
use Rattle.guest_model.specs.declared.instr.Cond.TheVariants as C
use Rattle.guest_model.specs.declared.instr.LoadWidth.TheVariants as L
use Rattle.guest_model.specs.declared.instr.StoreWidth.TheVariants as S
use Rattle.guest_model.specs.declared.instr.ImmOp.TheVariants as I
use Rattle.guest_model.specs.declared.instr.RegOp.TheVariants as R
use Rattle.rv32_step.specs.declared.operation.Operation.{Operation}
use Rattle.rv32_step.specs.declared.operation.Operation.TheVariants as O
use Rattle.rv32_step.specs.declared.decoded.Decoded.{Decoded}

-- The instruction of an operation, whose fields are read where it has them. The immediate of LUI and AUIPC is a word.
abbrev pub by_operation : Operation → (rd rs1 rs2 : ℕ) → ℤ → Instr
by_operation O.Lui rd rs1 rs2 imm = Upper U.Lui rd (word_of imm)
by_operation O.Auipc rd rs1 rs2 imm = Upper U.Auipc rd (word_of imm)
by_operation O.Jal rd rs1 rs2 imm = Jal rd imm
by_operation O.Jalr rd rs1 rs2 imm = Jalr rd rs1 imm
by_operation O.Beq rd rs1 rs2 imm = Branch C.Eq rs1 rs2 imm
by_operation O.Bne rd rs1 rs2 imm = Branch C.Ne rs1 rs2 imm
by_operation O.Blt rd rs1 rs2 imm = Branch C.Lt rs1 rs2 imm
by_operation O.Bge rd rs1 rs2 imm = Branch C.Ge rs1 rs2 imm
by_operation O.Bltu rd rs1 rs2 imm = Branch C.Ltu rs1 rs2 imm
by_operation O.Bgeu rd rs1 rs2 imm = Branch C.Geu rs1 rs2 imm
by_operation O.Lb rd rs1 rs2 imm = Load L.B rd rs1 imm
by_operation O.Lh rd rs1 rs2 imm = Load L.H rd rs1 imm
by_operation O.Lw rd rs1 rs2 imm = Load L.W rd rs1 imm
by_operation O.Lbu rd rs1 rs2 imm = Load L.Bu rd rs1 imm
by_operation O.Lhu rd rs1 rs2 imm = Load L.Hu rd rs1 imm
by_operation O.Sb rd rs1 rs2 imm = Store S.B rs1 rs2 imm
by_operation O.Sh rd rs1 rs2 imm = Store S.H rs1 rs2 imm
by_operation O.Sw rd rs1 rs2 imm = Store S.W rs1 rs2 imm
by_operation O.Addi rd rs1 rs2 imm = OpImm I.Add rd rs1 imm
by_operation O.Slti rd rs1 rs2 imm = OpImm I.Slt rd rs1 imm
by_operation O.Sltiu rd rs1 rs2 imm = OpImm I.Sltu rd rs1 imm
by_operation O.Xori rd rs1 rs2 imm = OpImm I.Xor rd rs1 imm
by_operation O.Ori rd rs1 rs2 imm = OpImm I.Or rd rs1 imm
by_operation O.Andi rd rs1 rs2 imm = OpImm I.And rd rs1 imm
by_operation O.Slli rd rs1 rs2 imm = OpImm I.Sll rd rs1 imm
by_operation O.Srli rd rs1 rs2 imm = OpImm I.Srl rd rs1 imm
by_operation O.Srai rd rs1 rs2 imm = OpImm I.Sra rd rs1 imm
by_operation O.Add rd rs1 rs2 imm = Op R.Add rd rs1 rs2
by_operation O.Sub rd rs1 rs2 imm = Op R.Sub rd rs1 rs2
by_operation O.Sll rd rs1 rs2 imm = Op R.Sll rd rs1 rs2
by_operation O.Slt rd rs1 rs2 imm = Op R.Slt rd rs1 rs2
by_operation O.Sltu rd rs1 rs2 imm = Op R.Sltu rd rs1 rs2
by_operation O.Xor rd rs1 rs2 imm = Op R.Xor rd rs1 rs2
by_operation O.Srl rd rs1 rs2 imm = Op R.Srl rd rs1 rs2
by_operation O.Sra rd rs1 rs2 imm = Op R.Sra rd rs1 rs2
by_operation O.Or rd rs1 rs2 imm = Op R.Or rd rs1 rs2
by_operation O.And rd rs1 rs2 imm = Op R.And rd rs1 rs2
by_operation O.Mul rd rs1 rs2 imm = Op R.Mul rd rs1 rs2
by_operation O.Mulh rd rs1 rs2 imm = Op R.Mulh rd rs1 rs2
by_operation O.Mulhsu rd rs1 rs2 imm = Op R.Mulhsu rd rs1 rs2
by_operation O.Mulhu rd rs1 rs2 imm = Op R.Mulhu rd rs1 rs2
by_operation O.Div rd rs1 rs2 imm = Op R.Div rd rs1 rs2
by_operation O.Divu rd rs1 rs2 imm = Op R.Divu rd rs1 rs2
by_operation O.Rem rd rs1 rs2 imm = Op R.Rem rd rs1 rs2
by_operation O.Remu rd rs1 rs2 imm = Op R.Remu rd rs1 rs2
by_operation O.Fence rd rs1 rs2 imm = Fence
by_operation O.Ecall rd rs1 rs2 imm = Ecall
by_operation O.Ebreak rd rs1 rs2 imm = Ebreak

-- the instruction that this form stands for
abbrev pub instr_of : Decoded → Instr
instr_of d = by_operation d.operation d.rd d.rs1 d.rs2 d.imm
