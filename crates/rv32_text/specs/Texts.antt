-- The text of a word: its instruction in assembly language, or `word` and the word itself where it has none
use Rattle.std.specs.Prelude.{ℕ, zero, suc, ◌/◌, ◌%◌, ◌^◌, Option, Some, None, List, [], ◌∷◌, ◌++◌, codes, decimal}
use Rattle.std.specs.Fmt.{signed_decimal}
use Rattle.guest_model.specs.InstructionTable.{instr}
use Rattle.guest_model.specs.declared.instr.Instr.{Instr}
use Rattle.guest_model.specs.declared.instr.Instr.TheVariants.{Upper, Jal, Jalr, Branch, Load, Store, OpImm, Op, Fence, Ecall, Ebreak}
use Rattle.report_text.specs.Texts.{hex_digit}
use Rattle.rv32_text.specs.Starts.{start_of, mnemonic_by}

-- the lowest k hexadecimal digits of a number, the highest of them first
abbrev pub hex_text : ℕ → ℕ → List ℕ
hex_text zero n = []
hex_text (suc k) n = hex_text k (n / 16) ++ (hex_digit (n % 16) ∷ [])

-- a register: `x0` to `x31`
abbrev pub register : ℕ → List ℕ
register r = codes "x" ++ decimal r

-- What follows the start of an instruction's text. Offsets and immediates are signed decimal numbers; the immediate of
-- LUI and AUIPC is written by its bits 31 to 12. FENCE is written by its word w, since its fields mean nothing.
abbrev pub operands : Instr → ℕ → List ℕ
operands (Upper op rd imm) w = register rd ++ (codes ", " ++ hex_text 5 (imm / 2 ^ 12))
operands (Jal rd offset) w = register rd ++ (codes ", " ++ signed_decimal offset)
operands (Jalr rd rs1 offset) w = register rd ++ (codes ", " ++ (register rs1 ++ (codes ", " ++ signed_decimal offset)))
operands (Branch cond rs1 rs2 offset) w = register rs1 ++ (codes ", " ++ (register rs2 ++ (codes ", " ++ signed_decimal offset)))
operands (Load width rd rs1 offset) w = register rd ++ (codes ", " ++ (signed_decimal offset ++ (codes "(" ++ (register rs1 ++ codes ")"))))
operands (Store width rs1 rs2 offset) w = register rs2 ++ (codes ", " ++ (signed_decimal offset ++ (codes "(" ++ (register rs1 ++ codes ")"))))
operands (OpImm op rd rs1 imm) w = register rd ++ (codes ", " ++ (register rs1 ++ (codes ", " ++ signed_decimal imm)))
operands (Op op rd rs1 rs2) w = register rd ++ (codes ", " ++ (register rs1 ++ (codes ", " ++ register rs2)))
operands Fence w = hex_text 8 w
operands Ecall w = []
operands Ebreak w = []

-- the same for a word whose row in the instruction table is given
abbrev pub operands_by : Option Instr → ℕ → List ℕ
operands_by None w = hex_text 8 w
operands_by (Some i) w = operands i w

-- the text of a word
abbrev pub text_of : ℕ → List ℕ
text_of w = start_of (mnemonic_by (instr w)) ++ operands_by (instr w) w
