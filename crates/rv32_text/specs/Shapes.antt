-- What may follow the start of a text: for each mnemonic the fields, and what stands between them
use Rattle.std.specs.Prelude.{◌≡◌, ℕ, Bool, true, false, List, [], codes}
use Rattle.guest_model.specs.InstructionTable.{instr}
use Rattle.guest_model.specs.declared.instr.Instr.{Instr}
use Rattle.rv32_asm.specs.Encoding.{is_shift, IsInRange}
use Rattle.rv32_text.specs.declared.digits.Digits.{Digits}
use Rattle.rv32_text.specs.declared.digits.Digits.TheVariants as Rows
use Rattle.rv32_text.specs.declared.fields.Offset.TheVariants as Offsets
use Rattle.rv32_text.specs.declared.fields.Field.{Field}
use Rattle.rv32_text.specs.declared.fields.Field.TheVariants as Fields
use Rattle.rv32_text.specs.declared.mnemonic.Mnemonic.{Mnemonic}
use Rattle.rv32_text.specs.declared.mnemonic.Mnemonic.TheVariants as Mnemonics
use Rattle.rv32_text.specs.Fields.{Fits, write_field}
use Rattle.rv32_text.specs.Hexadecimals.{HasDigits}
use Rattle.rv32_text.specs.Languages.{ended, rest, Joined, OneOf}
use Rattle.rv32_text.specs.Starts.{mnemonic_of, mnemonic_by}
use Rattle.rv32_text.specs.Texts.{hex_text, operands, operands_by}

-- a field, and what stands behind it
abbrev pub Operand : Field → List ℕ → List ℕ → Type 0
Operand field after = OneOf (Fits field) (write_field field) after

-- a register and a comma before the rest
abbrev pub RegisterAnd : (List ℕ → Type 0) → List ℕ → Type 0
RegisterAnd Rest = Joined (Operand Fields.Register (codes ", ")) Rest

-- the last field
abbrev pub Last : Field → List ℕ → Type 0
Last field = Operand field (ended [])

-- an offset, and a register in parentheses
abbrev pub OffsetAndRegister : List ℕ → Type 0
OffsetAndRegister = Joined (Operand (Fields.Offset Offsets.Short) (codes "(")) (Operand Fields.Register (ended (codes ")")))

-- the immediate of an operation, by whether it is a shift
abbrev pub immediate_field : Bool → Field
immediate_field true = Fields.Amount
immediate_field false = Fields.Offset Offsets.Short

-- a row of eight hexadecimal digits
abbrev pub Row : Digits → List ℕ → Type 0
Row digits = OneOf (HasDigits digits) (λ n. hex_text 8 n) (ended [])

-- nothing but the text's end
abbrev pub Nothing : List ℕ → Type 0
Nothing t = t ≡ ended []

abbrev pub Shape : Mnemonic → List ℕ → Type 0
Shape (Mnemonics.Upper op) = RegisterAnd (Last Fields.Upper)
Shape Mnemonics.Jal = RegisterAnd (Last (Fields.Offset Offsets.Jump))
Shape Mnemonics.Jalr = RegisterAnd (RegisterAnd (Last (Fields.Offset Offsets.Short)))
Shape (Mnemonics.Branch cond) = RegisterAnd (RegisterAnd (Last (Fields.Offset Offsets.Branch)))
Shape (Mnemonics.Load width) = RegisterAnd OffsetAndRegister
Shape (Mnemonics.Store width) = RegisterAnd OffsetAndRegister
Shape (Mnemonics.OpImm op) = RegisterAnd (RegisterAnd (Last (immediate_field (is_shift op))))
Shape (Mnemonics.Op op) = RegisterAnd (RegisterAnd (Last Fields.Register))
Shape Mnemonics.Fence = Row Rows.Fence
Shape Mnemonics.Ecall = Nothing
Shape Mnemonics.Ebreak = Nothing
Shape Mnemonics.Word = Row Rows.Word

-- what is left of the text behind `from` is what follows the mnemonic in the text of an instruction
pub record IsRead (mnemonic : Mnemonic) (text : List ℕ) (from : ℕ) (i : Instr) : Type 0 where
  pub in_range : IsInRange i
  pub mnemonic_is : mnemonic_of i ≡ mnemonic
  pub is : rest text from ≡ ended (operands i 0)

-- the same of a word
pub record IsWordRead (mnemonic : Mnemonic) (text : List ℕ) (from w : ℕ) : Type 0 where
  pub mnemonic_is : mnemonic_by (instr w) ≡ mnemonic
  pub is : rest text from ≡ ended (operands_by (instr w) w)
