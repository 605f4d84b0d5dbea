-- The fields of instructions in texts: registers, offsets and immediates
use Rattle.std.specs.Prelude.{ℕ, zero, suc, true, false, List, ◌++◌, codes, ℤ, pos, negsuc, ◌≤ℤ◌}
use Rattle.std.specs.Fmt.{signed_decimal}
use Rattle.rv32_asm.specs.Encoding.{IsShortOffset, IsBranchOffset, IsJumpOffset, IsShiftAmount}
use Rattle.rv32_text.specs.declared.fields.Offset.{Offset}
use Rattle.rv32_text.specs.declared.fields.Offset.TheVariants as Offsets
use Rattle.rv32_text.specs.declared.fields.Field.{Field}
use Rattle.rv32_text.specs.declared.fields.Field.TheVariants as Fields
use Rattle.rv32_text.specs.declared.number.Range.{Range}
use Rattle.rv32_text.specs.Texts.{hex_text}

abbrev pub IsOffset : Offset → ℤ → Type 0
IsOffset Offsets.Short z = IsShortOffset z
IsOffset Offsets.Branch z = IsBranchOffset z
IsOffset Offsets.Jump z = IsJumpOffset z

-- the values of a field; a register is its number, an upper immediate its bits 31 to 12
abbrev pub Fits : Field → ℤ → Type 0
Fits Fields.Register z = IsShiftAmount z
Fits Fields.Amount z = IsShiftAmount z
Fits (Fields.Offset offset) z = IsOffset offset z
Fits Fields.Upper z = (pos 0 ≤ℤ z) × (z ≤ℤ pos 1048575)

abbrev pub natural : ℤ → ℕ
natural (pos n) = n
natural (negsuc n) = 0

abbrev pub write_field : Field → ℤ → List ℕ
write_field Fields.Register z = codes "x" ++ signed_decimal z
write_field Fields.Amount z = signed_decimal z
write_field (Fields.Offset offset) z = signed_decimal z
write_field Fields.Upper z = hex_text 5 (natural z)

-- what an offset without a sign can be
abbrev pub positive_range : Offset → Range
positive_range Offsets.Short = record { least = 0; greatest = 2047; even = false }
positive_range Offsets.Branch = record { least = 0; greatest = 4095; even = true }
positive_range Offsets.Jump = record { least = 0; greatest = 1048575; even = true }

-- and what can stand behind a minus sign
abbrev pub negative_range : Offset → Range
negative_range Offsets.Short = record { least = 1; greatest = 2048; even = false }
negative_range Offsets.Branch = record { least = 1; greatest = 4096; even = true }
negative_range Offsets.Jump = record { least = 1; greatest = 1048576; even = true }

-- a number with a minus sign
abbrev pub minus : ℕ → ℤ
minus zero = pos 0
minus (suc n) = negsuc n
