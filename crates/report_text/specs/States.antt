-- The lines of a program's state after a number of instructions
use Rattle.std.specs.Prelude.{ℕ, zero, suc, ◌+◌, List, [], ◌∷◌, ◌++◌, Option, Some, None, if◌then◌else◌, codes}
use Rattle.std.specs.List.{flat_map}
use Rattle.guest_model.specs.ByteMap.{ByteMap, mapped, bytes_from}
use Rattle.guest_model.specs.Registers.{RegFile, reg}
use Rattle.guest_model.specs.MachineState.{MachineState}
use Rattle.guest_model.specs.declared.end.End.{End}
use Rattle.report_text.specs.Texts.{byte_text, address_text}
use Rattle.report_text.specs.Reports.{named, end_line}

-- register r and its value
abbrev pub register_text : RegFile → ℕ → List ℕ
register_text f r = named (codes "x") r (codes " " ++ address_text (reg f r))

-- x1 and the n registers behind it, parted by spaces
unfoldable pub registers_text : RegFile → ℕ → List ℕ
registers_text f zero = codes "x1 " ++ address_text (reg f 1)
registers_text f (suc n) = registers_text f n ++ (codes " " ++ register_text f (n + 2))

-- x1 to x31
abbrev pub registers_line : RegFile → List ℕ
registers_line f = registers_text f 30 ++ 10 ∷ []

-- two digits for each of the n bytes at a, or that one of them is unmapped
abbrev pub bytes_text : ByteMap → ℕ → ℕ → List ℕ
bytes_text m a n = if mapped m a n then flat_map byte_text (bytes_from m a n) else codes "unmapped"

abbrev pub bytes_line : ByteMap → ℕ → ℕ → List ℕ
bytes_line m a n = codes "bytes " ++ (address_text a ++ (codes " " ++ (bytes_text m a n ++ 10 ∷ [])))

-- the line of the bytes that were asked for by address and number
abbrev pub asked_bytes : ByteMap → Option (ℕ × ℕ) → List ℕ
asked_bytes m None = []
asked_bytes m (Some range) = bytes_line m range.0 range.1

-- the count asked for, the instructions taken, pc, place and break
abbrev pub place_line : ℕ → MachineState → ℕ → List ℕ
place_line count s taken =
    named (codes "at ") count (named (codes " taken ") taken (codes " pc " ++ (address_text s.regs.pc
    ++ named (codes " place ") s.place (codes " break " ++ (address_text s.heap.brk ++ 10 ∷ [])))))

abbrev pub state_lines : ℕ → MachineState → ℕ → End → Option (ℕ × ℕ) → List ℕ
state_lines count s taken e bytes = place_line count s taken ++ (registers_line s.regs ++ (end_line e ++ asked_bytes s.memory bytes))
