-- pc and the registers x0 to x31 (RISC-V Unprivileged ISA, chapter RV32I, "Programmers' Model")
use Rattle.std.specs.Prelude.{◌≡◌, ℕ, ◌+◌, ◌%◌, ◌^◌, ◌==◌, if◌then◌else◌, List, slice_index, slice_set, replicate, length}

pub record RegFile : Type 0 where
  pub pc : ℕ
  pub x : List ℕ

-- there are 32 registers, and x0 is 0
pub record IsRegFile (f : RegFile) : Type 0 where
  pub count : length f.x ≡ 32
  pub zero : slice_index f.x 0 ≡ 0

abbrev pub reg : RegFile → ℕ → ℕ
reg f r = slice_index f.x r

-- a write to x0 is dropped
abbrev pub with_reg : RegFile → ℕ → ℕ → RegFile
with_reg f r v = if r == 0 then f else record f { x = slice_set f.x r v }

abbrev pub with_pc : RegFile → ℕ → RegFile
with_pc f v = record f { pc = v }

-- the address of the instruction that follows
abbrev pub next : RegFile → ℕ
next f = (f.pc + 4) % 2 ^ 32

-- a result goes to rd, and the next instruction follows
abbrev pub with_result : RegFile → ℕ → ℕ → RegFile
with_result f rd v = with_pc (with_reg f rd v) (next f)

-- where a program begins: sp is 0x7FFFFF00, all other registers are 0
abbrev pub start_regs : ℕ → RegFile
start_regs entry = record { pc = entry; x = slice_set (replicate 32 0) 2 0x7FFFFF00 }
