-- What an assembly stands for: each instruction with the offset or the address of its label, or the first fault
use Rattle.std.specs.Prelude.{◌≡◌, ℕ, ◌+◌, ◌*◌, ◌%◌, ◌^◌, ◌<◌, Bool, true, false, ◌&&◌, not, ◌==◌, ℤ, pos, negsuc, ◌-ℤ◌, int_le, min, if◌then◌else◌, List, ◌++◌, length, map, slice_index, Option, Some, None, option_map, option_and_then, Result, Ok, Err}
use Rattle.std.specs.Int.{w32}
use Rattle.std.specs.Option.{option_map_or}
use Rattle.std.specs.List.{list_any, range_with_len}
use Rattle.guest_model.specs.Word.{word_of}
use Rattle.guest_model.specs.ByteMap.{load}
use Rattle.guest_model.specs.Difference.{least, or_else}
use Rattle.guest_model.specs.Image.{Image}
use Rattle.guest_model.specs.InstructionTable.{instr}
use Rattle.guest_model.specs.declared.instr.Instr.{Instr}
use Rattle.guest_model.specs.declared.instr.Instr.TheVariants.{Upper, Jal, Branch, OpImm}
use Rattle.guest_model.specs.declared.instr.UpperOp.TheVariants.{Lui}
use Rattle.guest_model.specs.declared.instr.ImmOp.TheVariants.{Add}
use Rattle.rv32_asm.specs.declared.parts.Item.{Item}
use Rattle.rv32_asm.specs.declared.parts.Item.TheVariants.{Given, BranchTo, JumpTo, UpperOf, LowerOf}
use Rattle.rv32_asm.specs.declared.parts.Binding.{Binding}
use Rattle.rv32_asm.specs.declared.parts.Binding.TheVariants.{Unbound, Code, Placed}
use Rattle.rv32_asm.specs.declared.fault.AsmFault.{AsmFault}
use Rattle.rv32_asm.specs.declared.fault.AsmFault.TheVariants as Faults
use Rattle.rv32_asm.specs.Assembly.{Assembly, item_at, binding_of}
use Rattle.rv32_asm.specs.Constant.{upper_part, lower_part}
use Rattle.rv32_asm.specs.Encoding.{encoding}
use Rattle.rv32_asm.specs.SmallImage.{base, word_bytes, small_image}

-- ---- addresses

-- where the instruction at a place stands
abbrev pub code_address : ℕ → ℕ
code_address k = base + 4 * k

-- where a bound label stands, by the number of instructions
abbrev pub binding_address : ℕ → Binding → ℕ
binding_address count Unbound = base
binding_address count (Code k) = code_address k
binding_address count (Placed k) = code_address count + k

abbrev pub label_address : Assembly → ℕ → ℕ
label_address a label = binding_address (length a.items) (binding_of a label)

-- how far a label is from the instruction at a place
abbrev pub offset : Assembly → ℕ → ℕ → ℤ
offset a k label = pos (label_address a label) -ℤ pos (code_address k)

-- ---- instructions

abbrev pub instr_for : Assembly → ℕ → Item → Instr
instr_for a k (Given i) = i
instr_for a k (BranchTo cond rs1 rs2 label) = Branch cond rs1 rs2 (offset a k label)
instr_for a k (JumpTo rd label) = Jal rd (offset a k label)
instr_for a k (UpperOf rd label) = Upper Lui rd (upper_part (label_address a label))
instr_for a k (LowerOf rd label) = OpImm Add rd rd (lower_part (label_address a label))

-- the instruction at a place
abbrev pub instr_of : Assembly → ℕ → Instr
instr_of a k = instr_for a k (item_at a k)

-- the words of all instructions
abbrev pub words : Assembly → List ℕ
words a = map (λ k. encoding (instr_of a k)) (range_with_len 0 (length a.items))

-- ---- faults

abbrev pub is_unbound : Binding → Bool
is_unbound Unbound = true
is_unbound _ = false

-- the label that an item uses
abbrev pub label_of : Item → Option ℕ
label_of (Given i) = None
label_of (BranchTo cond rs1 rs2 to) = Some to
label_of (JumpTo rd to) = Some to
label_of (UpperOf rd of) = Some of
label_of (LowerOf rd of) = Some of

abbrev pub uses : ℕ → Item → Bool
uses label item = option_map_or (λ to. label == to) (label_of item) false

-- the least label that is used and isn't bound
unfoldable pub unbound_label : Assembly → Option ℕ
unbound_label a = least (λ n. is_unbound (binding_of a n) && list_any (uses n) a.items) (length a.labels)

-- the label of an item where it isn't bound
abbrev pub unbound_in : Assembly → Item → Option ℕ
unbound_in a item = option_and_then (λ to. if is_unbound (binding_of a to) then Some to else None) (label_of item)

abbrev pub lesser : Option ℕ → Option ℕ → Option ℕ
lesser (Some x) (Some y) = Some (min x y)
lesser (Some x) None = Some x
lesser None o = o

-- the offsets of a branch and of JAL: even, within 4 KiB and within 1 MiB
abbrev pub is_branch_offset : ℤ → Bool
is_branch_offset z = int_le (negsuc 4095) z && int_le z (pos 4095) && word_of z % 2 == 0

abbrev pub is_jump_offset : ℤ → Bool
is_jump_offset z = int_le (negsuc 1048575) z && int_le z (pos 1048575) && word_of z % 2 == 0

-- no offset of the format leads to the label
abbrev pub is_far_for : Assembly → ℕ → Item → Bool
is_far_for a k (BranchTo cond rs1 rs2 label) = not (is_branch_offset (offset a k label))
is_far_for a k (JumpTo rd label) = not (is_jump_offset (offset a k label))
is_far_for a k _ = false

abbrev pub is_far : Assembly → ℕ → Bool
is_far a k = is_far_for a k (item_at a k)

-- the first place whose label is too far or at an odd distance
abbrev pub far_place : Assembly → Option ℕ
far_place a = least (is_far a) (length a.items)

-- the least unbound label, else the least address whose label is out of reach
abbrev pub fault_of : Assembly → Option AsmFault
fault_of a = or_else (option_map Faults.Unbound (unbound_label a)) (option_map (λ k. Faults.Far (code_address k)) (far_place a))

-- what the writing of all words answers and leaves of the bytes; NoMemory only for want of memory
abbrev pub WritesCode : {A : Type 0} → Assembly → List ℕ → List ℕ → Result A AsmFault → Type 0
WritesCode a old new (Ok _) = (far_place a ≡ None) × (new ≡ old ++ word_bytes (words a))
WritesCode a old new (Err (Faults.Far q)) = option_map code_address (far_place a) ≡ Some q
WritesCode a old new (Err Faults.NoMemory) = Unit {0}
WritesCode a old new (Err Faults.TooLong) = ⊥
WritesCode a old new (Err (Faults.Twice _)) = ⊥
WritesCode a old new (Err (Faults.Unbound _)) = ⊥

-- the word of each instruction is read back as this instruction
abbrev pub AllRead : Assembly → Type 0
AllRead a = (k : ℕ) → k < length a.items → (encoding (instr_of a k) < 2 ^ 32) × (instr (encoding (instr_of a k)) ≡ Some (instr_of a k))

-- what `finish` answers: the fault exactly where there is one, else the image, or NoMemory for want of memory
abbrev pub Finishes : Assembly → Result (List ℕ) AsmFault → Type 0
Finishes a (Ok image) = (fault_of a ≡ None) × (image ≡ small_image (words a) a.placed)
Finishes a (Err Faults.NoMemory) = Unit {0}
Finishes a (Err fault) = fault_of a ≡ Some fault

-- what the loader makes of the image: its instructions are read back, and the placed bytes stand behind them
pub record HoldsProgram (a : Assembly) (i : Image) : Type 0 where
  pub entry : i.entry ≡ base
  pub instrs_at : (k : ℕ) → k < length a.items → option_and_then instr (load w32 i.memory (code_address k)) ≡ Some (instr_of a k)
  pub placed_at : (k : ℕ) → k < length a.placed → i.memory (code_address (length a.items) + k) ≡ Some (slice_index a.placed k)
