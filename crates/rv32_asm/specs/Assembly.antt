-- A program that is being assembled: plain data
use Rattle.std.specs.Prelude.{◌≡◌, ◌≢◌, ℕ, ◌+◌, ◌*◌, Bool, true, false, ◌&&◌, nat_le, pos, List, [], ◌∷◌, ◌++◌, length, slice_index_or, slice_set, Result, Ok, Err}
use Rattle.guest_model.specs.declared.instr.Instr.TheVariants.{Upper, OpImm, Fence, Ecall}
use Rattle.guest_model.specs.declared.instr.UpperOp.TheVariants.{Lui}
use Rattle.guest_model.specs.declared.instr.ImmOp.TheVariants.{Add}
use Rattle.guest_model.specs.declared.instr.Cond.TheVariants.{Ne}
use Rattle.rv32_asm.specs.declared.parts.Item.{Item}
use Rattle.rv32_asm.specs.declared.parts.Item.TheVariants.{Given, BranchTo, UpperOf, LowerOf}
use Rattle.rv32_asm.specs.declared.parts.Binding.{Binding}
use Rattle.rv32_asm.specs.declared.parts.Binding.TheVariants.{Unbound, Code, Placed}
use Rattle.rv32_asm.specs.declared.fault.AsmFault.{AsmFault}
use Rattle.rv32_asm.specs.declared.fault.AsmFault.TheVariants as Faults
use Rattle.rv32_asm.specs.Constant.{upper_part, lower_part}

-- the instructions in order, what each label is bound to, by its number, and the bytes behind all instructions
pub record Assembly : Type 0 where
  pub items : List Item
  pub labels : List Binding
  pub placed : List ℕ

abbrev pub empty : Assembly
empty = record { items = []; labels = []; placed = [] }

-- the item at a place, and what a label is bound to
abbrev pub item_at : Assembly → ℕ → Item
item_at a k = slice_index_or a.items k (Given Fence)

abbrev pub binding_of : Assembly → ℕ → Binding
binding_of a label = slice_index_or a.labels label Unbound

-- ---- growth

-- how many bytes the instructions and the placed bytes have
abbrev pub size : Assembly → ℕ
size a = 4 * length a.items + length a.placed

-- the limits: 16 MiB, and as many labels
abbrev pub fits : Assembly → Bool
fits a = nat_le (size a) 16777216 && nat_le (length a.labels) 16777216

abbrev pub with_items : Assembly → List Item → Assembly
with_items a items = record a { items = a.items ++ items }

-- one more label, which isn't bound
abbrev pub with_label : Assembly → Assembly
with_label a = record a { labels = a.labels ++ Unbound ∷ [] }

-- more placed bytes, with a label that is bound to the first of them
abbrev pub with_placed : Assembly → List ℕ → Assembly
with_placed a bytes = record a { labels = a.labels ++ Placed (length a.placed) ∷ []; placed = a.placed ++ bytes }

-- the label is bound to the next instruction
abbrev pub with_bound : Assembly → ℕ → Assembly
with_bound a label = record a { labels = slice_set a.labels label (Code (length a.items)) }

-- what a call answers and leaves that makes this of an assembly: TooLong exactly where a limit would be passed, else
-- NoMemory only for want of memory; both change nothing
abbrev pub Grows : {A : Type 0} → Assembly → Assembly → Assembly → Result A AsmFault → Type 0
Grows old wanted new (Ok _) = (fits wanted ≡ true) × (new ≡ wanted)
Grows old wanted new (Err Faults.TooLong) = (fits wanted ≡ false) × (new ≡ old)
Grows old wanted new (Err Faults.NoMemory) = (fits wanted ≡ true) × (new ≡ old)
Grows old wanted new (Err (Faults.Twice _)) = ⊥
Grows old wanted new (Err (Faults.Unbound _)) = ⊥
Grows old wanted new (Err (Faults.Far _)) = ⊥

-- what `bind` answers and leaves: Twice exactly where the label is bound already, and then nothing changes
abbrev pub Binds : Assembly → ℕ → Assembly → Result Unit AsmFault → Type 0
Binds old label new (Ok _) = (binding_of old label ≡ Unbound) × (new ≡ with_bound old label)
Binds old label new (Err (Faults.Twice n)) = (n ≡ label) × (binding_of old label ≢ Unbound) × (new ≡ old)
Binds old label new (Err (Faults.Unbound _)) = ⊥
Binds old label new (Err (Faults.Far _)) = ⊥
Binds old label new (Err Faults.TooLong) = ⊥
Binds old label new (Err Faults.NoMemory) = ⊥

-- ---- what a call emits

abbrev pub constant_items : ℕ → ℕ → List Item
constant_items rd value = Given (Upper Lui rd (upper_part value)) ∷ Given (OpImm Add rd rd (lower_part value)) ∷ []

abbrev pub address_items : ℕ → ℕ → List Item
address_items rd label = UpperOf rd label ∷ LowerOf rd label ∷ []

-- a7 is x17, a0 is x10
abbrev pub open_items : ℕ → List Item
open_items label = Given (OpImm Add 17 0 (pos 2000)) ∷ Given Ecall ∷ BranchTo Ne 10 0 label ∷ []

abbrev pub close_items : List Item
close_items = Given (OpImm Add 17 0 (pos 2001)) ∷ Given Ecall ∷ []
