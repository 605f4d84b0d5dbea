-- What holds of every assembly at every time
use Rattle.std.specs.Prelude.{ℕ, ◌<◌, ◌≤◌, length, All}
use Rattle.rv32_asm.specs.declared.parts.Item.{Item}
use Rattle.rv32_asm.specs.declared.parts.Item.TheVariants.{Given, BranchTo, JumpTo, UpperOf, LowerOf}
use Rattle.rv32_asm.specs.declared.parts.Binding.{Binding}
use Rattle.rv32_asm.specs.declared.parts.Binding.TheVariants.{Unbound, Code, Placed}
use Rattle.rv32_asm.specs.Assembly.{Assembly, size}
use Rattle.rv32_asm.specs.Encoding.{IsInRange}

-- the fields of an instruction are in range, and its label is one of the first n
abbrev pub ItemFits : ℕ → Item → Type 0
ItemFits n (Given i) = IsInRange i
ItemFits n (BranchTo cond rs1 rs2 to) = (rs1 < 32) × (rs2 < 32) × (to < n)
ItemFits n (JumpTo rd to) = (rd < 32) × (to < n)
ItemFits n (UpperOf rd of) = (rd < 32) × (of < n)
ItemFits n (LowerOf rd of) = (rd < 32) × (of < n)

-- a label is bound to one of so many instructions or placed bytes, or to the end of them
abbrev pub BindingFits : ℕ → ℕ → Binding → Type 0
BindingFits count placed Unbound = Unit {0}
BindingFits count placed (Code k) = k ≤ count
BindingFits count placed (Placed k) = k ≤ placed

pub record IsSound (a : Assembly) : Type 0 where
  pub small : size a ≤ 16777216
  pub few : length a.labels ≤ 16777216
  pub items_fit : All (ItemFits (length a.labels)) a.items
  pub labels_fit : All (BindingFits (length a.items) (length a.placed)) a.labels
