-- Worked rows of the definitions: words with their instructions, and values at the edges of products and quotients
use Rattle.std.specs.Prelude.{◌≡◌, Some, None, pos, negsuc}
use Rattle.guest_model.specs.Arithmetic.{op_value}
use Rattle.guest_model.specs.InstructionTable.{instr}
use Rattle.guest_model.specs.declared.instr.Cond.TheVariants.{Ne}
use Rattle.guest_model.specs.declared.instr.ImmOp.TheVariants as ImmOps
use Rattle.guest_model.specs.declared.instr.Instr.TheVariants.{Jal, Branch, Load, Store, OpImm, Op, Fence, Ecall, Ebreak, Upper}
use Rattle.guest_model.specs.declared.instr.LoadWidth.TheVariants as Loads
use Rattle.guest_model.specs.declared.instr.RegOp.TheVariants as R
use Rattle.guest_model.specs.declared.instr.StoreWidth.TheVariants as Stores
use Rattle.guest_model.specs.declared.instr.UpperOp.TheVariants.{Lui}

pub record WordRows : Type 0 where
  pub addi : instr 0x05D00893 ≡ Some (OpImm ImmOps.Add 17 0 (pos 93))
  pub addi_negative : instr 0xFFF28293 ≡ Some (OpImm ImmOps.Add 5 5 (negsuc 0))
  pub add : instr 0x00550533 ≡ Some (Op R.Add 10 10 5)
  pub branch_forward : instr 0x00051E63 ≡ Some (Branch Ne 10 0 (pos 28))
  pub branch_back : instr 0xFE029CE3 ≡ Some (Branch Ne 5 0 (negsuc 7))
  pub jump : instr 0x00C0006F ≡ Some (Jal 0 (pos 12))
  pub upper : instr 0x000115B7 ≡ Some (Upper Lui 11 0x11000)
  pub store : instr 0xFEA10FA3 ≡ Some (Store Stores.B 2 10 (negsuc 0))
  pub load : instr 0x00012503 ≡ Some (Load Loads.W 10 2 (pos 0))
  pub quotient : instr 0x02C5C533 ≡ Some (Op R.Div 10 11 12)
  pub fence : instr 0x0FF0000F ≡ Some Fence
  pub fence_i : instr 0x0000100F ≡ None
  pub ecall : instr 0x00000073 ≡ Some Ecall
  pub ebreak : instr 0x00100073 ≡ Some Ebreak
  pub zero : instr 0x00000000 ≡ None

pub record ValueRows : Type 0 where
  pub div_by_zero : op_value R.Div 7 0 ≡ 0xFFFFFFFF
  pub rem_by_zero : op_value R.Rem 7 0 ≡ 7
  pub div_overflow : op_value R.Div 0x80000000 0xFFFFFFFF ≡ 0x80000000
  pub rem_overflow : op_value R.Rem 0x80000000 0xFFFFFFFF ≡ 0
  pub div_towards_zero : op_value R.Div 0xFFFFFFF9 2 ≡ 0xFFFFFFFD
  pub mulh : op_value R.Mulh 0xFFFFFFFF 0xFFFFFFFF ≡ 0
  pub mulhsu : op_value R.Mulhsu 0xFFFFFFFF 0xFFFFFFFF ≡ 0xFFFFFFFF
  pub mulhu : op_value R.Mulhu 0xFFFFFFFF 0xFFFFFFFF ≡ 0xFFFFFFFE
  pub rem_sign : op_value R.Rem 0xFFFFFFF9 2 ≡ 0xFFFFFFFF
  pub sra : op_value R.Sra 0x80000000 4 ≡ 0xF8000000
  pub srl : op_value R.Srl 0x80000000 36 ≡ 0x08000000
