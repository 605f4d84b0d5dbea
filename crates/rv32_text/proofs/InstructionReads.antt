-- Instructions by the operands that are read
use Rattle.std.proofs.Common.{◌≡◌, ℕ, ◌<◌, ◌^◌, List, [], ◌++◌, codes, refl, sym, ap, subst, ◌∙◌, arith, append_assoc, ℤ, pos, negsuc}
use Rattle.std.specs.Prelude.{◌/◌, ◌%◌}
use Rattle.std.specs.Fmt.{signed_decimal}
use Rattle.std.proofs.lemmas.Int.{ints, to_z-of_z}
use mir.Val.{SFits, to_z, of_z}
use mir.Syntax.{w32}
use Rattle.guest_model.specs.declared.instr.Instr.TheVariants.{Upper, Jalr, Branch, Load, Store}
use Rattle.guest_model.specs.declared.instr.UpperOp.{UpperOp}
use Rattle.guest_model.specs.declared.instr.Cond.{Cond}
use Rattle.guest_model.specs.declared.instr.LoadWidth.{LoadWidth}
use Rattle.guest_model.specs.declared.instr.StoreWidth.{StoreWidth}
use Rattle.rv32_asm.specs.Encoding.{IsShortOffset, IsBranchOffset}
use Rattle.rv32_text.specs.declared.fields.Offset.{Offset}
use Rattle.rv32_text.specs.declared.fields.Offset.TheVariants as Offsets
use Rattle.rv32_text.specs.declared.fields.Field.TheVariants as Fields
use Rattle.rv32_text.specs.declared.mnemonic.Mnemonic.TheVariants as Mnemonics
use Rattle.rv32_text.specs.Fields.{IsOffset, write_field, natural}
use Rattle.rv32_text.specs.Languages.{ended, rest}
use Rattle.rv32_text.specs.Texts.{hex_text, register}
use Rattle.rv32_text.specs.Shapes.{IsRead}

offset_fits : (o : Offset) (z : ℤ) → IsOffset o z → SFits w32 z
offset_fits Offsets.Short (pos n) h = record { sfits = omega (arith, ints, h.1) }
offset_fits Offsets.Short (negsuc n) h = record { sfits = omega (arith, ints, h.0) }
offset_fits Offsets.Branch (pos n) h = record { sfits = omega (arith, ints, h.1) }
offset_fits Offsets.Branch (negsuc n) h = record { sfits = omega (arith, ints, h.0) }
offset_fits Offsets.Jump (pos n) h = record { sfits = omega (arith, ints, h.1) }
offset_fits Offsets.Jump (negsuc n) h = record { sfits = omega (arith, ints, h.0) }

-- an offset that was read, as it is kept in an instruction
pub offset_same : (o : Offset) (z w : ℤ) → IsOffset o z → w ≡ z → to_z w32 (of_z w32 w) ≡ z
offset_same o z w h e = ap (λ (x : ℤ). to_z w32 (of_z w32 x)) e ∙ to_z-of_z w32 z (offset_fits o z h)

-- ---- the texts of operands, with their registers by number

regroup_two : (a c s e : List ℕ) → (a ++ c) ++ (s ++ e) ≡ (a ++ (c ++ s)) ++ e
regroup_two a c s e = simp append_assoc

regroup_three : (a c b s e : List ℕ) → (a ++ c) ++ ((b ++ c) ++ (s ++ e)) ≡ (a ++ (c ++ (b ++ (c ++ s)))) ++ e
regroup_three a c b s e = simp append_assoc

regroup_memory : (a c s o b p e : List ℕ) → (a ++ c) ++ ((s ++ o) ++ (b ++ (p ++ e))) ≡ (a ++ (c ++ (s ++ (o ++ (b ++ p))))) ++ e
regroup_memory a c s o b p e = simp append_assoc

two_text : (a : ℕ) (za : ℤ) (s t : List ℕ) → pos a ≡ za → t ≡ (write_field Fields.Register za ++ codes ", ") ++ (s ++ ended []) → t ≡ ended (register a ++ (codes ", " ++ s))
two_text a za s t ea e = e ∙ (ap (λ (z : ℤ). (write_field Fields.Register z ++ codes ", ") ++ (s ++ ended [])) (sym ea) ∙ regroup_two (register a) (codes ", ") s (ended []))

three_text : (a b : ℕ) (za zb : ℤ) (s t : List ℕ) → pos a ≡ za → pos b ≡ zb
    → t ≡ (write_field Fields.Register za ++ codes ", ") ++ ((write_field Fields.Register zb ++ codes ", ") ++ (s ++ ended []))
    → t ≡ ended (register a ++ (codes ", " ++ (register b ++ (codes ", " ++ s))))
three_text a b za zb s t ea eb e =
    e ∙ (ap (λ (z : ℤ). (write_field Fields.Register z ++ codes ", ") ++ ((write_field Fields.Register zb ++ codes ", ") ++ (s ++ ended []))) (sym ea)
    ∙ (ap (λ (z : ℤ). (register a ++ codes ", ") ++ ((write_field Fields.Register z ++ codes ", ") ++ (s ++ ended []))) (sym eb) ∙ regroup_three (register a) (codes ", ") (register b) s (ended [])))

memory_text : (a b : ℕ) (za zb : ℤ) (s t : List ℕ) → pos a ≡ za → pos b ≡ zb
    → t ≡ (write_field Fields.Register za ++ codes ", ") ++ ((s ++ codes "(") ++ (write_field Fields.Register zb ++ ended (codes ")")))
    → t ≡ ended (register a ++ (codes ", " ++ (s ++ (codes "(" ++ (register b ++ codes ")")))))
memory_text a b za zb s t ea eb e =
    e ∙ (ap (λ (z : ℤ). (write_field Fields.Register z ++ codes ", ") ++ ((s ++ codes "(") ++ (write_field Fields.Register zb ++ ended (codes ")")))) (sym ea)
    ∙ (ap (λ (z : ℤ). (register a ++ codes ", ") ++ ((s ++ codes "(") ++ (write_field Fields.Register z ++ ended (codes ")")))) (sym eb) ∙ regroup_memory (register a) (codes ", ") s (codes "(") (register b) (codes ")") (ended [])))

-- ---- instructions

pub upper_read : (op : UpperOp) (text : List ℕ) (from a imm : ℕ) (za z : ℤ) → pos a ≡ za → a < 32 → imm < 2 ^ 32 → imm % 2 ^ 12 ≡ 0 → z ≡ pos (imm / 2 ^ 12)
    → rest text from ≡ (write_field Fields.Register za ++ codes ", ") ++ (write_field Fields.Upper z ++ ended []) → IsRead (Mnemonics.Upper op) text from (Upper op a imm)
upper_read op text from a imm za z ea small bound low ez e = record {
  in_range = (small, bound, low);
  mnemonic_is = refl;
  is = two_text a za (hex_text 5 (imm / 2 ^ 12)) (rest text from) ea (e ∙ ap (λ (x : ℤ). (write_field Fields.Register za ++ codes ", ") ++ (hex_text 5 (natural x) ++ ended [])) ez);
}

module _ (text : List ℕ) (from a b : ℕ) (za zb z w : ℤ) (ez : w ≡ z) (ea : pos a ≡ za) (small_a : a < 32) (eb : pos b ≡ zb) (small_b : b < 32) where
  pub jalr_read : IsShortOffset z
      → rest text from ≡ (write_field Fields.Register za ++ codes ", ") ++ ((write_field Fields.Register zb ++ codes ", ") ++ (signed_decimal z ++ ended []))
      → IsRead Mnemonics.Jalr text from (Jalr a b w)
  jalr_read h e =
      subst (λ (x : ℤ). IsRead Mnemonics.Jalr text from (Jalr a b x)) (sym ez)
      (record { in_range = (small_a, small_b, h); mnemonic_is = refl; is = three_text a b za zb (signed_decimal z) (rest text from) ea eb e })

  pub branch_read : (c : Cond) → IsBranchOffset z
      → rest text from ≡ (write_field Fields.Register za ++ codes ", ") ++ ((write_field Fields.Register zb ++ codes ", ") ++ (signed_decimal z ++ ended []))
      → IsRead (Mnemonics.Branch c) text from (Branch c a b w)
  branch_read c h e =
      subst (λ (x : ℤ). IsRead (Mnemonics.Branch c) text from (Branch c a b x)) (sym ez)
      (record { in_range = (small_a, small_b, h); mnemonic_is = refl; is = three_text a b za zb (signed_decimal z) (rest text from) ea eb e })

  pub load_read : (x : LoadWidth) → IsShortOffset z
      → rest text from ≡ (write_field Fields.Register za ++ codes ", ") ++ ((signed_decimal z ++ codes "(") ++ (write_field Fields.Register zb ++ ended (codes ")")))
      → IsRead (Mnemonics.Load x) text from (Load x a b w)
  load_read x h e =
      subst (λ (y : ℤ). IsRead (Mnemonics.Load x) text from (Load x a b y)) (sym ez)
      (record { in_range = (small_a, small_b, h); mnemonic_is = refl; is = memory_text a b za zb (signed_decimal z) (rest text from) ea eb e })

  pub store_read : (x : StoreWidth) → IsShortOffset z
      → rest text from ≡ (write_field Fields.Register za ++ codes ", ") ++ ((signed_decimal z ++ codes "(") ++ (write_field Fields.Register zb ++ ended (codes ")")))
      → IsRead (Mnemonics.Store x) text from (Store x b a w)
  store_read x h e =
      subst (λ (y : ℤ). IsRead (Mnemonics.Store x) text from (Store x b a y)) (sym ez)
      (record { in_range = (small_b, small_a, h); mnemonic_is = refl; is = memory_text a b za zb (signed_decimal z) (rest text from) ea eb e })
