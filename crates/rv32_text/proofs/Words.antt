-- Words of FENCE, and words that have no row in the instruction table
use Rattle.std.proofs.Common.{◌≡◌, ℕ, ◌*◌, Bool, true, false, Option, Some, None, refl, ap, ◌∙◌, arith}
use Rattle.std.specs.Prelude.{◌/◌, ◌%◌, ◌==◌, if◌then◌else◌, option_map}
use Rattle.std.proofs.lemmas.Bool.{eqb-true, ne_eqb}
use Rattle.guest_model.specs.Word.{opcode, rd, funct3, rs1, rs2, funct7, imm_i, imm_s, imm_b}
use Rattle.guest_model.specs.InstructionTable.{row_of, instr, cond_of, load_width_of, store_width_of, imm_op_of, shift_of, reg_op_of, shift_row}
use Rattle.guest_model.specs.declared.instr.Instr.{Instr}
use Rattle.guest_model.specs.declared.instr.Instr.TheVariants.{Branch, Load, Store, OpImm, Op, Fence}
use Rattle.guest_model.specs.declared.instr.Cond.{Cond}
use Rattle.guest_model.specs.declared.instr.LoadWidth.{LoadWidth}
use Rattle.guest_model.specs.declared.instr.StoreWidth.{StoreWidth}
use Rattle.guest_model.specs.declared.instr.ImmOp.{ImmOp}
use Rattle.guest_model.specs.declared.instr.RegOp.{RegOp}

-- opcode 0x0F and funct3 0
pub record HasFenceBits (w : ℕ) : Type 0 where
  pub opcode_is : w % 128 ≡ 15
  pub funct3_is : w / 4096 % 8 ≡ 0

pub fence_has : (w : ℕ) → HasFenceBits w → instr w ≡ Some Fence
fence_has w h =
    let o : opcode w ≡ 15 = omega (arith, h.opcode_is) in
    let f : funct3 w ≡ 0 = omega (arith, h.funct3_is) in
    ap (λ (x : ℕ). row_of x w) o ∙ ap (λ (x : ℕ). if x == 0 then Some Fence else None) f

-- ---- FENCE stands in its row alone

-- an option from which Q follows where it is FENCE
abbrev Tells : Type 0 → Option Instr → Type 0
Tells Q x = x ≡ Some Fence → Q

choice : (Q : Type 0) (b : Bool) (x y : Option Instr) → (b ≡ true → Tells Q x) → Tells Q y → Tells Q (if b then x else y)
choice Q true x y hx hy = hx refl
choice Q false x y hx hy = hy

none_tells : (Q : Type 0) → Tells Q None
none_tells Q e = absurd (cc)

each_tells : {A : Type 0} (Q : Type 0) (o : Option A) (f : A → Instr) → ((a : A) → f a ≡ Fence → ⊥) → Tells Q (option_map f o)
each_tells Q None f h e = absurd (cc)
each_tells Q (Some a) f h e = absurd (h a (cc))

shift_tells : (Q : Type 0) (w : ℕ) → Tells Q (shift_row w)
shift_tells Q w = each_tells Q (shift_of (funct3 w) (funct7 w)) (λ (o : ImmOp). OpImm o (rd w) (rs1 w) _) (λ a e. cc)

row_tells : (Q : Type 0) (o w : ℕ) → (o ≡ 15 → funct3 w ≡ 0 → Q) → Tells Q (row_of o w)
row_tells Q o w h =
    choice Q (o == 0x37) _ _ (λ t e. absurd (cc))
    (choice Q (o == 0x17) _ _ (λ t e. absurd (cc))
    (choice Q (o == 0x6F) _ _ (λ t e. absurd (cc))
    (choice Q (o == 0x67) _ _ (λ t. choice Q (funct3 w == 0) _ None (λ u e. absurd (cc)) (none_tells Q))
    (choice Q (o == 0x63) _ _ (λ t. each_tells Q (cond_of (funct3 w)) (λ (c : Cond). Branch c (rs1 w) (rs2 w) (imm_b w)) (λ a e. cc))
    (choice Q (o == 0x03) _ _ (λ t. each_tells Q (load_width_of (funct3 w)) (λ (x : LoadWidth). Load x (rd w) (rs1 w) (imm_i w)) (λ a e. cc))
    (choice Q (o == 0x23) _ _ (λ t. each_tells Q (store_width_of (funct3 w)) (λ (x : StoreWidth). Store x (rs1 w) (rs2 w) (imm_s w)) (λ a e. cc))
    (choice Q (o == 0x13) _ _ (λ t. choice Q (funct3 w == 1) _ _ (λ u. shift_tells Q w)
    (choice Q (funct3 w == 5) _ _ (λ u. shift_tells Q w) (each_tells Q (imm_op_of (funct3 w)) (λ (x : ImmOp). OpImm x (rd w) (rs1 w) (imm_i w)) (λ a e. cc))))
    (choice Q (o == 0x33) _ _ (λ t. each_tells Q (reg_op_of (funct3 w) (funct7 w)) (λ (x : RegOp). Op x (rd w) (rs1 w) (rs2 w)) (λ a e. cc))
    (choice Q (o == 0x0F) _ _ (λ t. choice Q (funct3 w == 0) _ None (λ u e. h (eqb-true o 15 t) (eqb-true (funct3 w) 0 u)) (none_tells Q))
    (choice Q (o == 0x73) _ None (λ t. choice Q (w == 0x73) _ _ (λ u e. absurd (cc)) (choice Q (w == 0x100073) _ None (λ u e. absurd (cc)) (none_tells Q))) (none_tells Q)))))))))))

pub fence_bits : (w : ℕ) → instr w ≡ Some Fence → HasFenceBits w
fence_bits w e =
    row_tells (HasFenceBits w) (opcode w) w
    (λ o f. record { opcode_is = omega (arith, o); funct3_is = omega (arith, f) }) e

-- ---- no row has an even opcode

skips : (b : Bool) (x y : Option Instr) → b ≡ false → y ≡ None → (if b then x else y) ≡ None
skips true x y t h = absurd (cc)
skips false x y t h = h

even_row : (o w h : ℕ) → o ≡ h * 2 → row_of o w ≡ None
even_row o w h even =
    skips (o == 0x37) _ _ (ne_eqb o 0x37 (λ e. omega arith))
    (skips (o == 0x17) _ _ (ne_eqb o 0x17 (λ e. omega arith))
    (skips (o == 0x6F) _ _ (ne_eqb o 0x6F (λ e. omega arith))
    (skips (o == 0x67) _ _ (ne_eqb o 0x67 (λ e. omega arith))
    (skips (o == 0x63) _ _ (ne_eqb o 0x63 (λ e. omega arith))
    (skips (o == 0x03) _ _ (ne_eqb o 0x03 (λ e. omega arith))
    (skips (o == 0x23) _ _ (ne_eqb o 0x23 (λ e. omega arith))
    (skips (o == 0x13) _ _ (ne_eqb o 0x13 (λ e. omega arith))
    (skips (o == 0x33) _ _ (ne_eqb o 0x33 (λ e. omega arith))
    (skips (o == 0x0F) _ _ (ne_eqb o 0x0F (λ e. omega arith))
    (skips (o == 0x73) _ None (ne_eqb o 0x73 (λ e. omega arith)) refl))))))))))

pub even_word : (w h : ℕ) → w ≡ h * 2 → instr w ≡ None
even_word w h e = even_row (opcode w) w (h % 64) (omega arith)
