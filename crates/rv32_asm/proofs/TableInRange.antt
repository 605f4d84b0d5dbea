-- Every instruction that the table gives has its fields in range
use Rattle.std.proofs.Common.{◌≡◌, ℕ, ◌+◌, ◌*◌, ◌<◌, ◌^◌, Bool, true, false, ℤ, pos, Option, Some, None, arith, subst}
use Rattle.std.specs.Prelude.{◌%◌, ◌==◌, if◌then◌else◌, option_map, IfSome}
use Rattle.std.proofs.lemmas.Int.{ints}
use Rattle.std.proofs.lemmas.Bool.Decides.{nat_tests}
use Rattle.guest_model.specs.Word.{field, sign_extend, opcode, rd, funct3, rs1, rs2, funct7, imm_i, imm_s, imm_b, imm_u, imm_j}
use Rattle.guest_model.specs.InstructionTable.{row_of, instr, cond_of, load_width_of, store_width_of, imm_op_of, reg_op_of, imm_row, shift_row}
use Rattle.guest_model.specs.declared.instr.Instr.{Instr}
use Rattle.guest_model.specs.declared.instr.Instr.TheVariants.{Branch, Load, Store, OpImm, Op, Fence, Ecall, Ebreak}
use Rattle.guest_model.specs.declared.instr.ImmOp.{ImmOp}
use Rattle.rv32_asm.specs.Encoding.{IsInRange, IsShortOffset, IsBranchOffset, IsJumpOffset, IsShiftAmount}

-- ---- immediates

short : (x : ℕ) → x < 4096 → IsShortOffset (sign_extend 12 x)
short x h = grind (arith, nat_tests, ints)

even_13 : (x : ℕ) → x < 8192 → x % 2 ≡ 0 → IsBranchOffset (sign_extend 13 x)
even_13 x h e = grind (arith, nat_tests, ints)

even_21 : (x : ℕ) → x < 2097152 → x % 2 ≡ 0 → IsJumpOffset (sign_extend 21 x)
even_21 x h e = grind (arith, nat_tests, ints)

short_i : (w : ℕ) → IsShortOffset (imm_i w)
short_i w = short (field 31 20 w) (omega arith)

short_s : (w : ℕ) → IsShortOffset (imm_s w)
short_s w = short (field 31 25 w * 2 ^ 5 + field 11 7 w) (omega arith)

even_b : (w : ℕ) → IsBranchOffset (imm_b w)
even_b w = even_13 (field 31 31 w * 2 ^ 12 + field 7 7 w * 2 ^ 11 + field 30 25 w * 2 ^ 5 + field 11 8 w * 2) (omega arith) (omega arith)

even_j : (w : ℕ) → IsJumpOffset (imm_j w)
even_j w = even_21 (field 31 31 w * 2 ^ 20 + field 19 12 w * 2 ^ 12 + field 20 20 w * 2 ^ 11 + field 30 21 w * 2) (omega arith) (omega arith)

amount : (w : ℕ) → IsShiftAmount (pos (rs2 w))
amount w = let small : rs2 w < 32 = omega arith in grind (arith, ints)

-- ---- rows

-- a choice whose values are in range
choice : (b : Bool) (x y : Option Instr) → IfSome x IsInRange → IfSome y IsInRange → IfSome (if b then x else y) IsInRange
choice true x y hx hy = hx
choice false x y hx hy = hy

-- an instruction for each value of an option
each : {A : Type 0} (o : Option A) (f : A → Instr) → ((a : A) → IsInRange (f a)) → IfSome (option_map f o) IsInRange
each None f h = tt
each (Some a) f h = h a

-- the same of a choice
map_choice : {A : Type 0} (f : A → Instr) (b : Bool) (x y : Option A) → IfSome (option_map f x) IsInRange → IfSome (option_map f y) IsInRange
    → IfSome (option_map f (if b then x else y)) IsInRange
map_choice f true x y hx hy = hx
map_choice f false x y hx hy = hy

-- an operation with an immediate of 12 bits
plain_fits : (f d a : ℕ) (z : ℤ) → d < 32 → a < 32 → IsShortOffset z → IfSome (option_map (λ o. OpImm o d a z) (imm_op_of f)) IsInRange
plain_fits f d a z hd ha hz =
    let g : ImmOp → Instr = λ o. OpImm o d a z in
    map_choice g (f == 0) _ _ (hd, ha, hz)
    (map_choice g (f == 2) _ _ (hd, ha, hz)
    (map_choice g (f == 3) _ _ (hd, ha, hz)
    (map_choice g (f == 4) _ _ (hd, ha, hz)
    (map_choice g (f == 6) _ _ (hd, ha, hz)
    (map_choice g (f == 7) _ _ (hd, ha, hz) tt)))))

shift_fits : (w : ℕ) → IfSome (shift_row w) IsInRange
shift_fits w =
    let f : ImmOp → Instr = λ o. OpImm o (rd w) (rs1 w) (pos (rs2 w)) in
    let d : rd w < 32 = omega arith in
    let a : rs1 w < 32 = omega arith in
    map_choice f (funct3 w == 1) _ _
    (map_choice f (funct7 w == 0) _ _ (d, a, amount w) tt)
    (map_choice f (funct3 w == 5) _ _
    (map_choice f (funct7 w == 0) _ _ (d, a, amount w) (map_choice f (funct7 w == 0x20) _ _ (d, a, amount w) tt))
    tt)

imm_fits : (w : ℕ) → IfSome (imm_row w) IsInRange
imm_fits w =
    let d : rd w < 32 = omega arith in
    let a : rs1 w < 32 = omega arith in
    choice (funct3 w == 1) (shift_row w) _ (shift_fits w)
    (choice (funct3 w == 5) (shift_row w) _ (shift_fits w) (plain_fits (funct3 w) (rd w) (rs1 w) (imm_i w) d a (short_i w)))

row_fits : (o w : ℕ) → IfSome (row_of o w) IsInRange
row_fits o w =
    let d : rd w < 32 = omega arith in
    let a : rs1 w < 32 = omega arith in
    let b : rs2 w < 32 = omega arith in
    let small : imm_u w < 2 ^ 32 = omega arith in
    let clear : imm_u w % 2 ^ 12 ≡ 0 = omega arith in
    choice (o == 0x37) _ _ (d, small, clear)
    (choice (o == 0x17) _ _ (d, small, clear)
    (choice (o == 0x6F) _ _ (d, even_j w)
    (choice (o == 0x67) _ _ (choice (funct3 w == 0) _ None (d, a, short_i w) tt)
    (choice (o == 0x63) _ _ (each (cond_of (funct3 w)) (λ c. Branch c (rs1 w) (rs2 w) (imm_b w)) (λ c. (a, b, even_b w)))
    (choice (o == 0x03) _ _ (each (load_width_of (funct3 w)) (λ x. Load x (rd w) (rs1 w) (imm_i w)) (λ x. (d, a, short_i w)))
    (choice (o == 0x23) _ _ (each (store_width_of (funct3 w)) (λ x. Store x (rs1 w) (rs2 w) (imm_s w)) (λ x. (a, b, short_s w)))
    (choice (o == 0x13) _ _ (imm_fits w)
    (choice (o == 0x33) _ _ (each (reg_op_of (funct3 w) (funct7 w)) (λ x. Op x (rd w) (rs1 w) (rs2 w)) (λ x. (d, a, b)))
    (choice (o == 0x0F) _ _ (choice (funct3 w == 0) (Some Fence) None tt tt)
    (choice (o == 0x73) _ None (choice (w == 0x73) (Some Ecall) _ tt (choice (w == 0x100073) (Some Ebreak) None tt tt)) tt))))))))))

pub table_in_range : (w : ℕ) (i : Instr) → instr w ≡ Some i → IsInRange i
table_in_range w i e = let P : Option Instr → Type 0 = λ o. IfSome o IsInRange in subst P e (row_fits (opcode w) w)
