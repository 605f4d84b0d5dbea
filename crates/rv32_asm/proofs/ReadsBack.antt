-- The instruction table reads the word of an instruction back
use Rattle.std.proofs.Common.{◌≡◌, ℕ, ◌+◌, ◌*◌, ◌<◌, ◌≤◌, ◌^◌, ℤ, pos, negsuc, Option, Some, None, arith, refl, ap, ◌∙◌, add-zero}
use Rattle.std.specs.Prelude.{◌%◌, ◌/◌, ◌==◌, if◌then◌else◌, option_map}
use Rattle.std.proofs.lemmas.Int.{ints}
use Rattle.guest_model.specs.Word.{field, word_of, opcode, rd, funct3, rs1, rs2, funct7, imm_i, imm_s, imm_b, imm_u, imm_j}
use Rattle.guest_model.specs.InstructionTable.{row_of, instr, cond_of, load_width_of, store_width_of, imm_op_of, shift_of, reg_op_of}
use Rattle.guest_model.specs.declared.instr.Instr.{Instr}
use Rattle.guest_model.specs.declared.instr.Instr.TheVariants.{Upper, Jal, Jalr, Branch, Load, Store, OpImm, Op, Fence, Ecall, Ebreak}
use Rattle.guest_model.specs.declared.instr.Cond.{Cond}
use Rattle.guest_model.specs.declared.instr.Cond.TheVariants as Conds
use Rattle.guest_model.specs.declared.instr.UpperOp.{UpperOp}
use Rattle.guest_model.specs.declared.instr.UpperOp.TheVariants.{Lui, Auipc}
use Rattle.guest_model.specs.declared.instr.LoadWidth.{LoadWidth}
use Rattle.guest_model.specs.declared.instr.LoadWidth.TheVariants as Loads
use Rattle.guest_model.specs.declared.instr.StoreWidth.{StoreWidth}
use Rattle.guest_model.specs.declared.instr.StoreWidth.TheVariants as Stores
use Rattle.guest_model.specs.declared.instr.ImmOp.{ImmOp}
use Rattle.guest_model.specs.declared.instr.ImmOp.TheVariants as ImmOps
use Rattle.guest_model.specs.declared.instr.RegOp.{RegOp}
use Rattle.guest_model.specs.declared.instr.RegOp.TheVariants as RegOps
use Rattle.rv32_asm.specs.Encoding.{r_type, i_type, s_type, b_type, u_type, j_type, upper_opcode, cond_code, load_code, store_code, reg_op_code, reg_op_kind, encoding, IsInRange, IsShortOffset, IsShiftAmount, IsBranchOffset, IsJumpOffset}
use Rattle.rv32_asm.proofs.FieldsOfWords.{HasFields, fields_of, i_fields, s_fields, b_fields, u_fields, j_fields, imm_i_of, imm_s_of, imm_b_of, imm_j_of}

-- ---- the row that a word with these fields meets

upper_row_is : (w d imm : ℕ) → opcode w ≡ 0x37 → rd w ≡ d → imm_u w ≡ imm → instr w ≡ Some (Upper Lui d imm)
upper_row_is w d imm eo ed ei = ap (λ o. row_of o w) eo ∙ ap (λ x. Some (Upper Lui x (imm_u w))) ed ∙ ap (λ x. Some (Upper Lui d x)) ei

auipc_row_is : (w d imm : ℕ) → opcode w ≡ 0x17 → rd w ≡ d → imm_u w ≡ imm → instr w ≡ Some (Upper Auipc d imm)
auipc_row_is w d imm eo ed ei = ap (λ o. row_of o w) eo ∙ ap (λ x. Some (Upper Auipc x (imm_u w))) ed ∙ ap (λ x. Some (Upper Auipc d x)) ei

jal_row_is : (w d : ℕ) (z : ℤ) → opcode w ≡ 0x6F → rd w ≡ d → imm_j w ≡ z → instr w ≡ Some (Jal d z)
jal_row_is w d z eo ed ei = ap (λ o. row_of o w) eo ∙ ap (λ x. Some (Jal x (imm_j w))) ed ∙ ap (λ x. Some (Jal d x)) ei

op_row_is : (w f d a b g : ℕ) → HasFields w 0x33 f d a b g → instr w ≡ option_map (λ x. Op x d a b) (reg_op_of f g)
op_row_is w f d a b g h =
    ap (λ o. row_of o w) h.opcode_is
    ∙ ap (λ y. option_map (λ x. Op x y (rs1 w) (rs2 w)) (reg_op_of (funct3 w) (funct7 w))) h.rd_is
    ∙ ap (λ y. option_map (λ x. Op x d y (rs2 w)) (reg_op_of (funct3 w) (funct7 w))) h.rs1_is
    ∙ ap (λ y. option_map (λ x. Op x d a y) (reg_op_of (funct3 w) (funct7 w))) h.rs2_is
    ∙ ap (λ y. option_map (λ x. Op x d a b) (reg_op_of y (funct7 w))) h.funct3_is
    ∙ ap (λ y. option_map (λ x. Op x d a b) (reg_op_of f y)) h.funct7_is

jalr_row_is : (w d a : ℕ) (z : ℤ) (b g : ℕ) → HasFields w 0x67 0 d a b g → imm_i w ≡ z → instr w ≡ Some (Jalr d a z)
jalr_row_is w d a z b g h ei =
    ap (λ o. row_of o w) h.opcode_is
    ∙ ap (λ y. if y == 0 then Some (Jalr (rd w) (rs1 w) (imm_i w)) else None) h.funct3_is
    ∙ ap (λ y. Some (Jalr y (rs1 w) (imm_i w))) h.rd_is
    ∙ ap (λ y. Some (Jalr d y (imm_i w))) h.rs1_is
    ∙ ap (λ y. Some (Jalr d a y)) ei

branch_row_is : (w f a b : ℕ) (z : ℤ) (d g : ℕ) → HasFields w 0x63 f d a b g → imm_b w ≡ z → instr w ≡ option_map (λ c. Branch c a b z) (cond_of f)
branch_row_is w f a b z d g h ei =
    ap (λ o. row_of o w) h.opcode_is
    ∙ ap (λ y. option_map (λ c. Branch c y (rs2 w) (imm_b w)) (cond_of (funct3 w))) h.rs1_is
    ∙ ap (λ y. option_map (λ c. Branch c a y (imm_b w)) (cond_of (funct3 w))) h.rs2_is
    ∙ ap (λ y. option_map (λ c. Branch c a b y) (cond_of (funct3 w))) ei
    ∙ ap (λ y. option_map (λ c. Branch c a b z) (cond_of y)) h.funct3_is

load_row_is : (w f d a : ℕ) (z : ℤ) (b g : ℕ) → HasFields w 0x03 f d a b g → imm_i w ≡ z → instr w ≡ option_map (λ x. Load x d a z) (load_width_of f)
load_row_is w f d a z b g h ei =
    ap (λ o. row_of o w) h.opcode_is
    ∙ ap (λ y. option_map (λ x. Load x y (rs1 w) (imm_i w)) (load_width_of (funct3 w))) h.rd_is
    ∙ ap (λ y. option_map (λ x. Load x d y (imm_i w)) (load_width_of (funct3 w))) h.rs1_is
    ∙ ap (λ y. option_map (λ x. Load x d a y) (load_width_of (funct3 w))) ei
    ∙ ap (λ y. option_map (λ x. Load x d a z) (load_width_of y)) h.funct3_is

store_row_is : (w f a b : ℕ) (z : ℤ) (d g : ℕ) → HasFields w 0x23 f d a b g → imm_s w ≡ z → instr w ≡ option_map (λ x. Store x a b z) (store_width_of f)
store_row_is w f a b z d g h ei =
    ap (λ o. row_of o w) h.opcode_is
    ∙ ap (λ y. option_map (λ x. Store x y (rs2 w) (imm_s w)) (store_width_of (funct3 w))) h.rs1_is
    ∙ ap (λ y. option_map (λ x. Store x a y (imm_s w)) (store_width_of (funct3 w))) h.rs2_is
    ∙ ap (λ y. option_map (λ x. Store x a b y) (store_width_of (funct3 w))) ei
    ∙ ap (λ y. option_map (λ x. Store x a b z) (store_width_of y)) h.funct3_is

-- opcode 0x13: what the row is by funct3, funct7, the rs2 field and the immediate
imm_row_at : ℕ → ℕ → ℕ → ℕ → ℕ → ℤ → Option Instr
imm_row_at f g d a b z =
    if f == 1 then option_map (λ o. OpImm o d a (pos b)) (shift_of f g) else (
    if f == 5 then option_map (λ o. OpImm o d a (pos b)) (shift_of f g) else
    option_map (λ o. OpImm o d a z) (imm_op_of f))

imm_row_is : (w f d a b g : ℕ) (z : ℤ) → HasFields w 0x13 f d a b g → imm_i w ≡ z → instr w ≡ imm_row_at f g d a b z
unfolding imm_row_at
imm_row_is w f d a b g z h ei =
    ap (λ o. row_of o w) h.opcode_is
    ∙ ap (λ y. imm_row_at (funct3 w) (funct7 w) y (rs1 w) (rs2 w) (imm_i w)) h.rd_is
    ∙ ap (λ y. imm_row_at (funct3 w) (funct7 w) d y (rs2 w) (imm_i w)) h.rs1_is
    ∙ ap (λ y. imm_row_at (funct3 w) (funct7 w) d a y (imm_i w)) h.rs2_is
    ∙ ap (λ y. imm_row_at (funct3 w) (funct7 w) d a b y) ei
    ∙ ap (λ y. imm_row_at y (funct7 w) d a b z) h.funct3_is
    ∙ ap (λ y. imm_row_at f y d a b z) h.funct7_is

-- ---- the word of each instruction

upper_back : (op : UpperOp) (w d n : ℕ) → w ≡ u_type (upper_opcode op) d n → d < 32 → n < 2 ^ 32 → n % 2 ^ 12 ≡ 0 → instr w ≡ Some (Upper op d n)
upper_back Lui w d n e pd pn h = let f = u_fields w 0x37 d n e (omega arith) pd pn h in upper_row_is w d n f.0 f.1 f.2
upper_back Auipc w d n e pd pn h = let f = u_fields w 0x17 d n e (omega arith) pd pn h in auipc_row_is w d n f.0 f.1 f.2

jal_back : (w d : ℕ) (z : ℤ) → w ≡ j_type 0x6F d (word_of z) → d < 32 → IsJumpOffset z → instr w ≡ Some (Jal d z)
jal_back w d z e pd h =
    let f = j_fields w 0x6F d (word_of z) e (omega arith) pd in
    jal_row_is w d z f.0 f.1 (imm_j_of w 0x6F d (word_of z) z e refl h (omega arith) pd)

jalr_back : (w d a : ℕ) (z : ℤ) → w ≡ i_type 0x67 0 d a (word_of z) → d < 32 → a < 32 → IsShortOffset z → instr w ≡ Some (Jalr d a z)
jalr_back w d a z e pd pa h =
    jalr_row_is w d a z (word_of z % 2 ^ 5) (word_of z / 2 ^ 5 % 2 ^ 7)
    (i_fields w 0x67 0 d a (word_of z) e (omega arith) (omega arith) pd pa)
    (imm_i_of w 0x67 0 d a (word_of z) z e refl h (omega arith) (omega arith) pd pa)

cond_below : (c : Cond) → cond_code c < 8
cond_below c = elim c as (λ x. cond_code x < 8) [ Conds.Eq ↦ omega arith | _ ↦ omega arith ]

cond_back : (c : Cond) (a b : ℕ) (z : ℤ) → option_map (λ x. Branch x a b z) (cond_of (cond_code c)) ≡ Some (Branch c a b z)
cond_back c a b z = elim c as (λ x. option_map (λ y. Branch y a b z) (cond_of (cond_code x)) ≡ Some (Branch x a b z)) [ Conds.Eq ↦ refl | _ ↦ refl ]

branch_back : (c : Cond) (w a b : ℕ) (z : ℤ) → w ≡ b_type 0x63 (cond_code c) a b (word_of z) → a < 32 → b < 32 → IsBranchOffset z → instr w ≡ Some (Branch c a b z)
branch_back c w a b z e pa pb h =
    let n : ℕ = word_of z in
    branch_row_is w (cond_code c) a b z (field 11 11 n + field 4 1 n * 2) (field 10 5 n + field 12 12 n * 2 ^ 6)
    (b_fields w 0x63 (cond_code c) a b n e (omega arith) (cond_below c) pa pb)
    (imm_b_of w 0x63 (cond_code c) a b n z e refl h (omega arith) (cond_below c) pa pb)
    ∙ cond_back c a b z

load_below : (x : LoadWidth) → load_code x < 8
load_below x = elim x as (λ y. load_code y < 8) [ Loads.B ↦ omega arith | _ ↦ omega arith ]

load_width_back : (x : LoadWidth) (d a : ℕ) (z : ℤ) → option_map (λ y. Load y d a z) (load_width_of (load_code x)) ≡ Some (Load x d a z)
load_width_back x d a z = elim x as (λ u. option_map (λ y. Load y d a z) (load_width_of (load_code u)) ≡ Some (Load u d a z)) [ Loads.B ↦ refl | _ ↦ refl ]

load_back : (x : LoadWidth) (w d a : ℕ) (z : ℤ) → w ≡ i_type 0x03 (load_code x) d a (word_of z) → d < 32 → a < 32 → IsShortOffset z → instr w ≡ Some (Load x d a z)
load_back x w d a z e pd pa h =
    load_row_is w (load_code x) d a z (word_of z % 2 ^ 5) (word_of z / 2 ^ 5 % 2 ^ 7)
    (i_fields w 0x03 (load_code x) d a (word_of z) e (omega arith) (load_below x) pd pa)
    (imm_i_of w 0x03 (load_code x) d a (word_of z) z e refl h (omega arith) (load_below x) pd pa)
    ∙ load_width_back x d a z

store_below : (x : StoreWidth) → store_code x < 8
store_below x = elim x as (λ y. store_code y < 8) [ Stores.B ↦ omega arith | _ ↦ omega arith ]

store_width_back : (x : StoreWidth) (a b : ℕ) (z : ℤ) → option_map (λ y. Store y a b z) (store_width_of (store_code x)) ≡ Some (Store x a b z)
store_width_back x a b z = elim x as (λ u. option_map (λ y. Store y a b z) (store_width_of (store_code u)) ≡ Some (Store u a b z)) [ Stores.B ↦ refl | _ ↦ refl ]

store_back : (x : StoreWidth) (w a b : ℕ) (z : ℤ) → w ≡ s_type 0x23 (store_code x) a b (word_of z) → a < 32 → b < 32 → IsShortOffset z → instr w ≡ Some (Store x a b z)
store_back x w a b z e pa pb h =
    store_row_is w (store_code x) a b z (word_of z % 2 ^ 5) (word_of z / 2 ^ 5 % 2 ^ 7)
    (s_fields w 0x23 (store_code x) a b (word_of z) e (omega arith) (store_below x) pa pb)
    (imm_s_of w 0x23 (store_code x) a b (word_of z) z e refl h (omega arith) (store_below x) pa pb)
    ∙ store_width_back x a b z

-- operations with an immediate of 12 bits
short_back : (op : ImmOp) (f w d a : ℕ) (z : ℤ) → ((b g : ℕ) → imm_row_at f g d a b z ≡ Some (OpImm op d a z))
    → w ≡ i_type 0x13 f d a (word_of z) → f < 8 → d < 32 → a < 32 → IsShortOffset z → instr w ≡ Some (OpImm op d a z)
short_back op f w d a z r e pf pd pa h =
    let n : ℕ = word_of z in
    imm_row_is w f d a (n % 2 ^ 5) (n / 2 ^ 5 % 2 ^ 7) z
    (i_fields w 0x13 f d a n e (omega arith) pf pd pa)
    (imm_i_of w 0x13 f d a n z e refl h (omega arith) pf pd pa)
    ∙ r (n % 2 ^ 5) (n / 2 ^ 5 % 2 ^ 7)

-- shifts, with funct7 g
shift_back : (op : ImmOp) (f g w d a : ℕ) (z : ℤ) → ((y : ℤ) (b : ℕ) → imm_row_at f g d a b y ≡ Some (OpImm op d a (pos b)))
    → w ≡ i_type 0x13 f d a (word_of z + g * 2 ^ 5) → f < 8 → g < 128 → d < 32 → a < 32 → IsShiftAmount z → instr w ≡ Some (OpImm op d a z)
shift_back op f g w d a (pos m) r e pf pg pd pa h =
    let n : ℕ = m + g * 2 ^ 5 in
    let small : m ≤ 31 = omega (arith, ints) in
    let amount : n % 2 ^ 5 ≡ m = omega arith in
    let kind : n / 2 ^ 5 % 2 ^ 7 ≡ g = omega arith in
    imm_row_is w f d a (n % 2 ^ 5) (n / 2 ^ 5 % 2 ^ 7) (imm_i w) (i_fields w 0x13 f d a n e (omega arith) pf pd pa) refl
    ∙ ap (λ y. imm_row_at f (n / 2 ^ 5 % 2 ^ 7) d a y (imm_i w)) amount
    ∙ ap (λ y. imm_row_at f y d a m (imm_i w)) kind
    ∙ r (imm_i w) m
shift_back op f g w d a (negsuc m) r e pf pg pd pa h = absurd (omega (arith, ints))

plain : (f d a : ℕ) (z : ℤ) → i_type 0x13 f d a (word_of z + 0) ≡ i_type 0x13 f d a (word_of z)
plain f d a z = ap (i_type 0x13 f d a) (add-zero (word_of z))

op_imm_back : (op : ImmOp) (w d a : ℕ) (z : ℤ) → w ≡ encoding (OpImm op d a z) → IsInRange (OpImm op d a z) → instr w ≡ Some (OpImm op d a z)
unfolding imm_row_at
op_imm_back ImmOps.Add w d a z e h = short_back ImmOps.Add 0 w d a z (λ b g. refl) (e ∙ plain 0 d a z) (omega arith) h.0 h.1 h.2
op_imm_back ImmOps.Slt w d a z e h = short_back ImmOps.Slt 2 w d a z (λ b g. refl) (e ∙ plain 2 d a z) (omega arith) h.0 h.1 h.2
op_imm_back ImmOps.Sltu w d a z e h = short_back ImmOps.Sltu 3 w d a z (λ b g. refl) (e ∙ plain 3 d a z) (omega arith) h.0 h.1 h.2
op_imm_back ImmOps.Xor w d a z e h = short_back ImmOps.Xor 4 w d a z (λ b g. refl) (e ∙ plain 4 d a z) (omega arith) h.0 h.1 h.2
op_imm_back ImmOps.Or w d a z e h = short_back ImmOps.Or 6 w d a z (λ b g. refl) (e ∙ plain 6 d a z) (omega arith) h.0 h.1 h.2
op_imm_back ImmOps.And w d a z e h = short_back ImmOps.And 7 w d a z (λ b g. refl) (e ∙ plain 7 d a z) (omega arith) h.0 h.1 h.2
op_imm_back ImmOps.Sll w d a z e h = shift_back ImmOps.Sll 1 0 w d a z (λ y b. refl) e (omega arith) (omega arith) h.0 h.1 h.2
op_imm_back ImmOps.Srl w d a z e h = shift_back ImmOps.Srl 5 0 w d a z (λ y b. refl) e (omega arith) (omega arith) h.0 h.1 h.2
op_imm_back ImmOps.Sra w d a z e h = shift_back ImmOps.Sra 5 0x20 w d a z (λ y b. refl) e (omega arith) (omega arith) h.0 h.1 h.2

codes_below : (op : RegOp) → (reg_op_code op < 8) × (reg_op_kind op < 128)
codes_below op = elim op as (λ o. (reg_op_code o < 8) × (reg_op_kind o < 128)) [ RegOps.Add ↦ (omega arith, omega arith) | _ ↦ (omega arith, omega arith) ]

op_back : (op : RegOp) (w d a b : ℕ) → w ≡ r_type 0x33 (reg_op_code op) d a b (reg_op_kind op) → d < 32 → a < 32 → b < 32 → instr w ≡ Some (Op op d a b)
op_back op w d a b e pd pa pb =
    let below = codes_below op in
    op_row_is w (reg_op_code op) d a b (reg_op_kind op) (fields_of w 0x33 (reg_op_code op) d a b (reg_op_kind op) e (omega arith) below.0 pd pa pb below.1)
    ∙ elim op as (λ o. option_map (λ x. Op x d a b) (reg_op_of (reg_op_code o) (reg_op_kind o)) ≡ Some (Op o d a b)) [ RegOps.Add ↦ refl | _ ↦ refl ]

pub reads_back : (i : Instr) (w : ℕ) → w ≡ encoding i → IsInRange i → instr w ≡ Some i
reads_back (Upper op d n) w e h = upper_back op w d n e h.0 h.1 h.2
reads_back (Jal d z) w e h = jal_back w d z e h.0 h.1
reads_back (Jalr d a z) w e h = jalr_back w d a z e h.0 h.1 h.2
reads_back (Branch c a b z) w e h = branch_back c w a b z e h.0 h.1 h.2
reads_back (Load x d a z) w e h = load_back x w d a z e h.0 h.1 h.2
reads_back (Store x a b z) w e h = store_back x w a b z e h.0 h.1 h.2
reads_back (OpImm op d a z) w e h = op_imm_back op w d a z e h
reads_back (Op op d a b) w e h = op_back op w d a b e h.0 h.1 h.2
reads_back Fence w e h = ap instr e
reads_back Ecall w e h = ap instr e
reads_back Ebreak w e h = ap instr e
