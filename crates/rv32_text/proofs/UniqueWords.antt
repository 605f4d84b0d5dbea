-- A word that has a row in the instruction table, but for FENCE, is the encoding of its instruction
use Rattle.std.proofs.Common.{◌≡◌, ◌≢◌, ℕ, ◌+◌, ◌*◌, ◌<◌, ◌^◌, Bool, true, false, Option, Some, None, refl, sym, ap, subst, ◌∙◌, arith, pos}
use Rattle.std.specs.Prelude.{◌%◌, ◌==◌, if◌then◌else◌, option_map}
use Rattle.std.proofs.lemmas.Int.{ints}
use Rattle.std.proofs.lemmas.Bool.{eqb-true}
use Rattle.std.proofs.lemmas.Bool.Decides.{nat_tests}
use Rattle.guest_model.specs.Word.{field, sign_extend, word_of, opcode, rd, funct3, rs1, rs2, funct7, imm_i, imm_s, imm_b, imm_u, imm_j}
use Rattle.guest_model.specs.InstructionTable.{row_of, instr, cond_of, load_width_of, store_width_of, imm_op_of, shift_of, reg_op_of, shift_row, imm_row}
use Rattle.guest_model.specs.declared.instr.Instr.{Instr}
use Rattle.guest_model.specs.declared.instr.Instr.TheVariants.{Upper, Jal, Jalr, Branch, Load, Store, OpImm, Op, Fence, Ecall, Ebreak}
use Rattle.guest_model.specs.declared.instr.UpperOp.TheVariants.{Lui, Auipc}
use Rattle.guest_model.specs.declared.instr.Cond.{Cond}
use Rattle.guest_model.specs.declared.instr.Cond.TheVariants as Conds
use Rattle.guest_model.specs.declared.instr.LoadWidth.{LoadWidth}
use Rattle.guest_model.specs.declared.instr.LoadWidth.TheVariants as Loads
use Rattle.guest_model.specs.declared.instr.StoreWidth.{StoreWidth}
use Rattle.guest_model.specs.declared.instr.StoreWidth.TheVariants as Stores
use Rattle.guest_model.specs.declared.instr.ImmOp.{ImmOp}
use Rattle.guest_model.specs.declared.instr.ImmOp.TheVariants as ImmOps
use Rattle.guest_model.specs.declared.instr.RegOp.{RegOp}
use Rattle.guest_model.specs.declared.instr.RegOp.TheVariants as RegOps
use Rattle.rv32_asm.specs.Encoding.{r_type, i_type, s_type, b_type, u_type, j_type, cond_code, load_code, store_code, imm_op_code, shift_kind, reg_op_code, reg_op_kind, encoding}

-- ---- immediates

short_back : (x : ℕ) → x < 4096 → field 11 0 (word_of (sign_extend 12 x)) ≡ x
short_back x h = grind (arith, nat_tests, ints)

branch_back : (x : ℕ) → x < 8192 → word_of (sign_extend 13 x) % 2 ^ 13 ≡ x
branch_back x h = grind (arith, nat_tests, ints)

jump_back : (x : ℕ) → x < 2097152 → word_of (sign_extend 21 x) % 2 ^ 21 ≡ x
jump_back x h = grind (arith, nat_tests, ints)

-- ---- the words of each format, from their fields

module _ (w : ℕ) (small : w < 2 ^ 32) where
  is_r : w ≡ r_type (opcode w) (funct3 w) (rd w) (rs1 w) (rs2 w) (funct7 w)
  is_r = omega arith

  is_i : w ≡ i_type (opcode w) (funct3 w) (rd w) (rs1 w) (word_of (imm_i w))
  is_i = (let back : field 11 0 (word_of (imm_i w)) ≡ field 31 20 w = short_back (field 31 20 w) (omega arith) in omega (arith, back))

  is_s : w ≡ s_type (opcode w) (funct3 w) (rs1 w) (rs2 w) (word_of (imm_s w))
  is_s =
      let back : field 11 0 (word_of (imm_s w)) ≡ field 31 25 w * 2 ^ 5 + field 11 7 w = short_back (field 31 25 w * 2 ^ 5 + field 11 7 w) (omega arith) in
      let low : field 4 0 (word_of (imm_s w)) ≡ field 11 7 w = omega (arith, back) in
      let high : field 11 5 (word_of (imm_s w)) ≡ field 31 25 w = omega (arith, back) in
      omega (arith, low, high)

  is_u : w ≡ u_type (opcode w) (rd w) (imm_u w)
  is_u = (let back : field 31 12 (imm_u w) ≡ field 31 12 w = omega arith in omega (arith, back))

  is_b : w ≡ b_type (opcode w) (funct3 w) (rs1 w) (rs2 w) (word_of (imm_b w))
  is_b =
      let back : word_of (imm_b w) % 2 ^ 13 ≡ field 31 31 w * 2 ^ 12 + field 7 7 w * 2 ^ 11 + field 30 25 w * 2 ^ 5 + field 11 8 w * 2 =
      branch_back (field 31 31 w * 2 ^ 12 + field 7 7 w * 2 ^ 11 + field 30 25 w * 2 ^ 5 + field 11 8 w * 2) (omega arith) in
      let e12 : field 12 12 (word_of (imm_b w)) ≡ field 31 31 w = omega (arith, back) in
      let e11 : field 11 11 (word_of (imm_b w)) ≡ field 7 7 w = omega (arith, back) in
      let e5 : field 10 5 (word_of (imm_b w)) ≡ field 30 25 w = omega (arith, back) in
      let e1 : field 4 1 (word_of (imm_b w)) ≡ field 11 8 w = omega (arith, back) in
      omega (arith, e12, e11, e5, e1)

  is_j : w ≡ j_type (opcode w) (rd w) (word_of (imm_j w))
  is_j =
      let back : word_of (imm_j w) % 2 ^ 21 ≡ field 31 31 w * 2 ^ 20 + field 19 12 w * 2 ^ 12 + field 20 20 w * 2 ^ 11 + field 30 21 w * 2 =
      jump_back (field 31 31 w * 2 ^ 20 + field 19 12 w * 2 ^ 12 + field 20 20 w * 2 ^ 11 + field 30 21 w * 2) (omega arith) in
      let e20 : field 20 20 (word_of (imm_j w)) ≡ field 31 31 w = omega (arith, back) in
      let e12 : field 19 12 (word_of (imm_j w)) ≡ field 19 12 w = omega (arith, back) in
      let e11 : field 11 11 (word_of (imm_j w)) ≡ field 20 20 w = omega (arith, back) in
      let e1 : field 10 1 (word_of (imm_j w)) ≡ field 30 21 w = omega (arith, back) in
      omega (arith, e20, e12, e11, e1)

-- ---- choices of the table

-- an option whose value, if there is one, has this property
abbrev Gives : {A : Type 0} → (A → Type 0) → Option A → Type 0
Gives {A} P o = (a : A) → o ≡ Some a → P a

gives_none : {A : Type 0} (P : A → Type 0) → Gives P None
gives_none P a e = absurd (cc)

gives_some : {A : Type 0} (P : A → Type 0) (x : A) → P x → Gives P (Some x)
gives_some P x h a e = (let same : x ≡ a = cc in subst P same h)

gives_if : {A : Type 0} (P : A → Type 0) (b : Bool) (x y : Option A) → (b ≡ true → Gives P x) → Gives P y → Gives P (if b then x else y)
gives_if P true x y h k = h refl
gives_if P false x y h k = k

gives_map : {A B : Type 0} (Q : A → Type 0) (P : B → Type 0) (f : A → B) (o : Option A) → Gives Q o → ((a : A) → Q a → P (f a)) → Gives P (option_map f o)
gives_map Q P f None h k b e = absurd (cc)
gives_map Q P f (Some a) h k b e = (let same : f a ≡ b = cc in subst P same (k a (h a refl)))

-- ---- the codes of operations

cond_gives : (f : ℕ) → Gives (λ c. cond_code c ≡ f) (cond_of f)
cond_gives f =
    let P : Cond → Type 0 = λ c. cond_code c ≡ f in
    gives_if P (f == 0) _ _ (λ t. gives_some P Conds.Eq (sym (eqb-true f 0 t)))
    (gives_if P (f == 1) _ _ (λ t. gives_some P Conds.Ne (sym (eqb-true f 1 t)))
    (gives_if P (f == 4) _ _ (λ t. gives_some P Conds.Lt (sym (eqb-true f 4 t)))
    (gives_if P (f == 5) _ _ (λ t. gives_some P Conds.Ge (sym (eqb-true f 5 t)))
    (gives_if P (f == 6) _ _ (λ t. gives_some P Conds.Ltu (sym (eqb-true f 6 t)))
    (gives_if P (f == 7) _ _ (λ t. gives_some P Conds.Geu (sym (eqb-true f 7 t))) (gives_none P))))))

load_gives : (f : ℕ) → Gives (λ x. load_code x ≡ f) (load_width_of f)
load_gives f =
    let P : LoadWidth → Type 0 = λ x. load_code x ≡ f in
    gives_if P (f == 0) _ _ (λ t. gives_some P Loads.B (sym (eqb-true f 0 t)))
    (gives_if P (f == 1) _ _ (λ t. gives_some P Loads.H (sym (eqb-true f 1 t)))
    (gives_if P (f == 2) _ _ (λ t. gives_some P Loads.W (sym (eqb-true f 2 t)))
    (gives_if P (f == 4) _ _ (λ t. gives_some P Loads.Bu (sym (eqb-true f 4 t)))
    (gives_if P (f == 5) _ _ (λ t. gives_some P Loads.Hu (sym (eqb-true f 5 t))) (gives_none P)))))

store_gives : (f : ℕ) → Gives (λ x. store_code x ≡ f) (store_width_of f)
store_gives f =
    let P : StoreWidth → Type 0 = λ x. store_code x ≡ f in
    gives_if P (f == 0) _ _ (λ t. gives_some P Stores.B (sym (eqb-true f 0 t)))
    (gives_if P (f == 1) _ _ (λ t. gives_some P Stores.H (sym (eqb-true f 1 t)))
    (gives_if P (f == 2) _ _ (λ t. gives_some P Stores.W (sym (eqb-true f 2 t))) (gives_none P)))

abbrev ImmIs : ℕ → ImmOp → Type 0
ImmIs f o = (imm_op_code o ≡ f) × (shift_kind o ≡ 0)

imm_gives : (f : ℕ) → Gives (ImmIs f) (imm_op_of f)
imm_gives f =
    gives_if (ImmIs f) (f == 0) _ _ (λ t. gives_some (ImmIs f) ImmOps.Add (sym (eqb-true f 0 t), refl))
    (gives_if (ImmIs f) (f == 2) _ _ (λ t. gives_some (ImmIs f) ImmOps.Slt (sym (eqb-true f 2 t), refl))
    (gives_if (ImmIs f) (f == 3) _ _ (λ t. gives_some (ImmIs f) ImmOps.Sltu (sym (eqb-true f 3 t), refl))
    (gives_if (ImmIs f) (f == 4) _ _ (λ t. gives_some (ImmIs f) ImmOps.Xor (sym (eqb-true f 4 t), refl))
    (gives_if (ImmIs f) (f == 6) _ _ (λ t. gives_some (ImmIs f) ImmOps.Or (sym (eqb-true f 6 t), refl))
    (gives_if (ImmIs f) (f == 7) _ _ (λ t. gives_some (ImmIs f) ImmOps.And (sym (eqb-true f 7 t), refl)) (gives_none (ImmIs f)))))))

abbrev ShiftIs : ℕ → ℕ → ImmOp → Type 0
ShiftIs f g o = (imm_op_code o ≡ f) × (shift_kind o ≡ g * 2 ^ 5)

shift_gives : (f g : ℕ) → Gives (ShiftIs f g) (shift_of f g)
shift_gives f g =
    gives_if (ShiftIs f g) (f == 1) _ _
    (λ t. gives_if (ShiftIs f g) (g == 0) _ None (λ u. gives_some (ShiftIs f g) ImmOps.Sll (sym (eqb-true f 1 t), (let none : g ≡ 0 = eqb-true g 0 u in omega arith))) (gives_none (ShiftIs f g)))
    (gives_if (ShiftIs f g) (f == 5) _ None
    (λ t. gives_if (ShiftIs f g) (g == 0) _ _ (λ u. gives_some (ShiftIs f g) ImmOps.Srl (sym (eqb-true f 5 t), (let none : g ≡ 0 = eqb-true g 0 u in omega arith)))
    (gives_if (ShiftIs f g) (g == 0x20) _ None (λ u. gives_some (ShiftIs f g) ImmOps.Sra (sym (eqb-true f 5 t), (let kind : g ≡ 0x20 = eqb-true g 0x20 u in omega arith))) (gives_none (ShiftIs f g))))
    (gives_none (ShiftIs f g)))

abbrev OpIs : ℕ → ℕ → RegOp → Type 0
OpIs f g o = (reg_op_code o ≡ f) × (reg_op_kind o ≡ g)

op_gives : (f g : ℕ) → Gives (OpIs f g) (reg_op_of f g)
op_gives f g =
    let P : RegOp → Type 0 = OpIs f g in
    gives_if P (g == 0) _ _
    (λ k. let e : 0 ≡ g = sym (eqb-true g 0 k) in
    gives_if P (f == 0) _ _ (λ t. gives_some P RegOps.Add (sym (eqb-true f 0 t), e))
    (gives_if P (f == 1) _ _ (λ t. gives_some P RegOps.Sll (sym (eqb-true f 1 t), e))
    (gives_if P (f == 2) _ _ (λ t. gives_some P RegOps.Slt (sym (eqb-true f 2 t), e))
    (gives_if P (f == 3) _ _ (λ t. gives_some P RegOps.Sltu (sym (eqb-true f 3 t), e))
    (gives_if P (f == 4) _ _ (λ t. gives_some P RegOps.Xor (sym (eqb-true f 4 t), e))
    (gives_if P (f == 5) _ _ (λ t. gives_some P RegOps.Srl (sym (eqb-true f 5 t), e))
    (gives_if P (f == 6) _ _ (λ t. gives_some P RegOps.Or (sym (eqb-true f 6 t), e))
    (gives_if P (f == 7) _ _ (λ t. gives_some P RegOps.And (sym (eqb-true f 7 t), e)) (gives_none P)))))))))
    (gives_if P (g == 0x20) _ _
    (λ k. let e : 0x20 ≡ g = sym (eqb-true g 0x20 k) in
    gives_if P (f == 0) _ _ (λ t. gives_some P RegOps.Sub (sym (eqb-true f 0 t), e))
    (gives_if P (f == 5) _ _ (λ t. gives_some P RegOps.Sra (sym (eqb-true f 5 t), e)) (gives_none P)))
    (gives_if P (g == 1) _ None
    (λ k. let e : 1 ≡ g = sym (eqb-true g 1 k) in
    gives_if P (f == 0) _ _ (λ t. gives_some P RegOps.Mul (sym (eqb-true f 0 t), e))
    (gives_if P (f == 1) _ _ (λ t. gives_some P RegOps.Mulh (sym (eqb-true f 1 t), e))
    (gives_if P (f == 2) _ _ (λ t. gives_some P RegOps.Mulhsu (sym (eqb-true f 2 t), e))
    (gives_if P (f == 3) _ _ (λ t. gives_some P RegOps.Mulhu (sym (eqb-true f 3 t), e))
    (gives_if P (f == 4) _ _ (λ t. gives_some P RegOps.Div (sym (eqb-true f 4 t), e))
    (gives_if P (f == 5) _ _ (λ t. gives_some P RegOps.Divu (sym (eqb-true f 5 t), e))
    (gives_if P (f == 6) _ _ (λ t. gives_some P RegOps.Rem (sym (eqb-true f 6 t), e))
    (gives_if P (f == 7) _ _ (λ t. gives_some P RegOps.Remu (sym (eqb-true f 7 t), e)) (gives_none P)))))))))
    (gives_none P)))

-- ---- rows

-- w is the encoding of an instruction, if that isn't FENCE
abbrev Encodes : ℕ → Instr → Type 0
Encodes w i = i ≢ Fence → w ≡ encoding i

module _ (w : ℕ) (small : w < 2 ^ 32) where
  i_form : (o f n : ℕ) → opcode w ≡ o → f ≡ funct3 w → n % 2 ^ 12 ≡ field 31 20 w → w ≡ i_type o f (rd w) (rs1 w) n
  i_form o f n eo ef en = omega (arith, eo, ef, en)

  shift_encodes : opcode w ≡ 0x13 → Gives (Encodes w) (shift_row w)
  shift_encodes eo =
      gives_map (ShiftIs (funct3 w) (funct7 w)) (Encodes w) (λ o. OpImm o (rd w) (rs1 w) (pos (rs2 w))) (shift_of (funct3 w) (funct7 w)) (shift_gives (funct3 w) (funct7 w))
      (λ o h other. i_form 0x13 (imm_op_code o) (rs2 w + shift_kind o) eo h.0 (let kind : shift_kind o ≡ funct7 w * 2 ^ 5 = h.1 in omega (arith, kind)))

  imm_encodes : opcode w ≡ 0x13 → Gives (Encodes w) (imm_row w)
  imm_encodes eo =
      gives_if (Encodes w) (funct3 w == 1) _ _ (λ t. shift_encodes eo)
      (gives_if (Encodes w) (funct3 w == 5) _ _ (λ t. shift_encodes eo)
      (gives_map (ImmIs (funct3 w)) (Encodes w) (λ o. OpImm o (rd w) (rs1 w) (imm_i w)) (imm_op_of (funct3 w)) (imm_gives (funct3 w))
      (λ o h other. i_form 0x13 (imm_op_code o) (word_of (imm_i w) + shift_kind o) eo h.0
      (let none : shift_kind o ≡ 0 = h.1 in let back : field 11 0 (word_of (imm_i w)) ≡ field 31 20 w = short_back (field 31 20 w) (omega arith) in omega (arith, none, back)))))

  row_encodes : (o : ℕ) → opcode w ≡ o → Gives (Encodes w) (row_of o w)
  row_encodes o eo =
      let code : (n : ℕ) → (o == n) ≡ true → opcode w ≡ n = λ n t. eo ∙ eqb-true o n t in
      gives_if (Encodes w) (o == 0x37) _ _ (λ t. gives_some (Encodes w) (Upper Lui (rd w) (imm_u w)) (λ other. is_u w small ∙ ap (λ x. u_type x (rd w) (imm_u w)) (code 0x37 t)))
      (gives_if (Encodes w) (o == 0x17) _ _ (λ t. gives_some (Encodes w) (Upper Auipc (rd w) (imm_u w)) (λ other. is_u w small ∙ ap (λ x. u_type x (rd w) (imm_u w)) (code 0x17 t)))
      (gives_if (Encodes w) (o == 0x6F) _ _ (λ t. gives_some (Encodes w) (Jal (rd w) (imm_j w)) (λ other. is_j w small ∙ ap (λ x. j_type x (rd w) (word_of (imm_j w))) (code 0x6F t)))
      (gives_if (Encodes w) (o == 0x67) _ _ (λ t. gives_if (Encodes w) (funct3 w == 0) _ None
      (λ u. gives_some (Encodes w) (Jalr (rd w) (rs1 w) (imm_i w)) (λ other. is_i w small ∙ (ap (λ x. i_type x (funct3 w) (rd w) (rs1 w) (word_of (imm_i w))) (code 0x67 t) ∙ ap (λ x. i_type 0x67 x (rd w) (rs1 w) (word_of (imm_i w))) (eqb-true (funct3 w) 0 u)))) (gives_none (Encodes w)))
      (gives_if (Encodes w) (o == 0x63) _ _ (λ t. gives_map (λ c. cond_code c ≡ funct3 w) (Encodes w) (λ c. Branch c (rs1 w) (rs2 w) (imm_b w)) (cond_of (funct3 w)) (cond_gives (funct3 w))
      (λ c h other. is_b w small ∙ (ap (λ x. b_type x (funct3 w) (rs1 w) (rs2 w) (word_of (imm_b w))) (code 0x63 t) ∙ ap (λ x. b_type 0x63 x (rs1 w) (rs2 w) (word_of (imm_b w))) (sym h))))
      (gives_if (Encodes w) (o == 0x03) _ _ (λ t. gives_map (λ x. load_code x ≡ funct3 w) (Encodes w) (λ x. Load x (rd w) (rs1 w) (imm_i w)) (load_width_of (funct3 w)) (load_gives (funct3 w))
      (λ c h other. is_i w small ∙ (ap (λ x. i_type x (funct3 w) (rd w) (rs1 w) (word_of (imm_i w))) (code 0x03 t) ∙ ap (λ x. i_type 0x03 x (rd w) (rs1 w) (word_of (imm_i w))) (sym h))))
      (gives_if (Encodes w) (o == 0x23) _ _ (λ t. gives_map (λ x. store_code x ≡ funct3 w) (Encodes w) (λ x. Store x (rs1 w) (rs2 w) (imm_s w)) (store_width_of (funct3 w)) (store_gives (funct3 w))
      (λ c h other. is_s w small ∙ (ap (λ x. s_type x (funct3 w) (rs1 w) (rs2 w) (word_of (imm_s w))) (code 0x23 t) ∙ ap (λ x. s_type 0x23 x (rs1 w) (rs2 w) (word_of (imm_s w))) (sym h))))
      (gives_if (Encodes w) (o == 0x13) _ _ (λ t. imm_encodes (code 0x13 t))
      (gives_if (Encodes w) (o == 0x33) _ _ (λ t. gives_map (OpIs (funct3 w) (funct7 w)) (Encodes w) (λ x. Op x (rd w) (rs1 w) (rs2 w)) (reg_op_of (funct3 w) (funct7 w)) (op_gives (funct3 w) (funct7 w))
      (λ c h other. is_r w small ∙ (ap (λ x. r_type x (funct3 w) (rd w) (rs1 w) (rs2 w) (funct7 w)) (code 0x33 t) ∙ (ap (λ x. r_type 0x33 x (rd w) (rs1 w) (rs2 w) (funct7 w)) (sym h.0) ∙ ap (λ x. r_type 0x33 (reg_op_code c) (rd w) (rs1 w) (rs2 w) x) (sym h.1)))))
      (gives_if (Encodes w) (o == 0x0F) _ _ (λ t. gives_if (Encodes w) (funct3 w == 0) _ None (λ u. gives_some (Encodes w) Fence (λ other. absurd (other refl))) (gives_none (Encodes w)))
      (gives_if (Encodes w) (o == 0x73) _ None (λ t. gives_if (Encodes w) (w == 0x73) _ _ (λ u. gives_some (Encodes w) Ecall (λ other. eqb-true w 0x73 u))
      (gives_if (Encodes w) (w == 0x100073) _ None (λ u. gives_some (Encodes w) Ebreak (λ other. eqb-true w 0x100073 u)) (gives_none (Encodes w)))) (gives_none (Encodes w))))))))))))

  pub unique_word : (i : Instr) → instr w ≡ Some i → i ≢ Fence → w ≡ encoding i
  unique_word i e other = row_encodes (opcode w) refl i e other
