-- The text of a word tells the word
use Rattle.std.proofs.Common.{◌≡◌, ◌≢◌, ℕ, ◌<◌, ◌^◌, Bool, true, false, List, [], ◌∷◌, ◌++◌, codes, decimal, refl, sym, ap, subst, ◌∙◌, ◌⊎◌, inl, inr, Option, Some, None, arith, ℤ, pos}
use Rattle.std.specs.Prelude.{◌/◌, MatchBool}
use Rattle.std.specs.Fmt.{signed_decimal}
use Rattle.std.proofs.lemmas.Fmt.{decimal_injective, signed_decimal_injective}
use Rattle.std.proofs.lemmas.List.{append_cancel_left, append_cancel_right}
use Rattle.guest_model.specs.InstructionTable.{instr}
use Rattle.guest_model.specs.declared.instr.Instr.{Instr}
use Rattle.guest_model.specs.declared.instr.Instr.TheVariants.{Upper, Jal, Jalr, Branch, Load, Store, OpImm, Op, Fence, Ecall, Ebreak}
use Rattle.rv32_asm.specs.Encoding.{is_shift, encoding, IsInRange, IsShiftAmount, IsShortOffset}
use Rattle.rv32_asm.proofs.TableInRange.{table_in_range}
use Rattle.rv32_text.specs.declared.fields.Offset.{Offset}
use Rattle.rv32_text.specs.declared.fields.Offset.TheVariants as Offsets
use Rattle.rv32_text.specs.declared.fields.Field.TheVariants as Fields
use Rattle.rv32_text.specs.declared.mnemonic.Mnemonic.{Mnemonic}
use Rattle.rv32_text.specs.declared.mnemonic.Mnemonic.TheVariants as Mnemonics
use Rattle.rv32_text.specs.Fields.{IsOffset}
use Rattle.rv32_text.specs.Operands.{InField}
use Rattle.rv32_text.specs.Starts.{start_of, mnemonic_of, mnemonic_by}
use Rattle.rv32_text.specs.Texts.{hex_text, register, operands, operands_by, text_of}
use Rattle.rv32_text.proofs.Languages.{Each, cons_head, cons_tail}
use Rattle.rv32_text.proofs.FieldReads.{field_fits, field_letters}
use Rattle.rv32_text.proofs.Hexadecimals.{hex_told}
use Rattle.rv32_text.proofs.MnemonicTable.{start_told}
use Rattle.rv32_text.proofs.UniqueWords.{unique_word}
use Rattle.rv32_text.proofs.WordShapes.{an_amount, operands_any}

record SameCut (xs us ys vs : List ℕ) : Type 0 where
  front : xs ≡ us
  back : ys ≡ vs

-- texts of fields with the same letter behind them, which is in no field
cut_same : (c : ℕ) (xs us ys vs : List ℕ) → (InField c → ⊥) → Each InField xs → Each InField us → xs ++ (c ∷ ys) ≡ us ++ (c ∷ vs) → SameCut xs us ys vs
cut_same c [] [] ys vs outside p q e = record { front = refl; back = cons_tail c c ys vs e }
cut_same c [] (u ∷ us) ys vs outside p q e = (let same : c ≡ u = cons_head c u ys (us ++ (c ∷ vs)) e in absurd (outside (subst (λ (x : ℕ). InField x) (sym same) q.0)))
cut_same c (x ∷ xs) [] ys vs outside p q e = (let same : x ≡ c = cons_head x c (xs ++ (c ∷ ys)) vs e in absurd (outside (subst (λ (y : ℕ). InField y) same p.0)))
cut_same c (x ∷ xs) (u ∷ us) ys vs outside p q e =
    let same : x ≡ u = cons_head x u (xs ++ (c ∷ ys)) (us ++ (c ∷ vs)) e in
    let more = cut_same c xs us ys vs outside p.1 q.1 (cons_tail x u (xs ++ (c ∷ ys)) (us ++ (c ∷ vs)) e) in
    record { front = ap (λ (y : ℕ). y ∷ xs) same ∙ ap (λ (zs : List ℕ). u ∷ zs) more.front; back = more.back }

register_letters : (r : ℕ) → r < 32 → Each InField (register r)
register_letters r h = field_letters Fields.Register (pos r) (an_amount r h)

register_told : (r s : ℕ) → r < 32 → s < 32 → register r ≡ register s → r ≡ s
register_told r s p q e = decimal_injective r s (omega arith) (omega arith) (cons_tail 120 120 (decimal r) (decimal s) e)

record SameRegister (r s : ℕ) (x y : List ℕ) : Type 0 where
  number : r ≡ s
  rest : x ≡ y

-- a register, a comma and the rest
register_cut : (r s : ℕ) (x y : List ℕ) → r < 32 → s < 32 → register r ++ (codes ", " ++ x) ≡ register s ++ (codes ", " ++ y) → SameRegister r s x y
register_cut r s x y p q e =
    let h = cut_same 44 (register r) (register s) (32 ∷ x) (32 ∷ y) (λ i. omega (arith, i.0)) (register_letters r p) (register_letters s q) e in
    record { number = register_told r s p q h.front; rest = cons_tail 32 32 x y h.back }

offset_told : (o : Offset) (z y : ℤ) → IsOffset o z → IsOffset o y → signed_decimal z ≡ signed_decimal y → z ≡ y
offset_told o z y p q e = signed_decimal_injective z y (field_fits (Fields.Offset o) z p).sfits (field_fits (Fields.Offset o) y q).sfits e

immediate_told : (b : Bool) (z y : ℤ) → MatchBool b (IsShiftAmount z) (IsShortOffset z) → MatchBool b (IsShiftAmount y) (IsShortOffset y) → signed_decimal z ≡ signed_decimal y → z ≡ y
immediate_told true z y p q e = signed_decimal_injective z y (field_fits Fields.Amount z p).sfits (field_fits Fields.Amount y q).sfits e
immediate_told false z y p q e = offset_told Offsets.Short z y p q e

record SamePlace (z y : ℤ) (r s : ℕ) : Type 0 where
  offset : z ≡ y
  number : r ≡ s

memory_cut : (z y : ℤ) (r s : ℕ) → IsShortOffset z → IsShortOffset y → r < 32 → s < 32
    → signed_decimal z ++ (codes "(" ++ (register r ++ codes ")")) ≡ signed_decimal y ++ (codes "(" ++ (register s ++ codes ")")) → SamePlace z y r s
memory_cut z y r s hz hy p q e =
    let h = cut_same 40 (signed_decimal z) (signed_decimal y) (register r ++ codes ")") (register s ++ codes ")") (λ i. omega (arith, i.0))
    (field_letters (Fields.Offset Offsets.Short) z hz) (field_letters (Fields.Offset Offsets.Short) y hy) e in
    record { offset = offset_told Offsets.Short z y hz hy h.front; number = register_told r s p q (append_cancel_right (register r) (register s) (codes ")") h.back) }

instruction_told : (i j : Instr) → IsInRange i → IsInRange j → mnemonic_of i ≡ mnemonic_of j → operands i 0 ≡ operands j 0 → i ≡ j
instruction_told (Upper op rd imm) (Upper op2 rd2 imm2) p q m e =
    let a = register_cut rd rd2 (hex_text 5 (imm / 2 ^ 12)) (hex_text 5 (imm2 / 2 ^ 12)) p.0 q.0 e in
    let few : imm / 2 ^ 12 < 16 ^ 5 = omega (arith, p.1) in
    let few2 : imm2 / 2 ^ 12 < 16 ^ 5 = omega (arith, q.1) in
    let high : imm / 2 ^ 12 ≡ imm2 / 2 ^ 12 = hex_told 5 (imm / 2 ^ 12) (imm2 / 2 ^ 12) few few2 a.rest in
    let whole : imm ≡ imm2 = omega (arith, p.2, q.2) in
    let same : op ≡ op2 = cc in
    rw (same, a.number, whole) refl
instruction_told (Upper op rd imm) j p q m e = absurd (cc)
instruction_told (Jal rd z) (Jal rd2 z2) p q m e =
    let a = register_cut rd rd2 (signed_decimal z) (signed_decimal z2) p.0 q.0 e in
    rw (a.number, offset_told Offsets.Jump z z2 p.1 q.1 a.rest) refl
instruction_told (Jal rd z) j p q m e = absurd (cc)
instruction_told (Jalr rd rs1 z) (Jalr rd2 rs3 z2) p q m e =
    let a = register_cut rd rd2 (register rs1 ++ (codes ", " ++ signed_decimal z)) (register rs3 ++ (codes ", " ++ signed_decimal z2)) p.0 q.0 e in
    let b = register_cut rs1 rs3 (signed_decimal z) (signed_decimal z2) p.1 q.1 a.rest in
    rw (a.number, b.number, offset_told Offsets.Short z z2 p.2 q.2 b.rest) refl
instruction_told (Jalr rd rs1 z) j p q m e = absurd (cc)
instruction_told (Branch c rs1 rs2 z) (Branch c2 rs3 rs4 z2) p q m e =
    let a = register_cut rs1 rs3 (register rs2 ++ (codes ", " ++ signed_decimal z)) (register rs4 ++ (codes ", " ++ signed_decimal z2)) p.0 q.0 e in
    let b = register_cut rs2 rs4 (signed_decimal z) (signed_decimal z2) p.1 q.1 a.rest in
    let same : c ≡ c2 = cc in
    rw (same, a.number, b.number, offset_told Offsets.Branch z z2 p.2 q.2 b.rest) refl
instruction_told (Branch c rs1 rs2 z) j p q m e = absurd (cc)
instruction_told (Load x rd rs1 z) (Load x2 rd2 rs3 z2) p q m e =
    let a = register_cut rd rd2 (signed_decimal z ++ (codes "(" ++ (register rs1 ++ codes ")"))) (signed_decimal z2 ++ (codes "(" ++ (register rs3 ++ codes ")"))) p.0 q.0 e in
    let b = memory_cut z z2 rs1 rs3 p.2 q.2 p.1 q.1 a.rest in
    let same : x ≡ x2 = cc in
    rw (same, a.number, b.number, b.offset) refl
instruction_told (Load x rd rs1 z) j p q m e = absurd (cc)
instruction_told (Store x rs1 rs2 z) (Store x2 rs3 rs4 z2) p q m e =
    let a = register_cut rs2 rs4 (signed_decimal z ++ (codes "(" ++ (register rs1 ++ codes ")"))) (signed_decimal z2 ++ (codes "(" ++ (register rs3 ++ codes ")"))) p.1 q.1 e in
    let b = memory_cut z z2 rs1 rs3 p.2 q.2 p.0 q.0 a.rest in
    let same : x ≡ x2 = cc in
    rw (same, a.number, b.number, b.offset) refl
instruction_told (Store x rs1 rs2 z) j p q m e = absurd (cc)
instruction_told (OpImm op rd rs1 z) (OpImm op2 rd2 rs3 z2) p q m e =
    let a = register_cut rd rd2 (register rs1 ++ (codes ", " ++ signed_decimal z)) (register rs3 ++ (codes ", " ++ signed_decimal z2)) p.0 q.0 e in
    let b = register_cut rs1 rs3 (signed_decimal z) (signed_decimal z2) p.1 q.1 a.rest in
    let same : op ≡ op2 = cc in
    let fits : MatchBool (is_shift op) (IsShiftAmount z2) (IsShortOffset z2) = subst (λ o. MatchBool (is_shift o) (IsShiftAmount z2) (IsShortOffset z2)) (sym same) q.2 in
    rw (same, a.number, b.number, immediate_told (is_shift op) z z2 p.2 fits b.rest) refl
instruction_told (OpImm op rd rs1 z) j p q m e = absurd (cc)
instruction_told (Op op rd rs1 rs2) (Op op2 rd2 rs3 rs4) p q m e =
    let a = register_cut rd rd2 (register rs1 ++ (codes ", " ++ register rs2)) (register rs3 ++ (codes ", " ++ register rs4)) p.0 q.0 e in
    let b = register_cut rs1 rs3 (register rs2) (register rs4) p.1 q.1 a.rest in
    let same : op ≡ op2 = cc in
    rw (same, a.number, b.number, register_told rs2 rs4 p.2 q.2 b.rest) refl
instruction_told (Op op rd rs1 rs2) j p q m e = absurd (cc)
instruction_told Fence Fence p q m e = refl
instruction_told Fence j p q m e = absurd (cc)
instruction_told Ecall Ecall p q m e = refl
instruction_told Ecall j p q m e = absurd (cc)
instruction_told Ebreak Ebreak p q m e = refl
instruction_told Ebreak j p q m e = absurd (cc)

-- ---- words

no_instruction : (i : Instr) → mnemonic_of i ≡ Mnemonics.Word → ⊥
no_instruction i = elim i as (λ j. mnemonic_of j ≡ Mnemonics.Word → ⊥) [ Fence ↦ (λ e. cc) | _ ↦ (λ e. cc) ]

is_fence : (i : Instr) → mnemonic_of i ≡ Mnemonics.Fence → i ≡ Fence
is_fence i = elim i as (λ j. mnemonic_of j ≡ Mnemonics.Fence → j ≡ Fence) [ Fence ↦ (λ e. refl) | _ ↦ (λ e. absurd (cc)) ]

fence_or_not : (i : Instr) → (i ≡ Fence) ⊎ (i ≢ Fence)
fence_or_not i = elim i as (λ j. (j ≡ Fence) ⊎ (j ≢ Fence)) [ Fence ↦ inl refl | _ ↦ inr (λ e. cc) ]

told_by : (o p : Option Instr) (w v : ℕ) → w < 2 ^ 32 → v < 2 ^ 32 → instr w ≡ o → instr v ≡ p → mnemonic_by o ≡ mnemonic_by p → operands_by o w ≡ operands_by p v → w ≡ v
told_by None None w v sw sv eo ep m e = hex_told 8 w v sw sv e
told_by None (Some j) w v sw sv eo ep m e = absurd (no_instruction j (sym m))
told_by (Some i) None w v sw sv eo ep m e = absurd (no_instruction i m)
told_by (Some i) (Some j) w v sw sv eo ep m e =
    elim (fence_or_not i) [
      | inl fence ↦
          (let other : j ≡ Fence = is_fence j (sym m ∙ ap mnemonic_of fence) in
          hex_told 8 w v sw sv (ap (λ (k : Instr). operands k w) (sym fence) ∙ (e ∙ ap (λ (k : Instr). operands k v) other)))
      | inr never ↦
          (let not_i : mnemonic_of i ≢ Mnemonics.Fence = λ f. never (is_fence i f) in
          let not_j : mnemonic_of j ≢ Mnemonics.Fence = λ f. not_i (m ∙ f) in
          let same : i ≡ j = instruction_told i j (table_in_range w i eo) (table_in_range v j ep) m (operands_any i 0 w not_i ∙ (e ∙ operands_any j v 0 not_j)) in
          unique_word w sw i eo never ∙ (ap encoding same ∙ sym (unique_word v sv j ep (λ f. never (same ∙ f)))))
    ]

pub word_told : (w v : ℕ) → w < 2 ^ 32 → v < 2 ^ 32 → text_of w ≡ text_of v → w ≡ v
word_told w v sw sv e =
    let m : mnemonic_by (instr w) ≡ mnemonic_by (instr v) = start_told (mnemonic_by (instr w)) (mnemonic_by (instr v)) (operands_by (instr w) w) (operands_by (instr v) v) e in
    told_by (instr w) (instr v) w v sw sv refl refl m
    (append_cancel_left (start_of (mnemonic_by (instr v))) (operands_by (instr w) w) (operands_by (instr v) v) (ap (λ (n : Mnemonic). start_of n ++ operands_by (instr w) w) (sym m) ∙ e))
