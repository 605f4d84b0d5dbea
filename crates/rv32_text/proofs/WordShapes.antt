-- The texts of words are those of their shapes
use Rattle.std.proofs.Common.{◌≡◌, ◌≢◌, ℕ, ◌+◌, ◌*◌, ◌<◌, ◌≤◌, ◌^◌, Bool, true, false, List, [], ◌∷◌, ◌++◌, codes, refl, sym, ap, subst, ◌∙◌, Option, Some, None, arith, append_assoc, ℤ, pos, negsuc}
use Rattle.std.specs.Prelude.{◌/◌, MatchBool}
use Rattle.std.specs.Fmt.{signed_decimal}
use Rattle.std.proofs.lemmas.Int.{ints}
use Rattle.guest_model.specs.InstructionTable.{instr}
use Rattle.guest_model.specs.declared.instr.Instr.{Instr}
use Rattle.guest_model.specs.declared.instr.Instr.TheVariants.{Upper, Jal, Jalr, Branch, Load, Store, OpImm, Op, Fence, Ecall, Ebreak}
use Rattle.guest_model.specs.Word.{word_of}
use Rattle.guest_model.specs.declared.instr.UpperOp.{UpperOp}
use Rattle.guest_model.specs.declared.instr.UpperOp.TheVariants.{Lui}
use Rattle.guest_model.specs.declared.instr.Cond.{Cond}
use Rattle.guest_model.specs.declared.instr.Cond.TheVariants as Conds
use Rattle.guest_model.specs.declared.instr.LoadWidth.{LoadWidth}
use Rattle.guest_model.specs.declared.instr.LoadWidth.TheVariants as Loads
use Rattle.guest_model.specs.declared.instr.StoreWidth.{StoreWidth}
use Rattle.guest_model.specs.declared.instr.StoreWidth.TheVariants as Stores
use Rattle.guest_model.specs.declared.instr.ImmOp.{ImmOp}
use Rattle.guest_model.specs.declared.instr.ImmOp.TheVariants as ImmOps
use Rattle.guest_model.specs.declared.instr.RegOp.{RegOp}
use Rattle.guest_model.specs.declared.instr.RegOp.TheVariants as RegOps
use Rattle.rv32_asm.specs.Encoding.{r_type, i_type, s_type, b_type, u_type, j_type, upper_opcode, cond_code, load_code, store_code, imm_op_code, shift_kind, reg_op_code, reg_op_kind, is_shift, encoding, IsInRange, IsShiftAmount, IsShortOffset}
use Rattle.rv32_asm.proofs.TableInRange.{table_in_range}
use Rattle.rv32_asm.proofs.ReadsBack.{reads_back}
use Rattle.rv32_text.specs.declared.fields.Offset.{Offset}
use Rattle.rv32_text.specs.declared.fields.Offset.TheVariants as Offsets
use Rattle.rv32_text.specs.declared.fields.Field.{Field}
use Rattle.rv32_text.specs.declared.fields.Field.TheVariants as Fields
use Rattle.rv32_text.specs.declared.mnemonic.Mnemonic.{Mnemonic}
use Rattle.rv32_text.specs.declared.mnemonic.Mnemonic.TheVariants as Mnemonics
use Rattle.rv32_text.specs.Fields.{IsOffset, Fits, write_field, natural}
use Rattle.rv32_text.specs.Languages.{ended, Joined}
use Rattle.rv32_text.specs.Starts.{mnemonic_of, mnemonic_by}
use Rattle.rv32_text.specs.Texts.{hex_text, register, operands, operands_by}
use Rattle.rv32_text.specs.Shapes.{Operand, RegisterAnd, Last, OffsetAndRegister, immediate_field, Shape}

-- ---- from words to shapes

pub an_amount : (n : ℕ) → n < 32 → IsShiftAmount (pos n)
an_amount n h = (omega (arith, ints), omega (arith, ints))

and_register : (Rest : List ℕ → Type 0) (r : ℕ) (t : List ℕ) → r < 32 → Rest t → RegisterAnd Rest (register r ++ (codes ", " ++ t))
and_register Rest r t small h = record {
  first = register r ++ codes ", ";
  second = t;
  in_first = record { value = pos r; fits = an_amount r small; is = refl };
  in_second = h;
  is = sym (append_assoc (register r) (codes ", ") t);
}

last_register : (r : ℕ) → r < 32 → Last Fields.Register (ended (register r))
last_register r small = record { value = pos r; fits = an_amount r small; is = refl }

last_offset : (o : Offset) (z : ℤ) → IsOffset o z → Last (Fields.Offset o) (ended (signed_decimal z))
last_offset o z h = record { value = z; fits = h; is = refl }

in_memory : (r : ℕ) (z : ℤ) → r < 32 → IsShortOffset z → OffsetAndRegister (ended (signed_decimal z ++ (codes "(" ++ (register r ++ codes ")"))))
in_memory r z small h = record {
  first = signed_decimal z ++ codes "(";
  second = register r ++ ended (codes ")");
  in_first = record { value = z; fits = h; is = refl };
  in_second = record { value = pos r; fits = an_amount r small; is = refl };
  is = simp append_assoc;
}

immediate_shape : (shift : Bool) (z : ℤ) → MatchBool shift (IsShiftAmount z) (IsShortOffset z) → Last (immediate_field shift) (ended (signed_decimal z))
immediate_shape true z h = record { value = z; fits = h; is = refl }
immediate_shape false z h = record { value = z; fits = h; is = refl }

-- a register, a comma and the rest, with the text's end
to_register : (Rest : List ℕ → Type 0) (r : ℕ) (t : List ℕ) → r < 32 → Rest (ended t) → RegisterAnd Rest (ended (register r ++ (codes ", " ++ t)))
to_register Rest r t small h =
    subst (λ (x : List ℕ). RegisterAnd Rest x) (simp append_assoc) (and_register Rest r (ended t) small h)

shape_of : (o : Option Instr) (w : ℕ) → w < 2 ^ 32 → instr w ≡ o → Shape (mnemonic_by o) (ended (operands_by o w))
shape_of None w small is = record { value = w; fits = (small, is); is = refl }
shape_of (Some (Upper op rd imm)) w small is =
    let h = table_in_range w (Upper op rd imm) is in
    to_register (Last Fields.Upper) rd (hex_text 5 (imm / 2 ^ 12)) h.0
    (record { value = pos (imm / 2 ^ 12); fits = (let few : imm / 2 ^ 12 ≤ 1048575 = omega (arith, h.1) in (omega (arith, ints), omega (arith, ints))); is = refl })
shape_of (Some (Jal rd z)) w small is =
    let h = table_in_range w (Jal rd z) is in
    to_register (Last (Fields.Offset Offsets.Jump)) rd (signed_decimal z) h.0 (last_offset Offsets.Jump z h.1)
shape_of (Some (Jalr rd rs1 z)) w small is =
    let h = table_in_range w (Jalr rd rs1 z) is in
    to_register (RegisterAnd (Last (Fields.Offset Offsets.Short))) rd (register rs1 ++ (codes ", " ++ signed_decimal z)) h.0
    (to_register (Last (Fields.Offset Offsets.Short)) rs1 (signed_decimal z) h.1 (last_offset Offsets.Short z h.2))
shape_of (Some (Branch c rs1 rs2 z)) w small is =
    let h = table_in_range w (Branch c rs1 rs2 z) is in
    to_register (RegisterAnd (Last (Fields.Offset Offsets.Branch))) rs1 (register rs2 ++ (codes ", " ++ signed_decimal z)) h.0
    (to_register (Last (Fields.Offset Offsets.Branch)) rs2 (signed_decimal z) h.1 (last_offset Offsets.Branch z h.2))
shape_of (Some (Load width rd rs1 z)) w small is =
    let h = table_in_range w (Load width rd rs1 z) is in
    to_register OffsetAndRegister rd (signed_decimal z ++ (codes "(" ++ (register rs1 ++ codes ")"))) h.0 (in_memory rs1 z h.1 h.2)
shape_of (Some (Store width rs1 rs2 z)) w small is =
    let h = table_in_range w (Store width rs1 rs2 z) is in
    to_register OffsetAndRegister rs2 (signed_decimal z ++ (codes "(" ++ (register rs1 ++ codes ")"))) h.1 (in_memory rs1 z h.0 h.2)
shape_of (Some (OpImm op rd rs1 z)) w small is =
    let h = table_in_range w (OpImm op rd rs1 z) is in
    to_register (RegisterAnd (Last (immediate_field (is_shift op)))) rd (register rs1 ++ (codes ", " ++ signed_decimal z)) h.0
    (to_register (Last (immediate_field (is_shift op))) rs1 (signed_decimal z) h.1 (immediate_shape (is_shift op) z h.2))
shape_of (Some (Op op rd rs1 rs2)) w small is =
    let h = table_in_range w (Op op rd rs1 rs2) is in
    to_register (RegisterAnd (Last Fields.Register)) rd (register rs1 ++ (codes ", " ++ register rs2)) h.0
    (to_register (Last Fields.Register) rs1 (register rs2) h.1 (last_register rs2 h.2))
shape_of (Some Fence) w small is = record { value = w; fits = (small, is); is = refl }
shape_of (Some Ecall) w small is = refl
shape_of (Some Ebreak) w small is = refl

pub word_shape : (w : ℕ) → w < 2 ^ 32 → Shape (mnemonic_by (instr w)) (ended (operands_by (instr w) w))
word_shape w small = shape_of (instr w) w small refl

-- ---- from shapes to words

-- a word whose text has this mnemonic, and this behind the mnemonic
pub record IsText (m : Mnemonic) (t : List ℕ) : Type 0 where
  pub word : ℕ
  pub fits : word < 2 ^ 32
  pub mnemonic_is : mnemonic_by (instr word) ≡ m
  pub is : t ≡ ended (operands_by (instr word) word)

r_small : (o f d a b g : ℕ) → o < 128 → f < 8 → d < 32 → a < 32 → b < 32 → g < 128 → r_type o f d a b g < 2 ^ 32
r_small o f d a b g po pf pd pa pb pg = omega arith

i_small : (o f d a n : ℕ) → o < 128 → f < 8 → d < 32 → a < 32 → i_type o f d a n < 2 ^ 32
i_small o f d a n po pf pd pa = omega arith

s_small : (o f a b n : ℕ) → o < 128 → f < 8 → a < 32 → b < 32 → s_type o f a b n < 2 ^ 32
s_small o f a b n po pf pa pb = omega arith

b_small : (o f a b n : ℕ) → o < 128 → f < 8 → a < 32 → b < 32 → b_type o f a b n < 2 ^ 32
b_small o f a b n po pf pa pb = omega arith

u_small : (o d n : ℕ) → o < 128 → d < 32 → u_type o d n < 2 ^ 32
u_small o d n po pd = omega arith

j_small : (o d n : ℕ) → o < 128 → d < 32 → j_type o d n < 2 ^ 32
j_small o d n po pd = omega arith

upper_below : (op : UpperOp) → upper_opcode op < 128
upper_below op = elim op as (λ x. upper_opcode x < 128) [ Lui ↦ omega arith | _ ↦ omega arith ]

cond_below : (c : Cond) → cond_code c < 8
cond_below c = elim c as (λ x. cond_code x < 8) [ Conds.Eq ↦ omega arith | _ ↦ omega arith ]

load_below : (x : LoadWidth) → load_code x < 8
load_below x = elim x as (λ y. load_code y < 8) [ Loads.B ↦ omega arith | _ ↦ omega arith ]

store_below : (x : StoreWidth) → store_code x < 8
store_below x = elim x as (λ y. store_code y < 8) [ Stores.B ↦ omega arith | _ ↦ omega arith ]

imm_op_below : (op : ImmOp) → imm_op_code op < 8
imm_op_below op = elim op as (λ o. imm_op_code o < 8) [ ImmOps.Add ↦ omega arith | _ ↦ omega arith ]

reg_op_below : (op : RegOp) → (reg_op_code op < 8) × (reg_op_kind op < 128)
reg_op_below op = elim op as (λ o. (reg_op_code o < 8) × (reg_op_kind o < 128)) [ RegOps.Add ↦ (omega arith, omega arith) | _ ↦ (omega arith, omega arith) ]

encoding_small : (i : Instr) → IsInRange i → encoding i < 2 ^ 32
encoding_small (Upper op rd imm) h = u_small (upper_opcode op) rd imm (upper_below op) h.0
encoding_small (Jal rd z) h = j_small 0x6F rd (word_of z) (omega arith) h.0
encoding_small (Jalr rd rs1 z) h = i_small 0x67 0 rd rs1 (word_of z) (omega arith) (omega arith) h.0 h.1
encoding_small (Branch c rs1 rs2 z) h = b_small 0x63 (cond_code c) rs1 rs2 (word_of z) (omega arith) (cond_below c) h.0 h.1
encoding_small (Load x rd rs1 z) h = i_small 0x03 (load_code x) rd rs1 (word_of z) (omega arith) (load_below x) h.0 h.1
encoding_small (Store x rs1 rs2 z) h = s_small 0x23 (store_code x) rs1 rs2 (word_of z) (omega arith) (store_below x) h.0 h.1
encoding_small (OpImm op rd rs1 z) h = i_small 0x13 (imm_op_code op) rd rs1 (word_of z + shift_kind op) (omega arith) (imm_op_below op) h.0 h.1
encoding_small (Op op rd rs1 rs2) h = r_small 0x33 (reg_op_code op) rd rs1 rs2 (reg_op_kind op) (omega arith) (reg_op_below op).0 h.0 h.1 h.2 (reg_op_below op).1
encoding_small Fence h = omega arith
encoding_small Ecall h = omega arith
encoding_small Ebreak h = omega arith

-- of the word, the operands of FENCE alone speak
pub operands_any : (i : Instr) (v w : ℕ) → mnemonic_of i ≢ Mnemonics.Fence → operands i v ≡ operands i w
operands_any (Upper op rd imm) v w h = refl
operands_any (Jal rd z) v w h = refl
operands_any (Jalr rd rs1 z) v w h = refl
operands_any (Branch c rs1 rs2 z) v w h = refl
operands_any (Load x rd rs1 z) v w h = refl
operands_any (Store x rs1 rs2 z) v w h = refl
operands_any (OpImm op rd rs1 z) v w h = refl
operands_any (Op op rd rs1 rs2) v w h = refl
operands_any Fence v w h = absurd (h refl)
operands_any Ecall v w h = refl
operands_any Ebreak v w h = refl

instruction_text : (i : Instr) → IsInRange i → mnemonic_of i ≢ Mnemonics.Fence → IsText (mnemonic_of i) (ended (operands i 0))
instruction_text i h other =
    let back : instr (encoding i) ≡ Some i = reads_back i (encoding i) refl h in
    record {
      word = encoding i;
      fits = encoding_small i h;
      mnemonic_is = ap mnemonic_by back;
      is = ap (λ (x : List ℕ). ended x) (operands_any i 0 (encoding i) other) ∙ ap (λ (o : Option Instr). ended (operands_by o (encoding i))) (sym back);
    }

-- ---- values back from operands

record IsPos (z : ℤ) (bound : ℕ) : Type 0 where
  number : ℕ
  small : number < bound
  is : z ≡ pos number

from_amount : (z : ℤ) → IsShiftAmount z → IsPos z 32
from_amount (pos n) h = record { number = n; small = omega (arith, ints, h.1); is = refl }
from_amount (negsuc n) h = absurd (omega (arith, ints, h.0))

from_upper : (z : ℤ) → Fits Fields.Upper z → IsPos z (2 ^ 20)
from_upper (pos n) h = record { number = n; small = omega (arith, ints, h.1); is = refl }
from_upper (negsuc n) h = absurd (omega (arith, ints, h.0))

record HasRegister (Rest : List ℕ → Type 0) (t : List ℕ) : Type 0 where
  number : ℕ
  small : number < 32
  tail : List ℕ
  in_rest : Rest tail
  is : t ≡ register number ++ (codes ", " ++ tail)

from_register : (Rest : List ℕ → Type 0) (t : List ℕ) → RegisterAnd Rest t → HasRegister Rest t
from_register Rest t j =
    let one = j.in_first in
    let p = from_amount one.value one.fits in
    record {
      number = p.number;
      small = p.small;
      tail = j.second;
      in_rest = j.in_second;
      is = j.is ∙ (ap (λ (x : List ℕ). x ++ j.second) (one.is ∙ ap (λ (z : ℤ). write_field Fields.Register z ++ codes ", ") p.is) ∙ append_assoc (register p.number) (codes ", ") j.second);
    }

-- a register before a text with its end
register_text : (r : ℕ) (t tail s : List ℕ) → t ≡ register r ++ (codes ", " ++ tail) → tail ≡ ended s → t ≡ ended (register r ++ (codes ", " ++ s))
register_text r t tail s e f = e ∙ (ap (λ (x : List ℕ). register r ++ (codes ", " ++ x)) f ∙ sym (append_assoc (register r) (codes ", " ++ s) (256 ∷ [])))

record HasImmediate (shift : Bool) (t : List ℕ) : Type 0 where
  value : ℤ
  fits : MatchBool shift (IsShiftAmount value) (IsShortOffset value)
  is : t ≡ ended (signed_decimal value)

from_immediate : (shift : Bool) (t : List ℕ) → Last (immediate_field shift) t → HasImmediate shift t
from_immediate true t h = record { value = h.value; fits = h.fits; is = h.is }
from_immediate false t h = record { value = h.value; fits = h.fits; is = h.is }

record HasPlace (t : List ℕ) : Type 0 where
  value : ℤ
  fits : IsShortOffset value
  number : ℕ
  small : number < 32
  is : t ≡ ended (signed_decimal value ++ (codes "(" ++ (register number ++ codes ")")))

from_memory : (t : List ℕ) → OffsetAndRegister t → HasPlace t
from_memory t j =
    let one = j.in_first in
    let two = j.in_second in
    let p = from_amount two.value two.fits in
    record {
      value = one.value;
      fits = one.fits;
      number = p.number;
      small = p.small;
      is = j.is ∙ (ap (λ (x : List ℕ). x ++ j.second) one.is ∙ (ap (λ (x : List ℕ). (signed_decimal one.value ++ codes "(") ++ x) (two.is ∙ ap (λ (z : ℤ). write_field Fields.Register z ++ ended (codes ")")) p.is) ∙ simp append_assoc));
    }

pub text_by : (m : Mnemonic) (t : List ℕ) → Shape m t → IsText m t
text_by (Mnemonics.Upper op) t h =
    let a = from_register (Last Fields.Upper) t h in
    let u = from_upper a.in_rest.value a.in_rest.fits in
    let back : u.number * 2 ^ 12 / 2 ^ 12 ≡ u.number = omega arith in
    let tail_is : a.tail ≡ ended (hex_text 5 (u.number * 2 ^ 12 / 2 ^ 12)) =
    a.in_rest.is ∙ (ap (λ (z : ℤ). hex_text 5 (natural z) ++ ended []) u.is ∙ ap (λ (n : ℕ). hex_text 5 n ++ ended []) (sym back)) in
    subst (λ (x : List ℕ). IsText (Mnemonics.Upper op) x) (sym (register_text a.number t a.tail (hex_text 5 (u.number * 2 ^ 12 / 2 ^ 12)) a.is tail_is))
    (instruction_text (Upper op a.number (u.number * 2 ^ 12)) (a.small, (let small : u.number < 2 ^ 20 = u.small in omega arith), omega arith) (λ e. absurd (cc)))
text_by Mnemonics.Jal t h =
    let a = from_register (Last (Fields.Offset Offsets.Jump)) t h in
    subst (λ (x : List ℕ). IsText Mnemonics.Jal x) (sym (register_text a.number t a.tail (signed_decimal a.in_rest.value) a.is a.in_rest.is))
    (instruction_text (Jal a.number a.in_rest.value) (a.small, a.in_rest.fits) (λ e. absurd (cc)))
text_by Mnemonics.Jalr t h =
    let a = from_register (RegisterAnd (Last (Fields.Offset Offsets.Short))) t h in
    let b = from_register (Last (Fields.Offset Offsets.Short)) a.tail a.in_rest in
    subst (λ (x : List ℕ). IsText Mnemonics.Jalr x)
    (sym (register_text a.number t a.tail (register b.number ++ (codes ", " ++ signed_decimal b.in_rest.value)) a.is (register_text b.number a.tail b.tail (signed_decimal b.in_rest.value) b.is b.in_rest.is)))
    (instruction_text (Jalr a.number b.number b.in_rest.value) (a.small, b.small, b.in_rest.fits) (λ e. absurd (cc)))
text_by (Mnemonics.Branch c) t h =
    let a = from_register (RegisterAnd (Last (Fields.Offset Offsets.Branch))) t h in
    let b = from_register (Last (Fields.Offset Offsets.Branch)) a.tail a.in_rest in
    subst (λ (x : List ℕ). IsText (Mnemonics.Branch c) x)
    (sym (register_text a.number t a.tail (register b.number ++ (codes ", " ++ signed_decimal b.in_rest.value)) a.is (register_text b.number a.tail b.tail (signed_decimal b.in_rest.value) b.is b.in_rest.is)))
    (instruction_text (Branch c a.number b.number b.in_rest.value) (a.small, b.small, b.in_rest.fits) (λ e. absurd (cc)))
text_by (Mnemonics.Load x) t h =
    let a = from_register OffsetAndRegister t h in
    let p = from_memory a.tail a.in_rest in
    subst (λ (y : List ℕ). IsText (Mnemonics.Load x) y)
    (sym (register_text a.number t a.tail (signed_decimal p.value ++ (codes "(" ++ (register p.number ++ codes ")"))) a.is p.is))
    (instruction_text (Load x a.number p.number p.value) (a.small, p.small, p.fits) (λ e. absurd (cc)))
text_by (Mnemonics.Store x) t h =
    let a = from_register OffsetAndRegister t h in
    let p = from_memory a.tail a.in_rest in
    subst (λ (y : List ℕ). IsText (Mnemonics.Store x) y)
    (sym (register_text a.number t a.tail (signed_decimal p.value ++ (codes "(" ++ (register p.number ++ codes ")"))) a.is p.is))
    (instruction_text (Store x p.number a.number p.value) (p.small, a.small, p.fits) (λ e. absurd (cc)))
text_by (Mnemonics.OpImm op) t h =
    let a = from_register (RegisterAnd (Last (immediate_field (is_shift op)))) t h in
    let b = from_register (Last (immediate_field (is_shift op))) a.tail a.in_rest in
    let v = from_immediate (is_shift op) b.tail b.in_rest in
    subst (λ (x : List ℕ). IsText (Mnemonics.OpImm op) x)
    (sym (register_text a.number t a.tail (register b.number ++ (codes ", " ++ signed_decimal v.value)) a.is (register_text b.number a.tail b.tail (signed_decimal v.value) b.is v.is)))
    (instruction_text (OpImm op a.number b.number v.value) (a.small, b.small, v.fits) (λ e. absurd (cc)))
text_by (Mnemonics.Op op) t h =
    let a = from_register (RegisterAnd (Last Fields.Register)) t h in
    let b = from_register (Last Fields.Register) a.tail a.in_rest in
    let p = from_amount b.in_rest.value b.in_rest.fits in
    let tail_is : b.tail ≡ ended (register p.number) = b.in_rest.is ∙ ap (λ (z : ℤ). write_field Fields.Register z ++ ended []) p.is in
    subst (λ (x : List ℕ). IsText (Mnemonics.Op op) x)
    (sym (register_text a.number t a.tail (register b.number ++ (codes ", " ++ register p.number)) a.is (register_text b.number a.tail b.tail (register p.number) b.is tail_is)))
    (instruction_text (Op op a.number b.number p.number) (a.small, b.small, p.small) (λ e. absurd (cc)))
text_by Mnemonics.Fence t h = record {
  word = h.value;
  fits = h.fits.0;
  mnemonic_is = ap mnemonic_by h.fits.1;
  is = h.is ∙ ap (λ (o : Option Instr). ended (operands_by o h.value)) (sym h.fits.1);
}
text_by Mnemonics.Ecall t h = record { word = 0x73; fits = omega arith; mnemonic_is = refl; is = h }
text_by Mnemonics.Ebreak t h = record { word = 0x100073; fits = omega arith; mnemonic_is = refl; is = h }
text_by Mnemonics.Word t h = record {
  word = h.value;
  fits = h.fits.0;
  mnemonic_is = ap mnemonic_by h.fits.1;
  is = h.is ∙ ap (λ (o : Option Instr). ended (operands_by o h.value)) (sym h.fits.1);
}

-- ---- each shape has a text

pub field_example : (field : Field) → Fits field (pos 0)
field_example Fields.Register = (omega (arith, ints), omega (arith, ints))
field_example Fields.Amount = (omega (arith, ints), omega (arith, ints))
field_example (Fields.Offset Offsets.Short) = (omega (arith, ints), omega (arith, ints))
field_example (Fields.Offset Offsets.Branch) = (omega (arith, ints), omega (arith, ints), refl)
field_example (Fields.Offset Offsets.Jump) = (omega (arith, ints), omega (arith, ints), refl)
field_example Fields.Upper = (omega (arith, ints), omega (arith, ints))

pub operand_example : (field : Field) (after : List ℕ) → Operand field after (write_field field (pos 0) ++ after)
operand_example field after = record { value = pos 0; fits = field_example field; is = refl }

pub record Example (Texts : List ℕ → Type 0) : Type 0 where
  pub text : List ℕ
  pub holds : Texts text

last_example : (field : Field) → Example (Last field)
last_example field = record { text = write_field field (pos 0) ++ ended []; holds = operand_example field (ended []) }

joined_example : (First Second : List ℕ → Type 0) → Example First → Example Second → Example (Joined First Second)
joined_example First Second a b = record { text = a.text ++ b.text; holds = record { first = a.text; second = b.text; in_first = a.holds; in_second = b.holds; is = refl } }

pub pair_example : (one two : Field) (between after : List ℕ) → Example (Joined (Operand one between) (Operand two after))
pair_example one two between after =
    joined_example (Operand one between) (Operand two after)
    (record { text = write_field one (pos 0) ++ between; holds = operand_example one between }) (record { text = write_field two (pos 0) ++ after; holds = operand_example two after })

register_example : (Rest : List ℕ → Type 0) → Example Rest → Example (RegisterAnd Rest)
register_example Rest e = joined_example (Operand Fields.Register (codes ", ")) Rest (record { text = write_field Fields.Register (pos 0) ++ codes ", "; holds = operand_example Fields.Register (codes ", ") }) e

memory_example : Example OffsetAndRegister
memory_example = pair_example (Fields.Offset Offsets.Short) Fields.Register (codes "(") (ended (codes ")"))

pub shape_example : (m : Mnemonic) → Example (Shape m)
shape_example (Mnemonics.Upper op) = register_example (Last Fields.Upper) (last_example Fields.Upper)
shape_example Mnemonics.Jal = register_example (Last (Fields.Offset Offsets.Jump)) (last_example (Fields.Offset Offsets.Jump))
shape_example Mnemonics.Jalr = register_example (RegisterAnd (Last (Fields.Offset Offsets.Short))) (register_example (Last (Fields.Offset Offsets.Short)) (last_example (Fields.Offset Offsets.Short)))
shape_example (Mnemonics.Branch c) = register_example (RegisterAnd (Last (Fields.Offset Offsets.Branch))) (register_example (Last (Fields.Offset Offsets.Branch)) (last_example (Fields.Offset Offsets.Branch)))
shape_example (Mnemonics.Load x) = register_example OffsetAndRegister memory_example
shape_example (Mnemonics.Store x) = register_example OffsetAndRegister memory_example
shape_example (Mnemonics.OpImm op) = register_example (RegisterAnd (Last (immediate_field (is_shift op)))) (register_example (Last (immediate_field (is_shift op))) (last_example (immediate_field (is_shift op))))
shape_example (Mnemonics.Op op) = register_example (RegisterAnd (Last Fields.Register)) (register_example (Last Fields.Register) (last_example Fields.Register))
shape_example Mnemonics.Fence = record { text = ended (hex_text 8 15); holds = record { value = 15; fits = (omega arith, refl); is = refl } }
shape_example Mnemonics.Ecall = record { text = ended []; holds = refl }
shape_example Mnemonics.Ebreak = record { text = ended []; holds = refl }
shape_example Mnemonics.Word = record { text = ended (hex_text 8 0); holds = record { value = 0; fits = (omega arith, refl); is = refl } }
