-- The texts of words are short, and ASCII without a line feed
use Rattle.std.proofs.Common.{◌≡◌, ◌≢◌, ℕ, zero, suc, ◌+◌, ◌<◌, ◌≤◌, ◌^◌, Bool, true, false, ◌&&◌, nat_lt, nat_le, List, [], ◌∷◌, ◌++◌, length, codes, decimal, All, refl, ap, subst, ◌∙◌, Option, Some, None, add-one, arith, tests, length-append, ℤ, pos, negsuc}
use Rattle.std.specs.Prelude.{◌/◌, ◌%◌, ◌≤ℤ◌, MatchBool}
use Rattle.std.specs.Fmt.{signed_decimal}
use Rattle.std.specs.Str.{IsAscii, IsUtf8}
use Rattle.std.proofs.lemmas.Fmt.{length-decimal-le}
use Rattle.std.proofs.lemmas.Int.{ints}
use Rattle.std.proofs.lemmas.Bool.Decides.{nat_tests}
use Rattle.std.proofs.lemmas.Str.{IsUtf8-from_ascii}
use Rattle.std.proofs.lemmas.Str.Ascii.{IsAscii-nil, IsAscii-cons}
use Rattle.guest_model.specs.InstructionTable.{instr}
use Rattle.guest_model.specs.declared.instr.Instr.{Instr}
use Rattle.guest_model.specs.declared.instr.Instr.TheVariants.{Upper, Jal, Jalr, Branch, Load, Store, OpImm, Op, Fence, Ecall, Ebreak}
use Rattle.guest_model.specs.declared.instr.UpperOp.{UpperOp}
use Rattle.guest_model.specs.declared.instr.UpperOp.TheVariants as Uppers
use Rattle.guest_model.specs.declared.instr.Cond.{Cond}
use Rattle.guest_model.specs.declared.instr.Cond.TheVariants as Conds
use Rattle.guest_model.specs.declared.instr.LoadWidth.{LoadWidth}
use Rattle.guest_model.specs.declared.instr.LoadWidth.TheVariants as Loads
use Rattle.guest_model.specs.declared.instr.StoreWidth.{StoreWidth}
use Rattle.guest_model.specs.declared.instr.StoreWidth.TheVariants as Stores
use Rattle.guest_model.specs.declared.instr.ImmOp.{ImmOp}
use Rattle.guest_model.specs.declared.instr.ImmOp.TheVariants as ImmOps
use Rattle.guest_model.specs.declared.instr.RegOp.{RegOp}
use Rattle.guest_model.specs.declared.instr.RegOp.TheVariants as RegOps
use Rattle.report_text.specs.Texts.{hex_digit}
use Rattle.rv32_asm.specs.Encoding.{IsInRange, IsShortOffset, IsShiftAmount, is_shift}
use Rattle.rv32_asm.proofs.TableInRange.{table_in_range}
use Rattle.rv32_text.specs.Numbers.{IsDigit}
use Rattle.rv32_text.specs.Starts.{start_of, mnemonic_of, mnemonic_by, upper_start, cond_start, load_start, store_start, imm_op_start, reg_op_start}
use Rattle.rv32_text.specs.Texts.{hex_text, register, operands, operands_by, text_of}
use Rattle.rv32_text.proofs.Decimals.{decimal_digits}
use Rattle.rv32_text.proofs.Hexadecimals.{IsHexDigit, hex_letters}
use Rattle.rv32_text.proofs.Languages.{Each, each_append}

-- ASCII, and no line feed
abbrev pub IsLetter : ℕ → Type 0
IsLetter b = (10 < b) × (b < 128)

-- at most n letters
pub record IsPlain (n : ℕ) (bs : List ℕ) : Type 0 where
  pub letters : Each IsLetter bs
  pub count : length bs ≤ n

plain-append : (m n : ℕ) (xs ys : List ℕ) → IsPlain m xs → IsPlain n ys → IsPlain (m + n) (xs ++ ys)
plain-append m n xs ys p q = record { letters = each_append IsLetter xs ys p.letters q.letters; count = omega (arith, length-append xs ys, p.count, q.count) }

plain-more : (m n : ℕ) (xs : List ℕ) → m ≤ n → IsPlain m xs → IsPlain n xs
plain-more m n xs h p = record { letters = p.letters; count = omega (arith, p.count) }

-- ---- words by a test

are_letters : List ℕ → Bool
are_letters [] = true
are_letters (b ∷ bs) = nat_lt 10 b && nat_lt b 128 && are_letters bs

letters-by : (bs : List ℕ) → are_letters bs ≡ true → Each IsLetter bs
unfolding are_letters
letters-by [] h = tt
letters-by (b ∷ bs) h = ((grind (arith, tests), grind (arith, tests)), letters-by bs (grind (arith, tests)))

plain-codes : (n : ℕ) (bs : List ℕ) → are_letters bs ≡ true → nat_le (length bs) n ≡ true → IsPlain n bs
plain-codes n bs h k = record { letters = letters-by bs h; count = grind (arith, nat_tests) }

plain-upper : (op : UpperOp) → IsPlain 7 (upper_start op)
unfolding are_letters
plain-upper Uppers.Lui = plain-codes 7 (upper_start Uppers.Lui) refl refl
plain-upper Uppers.Auipc = plain-codes 7 (upper_start Uppers.Auipc) refl refl

plain-cond : (op : Cond) → IsPlain 7 (cond_start op)
unfolding are_letters
plain-cond Conds.Eq = plain-codes 7 (cond_start Conds.Eq) refl refl
plain-cond Conds.Ne = plain-codes 7 (cond_start Conds.Ne) refl refl
plain-cond Conds.Lt = plain-codes 7 (cond_start Conds.Lt) refl refl
plain-cond Conds.Ge = plain-codes 7 (cond_start Conds.Ge) refl refl
plain-cond Conds.Ltu = plain-codes 7 (cond_start Conds.Ltu) refl refl
plain-cond Conds.Geu = plain-codes 7 (cond_start Conds.Geu) refl refl

plain-load : (op : LoadWidth) → IsPlain 7 (load_start op)
unfolding are_letters
plain-load Loads.B = plain-codes 7 (load_start Loads.B) refl refl
plain-load Loads.H = plain-codes 7 (load_start Loads.H) refl refl
plain-load Loads.W = plain-codes 7 (load_start Loads.W) refl refl
plain-load Loads.Bu = plain-codes 7 (load_start Loads.Bu) refl refl
plain-load Loads.Hu = plain-codes 7 (load_start Loads.Hu) refl refl

plain-store : (op : StoreWidth) → IsPlain 7 (store_start op)
unfolding are_letters
plain-store Stores.B = plain-codes 7 (store_start Stores.B) refl refl
plain-store Stores.H = plain-codes 7 (store_start Stores.H) refl refl
plain-store Stores.W = plain-codes 7 (store_start Stores.W) refl refl

plain-imm_op : (op : ImmOp) → IsPlain 7 (imm_op_start op)
unfolding are_letters
plain-imm_op ImmOps.Add = plain-codes 7 (imm_op_start ImmOps.Add) refl refl
plain-imm_op ImmOps.Slt = plain-codes 7 (imm_op_start ImmOps.Slt) refl refl
plain-imm_op ImmOps.Sltu = plain-codes 7 (imm_op_start ImmOps.Sltu) refl refl
plain-imm_op ImmOps.Xor = plain-codes 7 (imm_op_start ImmOps.Xor) refl refl
plain-imm_op ImmOps.Or = plain-codes 7 (imm_op_start ImmOps.Or) refl refl
plain-imm_op ImmOps.And = plain-codes 7 (imm_op_start ImmOps.And) refl refl
plain-imm_op ImmOps.Sll = plain-codes 7 (imm_op_start ImmOps.Sll) refl refl
plain-imm_op ImmOps.Srl = plain-codes 7 (imm_op_start ImmOps.Srl) refl refl
plain-imm_op ImmOps.Sra = plain-codes 7 (imm_op_start ImmOps.Sra) refl refl

plain-reg_op : (op : RegOp) → IsPlain 7 (reg_op_start op)
unfolding are_letters
plain-reg_op RegOps.Add = plain-codes 7 (reg_op_start RegOps.Add) refl refl
plain-reg_op RegOps.Sub = plain-codes 7 (reg_op_start RegOps.Sub) refl refl
plain-reg_op RegOps.Sll = plain-codes 7 (reg_op_start RegOps.Sll) refl refl
plain-reg_op RegOps.Slt = plain-codes 7 (reg_op_start RegOps.Slt) refl refl
plain-reg_op RegOps.Sltu = plain-codes 7 (reg_op_start RegOps.Sltu) refl refl
plain-reg_op RegOps.Xor = plain-codes 7 (reg_op_start RegOps.Xor) refl refl
plain-reg_op RegOps.Srl = plain-codes 7 (reg_op_start RegOps.Srl) refl refl
plain-reg_op RegOps.Sra = plain-codes 7 (reg_op_start RegOps.Sra) refl refl
plain-reg_op RegOps.Or = plain-codes 7 (reg_op_start RegOps.Or) refl refl
plain-reg_op RegOps.And = plain-codes 7 (reg_op_start RegOps.And) refl refl
plain-reg_op RegOps.Mul = plain-codes 7 (reg_op_start RegOps.Mul) refl refl
plain-reg_op RegOps.Mulh = plain-codes 7 (reg_op_start RegOps.Mulh) refl refl
plain-reg_op RegOps.Mulhsu = plain-codes 7 (reg_op_start RegOps.Mulhsu) refl refl
plain-reg_op RegOps.Mulhu = plain-codes 7 (reg_op_start RegOps.Mulhu) refl refl
plain-reg_op RegOps.Div = plain-codes 7 (reg_op_start RegOps.Div) refl refl
plain-reg_op RegOps.Divu = plain-codes 7 (reg_op_start RegOps.Divu) refl refl
plain-reg_op RegOps.Rem = plain-codes 7 (reg_op_start RegOps.Rem) refl refl
plain-reg_op RegOps.Remu = plain-codes 7 (reg_op_start RegOps.Remu) refl refl

plain-start : (i : Instr) → IsPlain 7 (start_of (mnemonic_of i))
unfolding are_letters
plain-start (Upper op rd imm) = plain-upper op
plain-start (Jal rd offset) = plain-codes 7 (codes "jal ") refl refl
plain-start (Jalr rd rs1 offset) = plain-codes 7 (codes "jalr ") refl refl
plain-start (Branch cond rs1 rs2 offset) = plain-cond cond
plain-start (Load width rd rs1 offset) = plain-load width
plain-start (Store width rs1 rs2 offset) = plain-store width
plain-start (OpImm op rd rs1 imm) = plain-imm_op op
plain-start (Op op rd rs1 rs2) = plain-reg_op op
plain-start Fence = plain-codes 7 (codes "fence ") refl refl
plain-start Ecall = plain-codes 7 (codes "ecall") refl refl
plain-start Ebreak = plain-codes 7 (codes "ebreak") refl refl

plain-start-by : (o : Option Instr) → IsPlain 7 (start_of (mnemonic_by o))
unfolding are_letters
plain-start-by None = plain-codes 7 (codes "word ") refl refl
plain-start-by (Some i) = plain-start i

-- ---- operands

digit-letters : (ds : List ℕ) → Each IsDigit ds → Each IsLetter ds
digit-letters [] h = tt
digit-letters (d ∷ ds) h = ((omega (arith, h.0.0), omega (arith, h.0.1)), digit-letters ds h.1)

plain-decimal : (k n : ℕ) → 0 < k → n < 10 ^ k → n < 2 ^ 64 → IsPlain k (decimal n)
plain-decimal k n some short small = record { letters = digit-letters (decimal n) (decimal_digits n small); count = length-decimal-le k n some short small }

plain-register : (r : ℕ) → r < 32 → IsPlain 3 (register r)
unfolding are_letters
plain-register r h = plain-append 1 2 (codes "x") (decimal r) (plain-codes 1 (codes "x") refl refl) (plain-decimal 2 r (omega arith) (omega arith) (omega arith))

-- within 1 MiB
abbrev IsNear : ℤ → Type 0
IsNear z = (negsuc 1048575 ≤ℤ z) × (z ≤ℤ pos 1048575)

plain-signed : (z : ℤ) → IsNear z → IsPlain 8 (signed_decimal z)
plain-signed (pos n) h =
    let small : n < 1048576 = omega (arith, ints, h.1) in
    plain-more 7 8 (decimal n) (omega arith) (plain-decimal 7 n (omega arith) (omega arith) (omega arith))
plain-signed (negsuc n) h =
    let small : suc n ≤ 1048576 = omega (arith, ints, h.0) in
    let digits : IsPlain 7 (decimal (suc n)) = plain-decimal 7 (suc n) (omega arith) (omega arith) (omega arith) in
    record { letters = ((omega arith, omega arith), digits.letters); count = omega (arith, digits.count) }

hex-letter : (d : ℕ) → d < 16 → IsLetter (hex_digit d)
hex-letter d h = grind (arith, nat_tests)

hex_digit-letters : (ds : List ℕ) → Each IsHexDigit ds → Each IsLetter ds
hex_digit-letters [] h = tt
hex_digit-letters (d ∷ ds) h = (subst IsLetter h.0.is (hex-letter h.0.digit h.0.small), hex_digit-letters ds h.1)

length-hex_text : (k n : ℕ) → length (hex_text k n) ≡ k
length-hex_text zero n = refl
length-hex_text (suc k) n = length-append (hex_text k (n / 16)) (hex_digit (n % 16) ∷ []) ∙ ap (λ j. j + 1) (length-hex_text k (n / 16)) ∙ add-one k

plain-hex : (k n : ℕ) → IsPlain k (hex_text k n)
plain-hex k n = record { letters = hex_digit-letters (hex_text k n) (hex_letters k n); count = omega (arith, length-hex_text k n) }

plain-comma : (m n : ℕ) (xs ys : List ℕ) → IsPlain m xs → IsPlain n ys → IsPlain (m + (2 + n)) (xs ++ (codes ", " ++ ys))
unfolding are_letters
plain-comma m n xs ys p q = plain-append m (2 + n) xs (codes ", " ++ ys) p (plain-append 2 n (codes ", ") ys (plain-codes 2 (codes ", ") refl refl) q)

plain-address : (z : ℤ) (r : ℕ) → IsNear z → r < 32 → IsPlain 13 (signed_decimal z ++ (codes "(" ++ (register r ++ codes ")")))
unfolding are_letters
plain-address z r near h =
    plain-append 8 5 (signed_decimal z) (codes "(" ++ (register r ++ codes ")")) (plain-signed z near)
    (plain-append 1 4 (codes "(") (register r ++ codes ")") (plain-codes 1 (codes "(") refl refl)
    (plain-append 3 1 (register r) (codes ")") (plain-register r h) (plain-codes 1 (codes ")") refl refl)))

near-short : (z : ℤ) → IsShortOffset z → IsNear z
near-short (pos n) h = (omega (arith, ints, h.0), omega (arith, ints, h.1))
near-short (negsuc n) h = (omega (arith, ints, h.0), omega (arith, ints, h.1))

near-amount : (z : ℤ) → IsShiftAmount z → IsNear z
near-amount (pos n) h = (omega (arith, ints, h.0), omega (arith, ints, h.1))
near-amount (negsuc n) h = absurd (omega (arith, ints, h.0))

near-branch : (z : ℤ) → negsuc 4095 ≤ℤ z → z ≤ℤ pos 4095 → IsNear z
near-branch (pos n) low high = (omega (arith, ints), omega (arith, ints))
near-branch (negsuc n) low high = (omega (arith, ints), omega (arith, ints))

near-immediate : (shift : Bool) (z : ℤ) → MatchBool shift (IsShiftAmount z) (IsShortOffset z) → IsNear z
near-immediate true z h = near-amount z h
near-immediate false z h = near-short z h

plain-operands : (i : Instr) (w : ℕ) → IsInRange i → IsPlain 18 (operands i w)
plain-operands (Upper op rd imm) w h = plain-more 10 18 _ (omega arith) (plain-comma 3 5 (register rd) (hex_text 5 (imm / 2 ^ 12)) (plain-register rd h.0) (plain-hex 5 (imm / 2 ^ 12)))
plain-operands (Jal rd offset) w h = plain-more 13 18 _ (omega arith) (plain-comma 3 8 (register rd) (signed_decimal offset) (plain-register rd h.0) (plain-signed offset (h.1.0, h.1.1)))
plain-operands (Jalr rd rs1 offset) w h =
    plain-comma 3 13 (register rd) _ (plain-register rd h.0) (plain-comma 3 8 (register rs1) (signed_decimal offset) (plain-register rs1 h.1) (plain-signed offset (near-short offset h.2)))
plain-operands (Branch cond rs1 rs2 offset) w h =
    plain-comma 3 13 (register rs1) _ (plain-register rs1 h.0) (plain-comma 3 8 (register rs2) (signed_decimal offset) (plain-register rs2 h.1) (plain-signed offset (near-branch offset h.2.0 h.2.1)))
plain-operands (Load width rd rs1 offset) w h = plain-comma 3 13 (register rd) _ (plain-register rd h.0) (plain-address offset rs1 (near-short offset h.2) h.1)
plain-operands (Store width rs1 rs2 offset) w h = plain-comma 3 13 (register rs2) _ (plain-register rs2 h.1) (plain-address offset rs1 (near-short offset h.2) h.0)
plain-operands (OpImm op rd rs1 imm) w h =
    plain-comma 3 13 (register rd) _ (plain-register rd h.0) (plain-comma 3 8 (register rs1) (signed_decimal imm) (plain-register rs1 h.1) (plain-signed imm (near-immediate (is_shift op) imm h.2)))
plain-operands (Op op rd rs1 rs2) w h =
    plain-more 13 18 _ (omega arith) (plain-comma 3 8 (register rd) _ (plain-register rd h.0) (plain-comma 3 3 (register rs1) (register rs2) (plain-register rs1 h.1) (plain-register rs2 h.2)))
plain-operands Fence w h = plain-more 8 18 _ (omega arith) (plain-hex 8 w)
plain-operands Ecall w h = record { letters = tt; count = omega arith }
plain-operands Ebreak w h = record { letters = tt; count = omega arith }

plain-by : (o : Option Instr) (w : ℕ) → instr w ≡ o → IsPlain 18 (operands_by o w)
plain-by None w e = plain-more 8 18 (hex_text 8 w) (omega arith) (plain-hex 8 w)
plain-by (Some i) w e = plain-operands i w (table_in_range w i e)

pub plain-text : (w : ℕ) → IsPlain 25 (text_of w)
plain-text w = plain-append 7 18 (start_of (mnemonic_by (instr w))) (operands_by (instr w) w) (plain-start-by (instr w)) (plain-by (instr w) w refl)

-- ---- what this tells

letters-fed : (bs : List ℕ) → Each IsLetter bs → All (λ b. b ≢ 10) bs
letters-fed [] h k d l = absurd (omega arith)
letters-fed (b ∷ bs) h zero d l = λ e. omega (arith, h.0.0)
letters-fed (b ∷ bs) h (suc k) d l = letters-fed bs h.1 k d (omega arith)

letters-ascii : (bs : List ℕ) → Each IsLetter bs → IsAscii bs
letters-ascii [] h = IsAscii-nil
letters-ascii (b ∷ bs) h = IsAscii-cons b bs (omega (arith, h.0.1)) (letters-ascii bs h.1)

-- no line feed in it
pub text-fed : (w : ℕ) → All (λ b. b ≢ 10) (text_of w)
text-fed w = letters-fed (text_of w) (plain-text w).letters

pub text-utf8 : (w : ℕ) → IsUtf8 (text_of w)
text-utf8 w = IsUtf8-from_ascii (text_of w) (letters-ascii (text_of w) (plain-text w).letters)
