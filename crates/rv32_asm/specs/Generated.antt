-- A program for benches: a row of regions, whose originals count down and whose fast versions are right (two of four),
-- wrong (one) and without end (one)
use Rattle.std.specs.Prelude.{ℕ, ◌+◌, ◌*◌, ◌%◌, ◌==◌, if◌then◌else◌, ℤ, pos, negsuc, List, [], ◌∷◌, ◌++◌, length, map}
use Rattle.std.specs.List.{flat_map, range_with_len}
use Rattle.guest_model.specs.declared.instr.Instr.{Instr}
use Rattle.guest_model.specs.declared.instr.Instr.TheVariants.{Upper, Jal, Branch, Store, OpImm, Op, Ecall}
use Rattle.guest_model.specs.declared.instr.UpperOp.TheVariants.{Lui}
use Rattle.guest_model.specs.declared.instr.Cond.TheVariants.{Ne}
use Rattle.guest_model.specs.declared.instr.StoreWidth.TheVariants.{W}
use Rattle.guest_model.specs.declared.instr.ImmOp.TheVariants as ImmOps
use Rattle.guest_model.specs.declared.instr.RegOp.TheVariants as RegOps
use Rattle.rv32_asm.specs.Constant.{upper_part, lower_part}
use Rattle.rv32_asm.specs.Encoding.{encoding}
use Rattle.rv32_asm.specs.SmallImage.{base, small_image}

-- ---- instructions; t0 is x5, s0 x8, s1 x9, a0 x10, a1 x11, a2 x12 and a7 x17

abbrev pub addi : ℕ → ℕ → ℤ → Instr
addi rd rs1 imm = OpImm ImmOps.Add rd rs1 imm

-- a number into a register
abbrev pub constant : ℕ → ℕ → List Instr
constant rd value = Upper Lui rd (upper_part value) ∷ addi rd rd (lower_part value) ∷ []

-- the service of this number
abbrev pub call : ℕ → List Instr
call number = addi 17 0 (pos number) ∷ Ecall ∷ []

-- ---- a region

-- how often the loop of region i turns
abbrev pub turns : ℕ → ℕ → ℕ
turns number i = 10000 + (number + 7 * i) % 64

-- the kind of region i, 0 to 3
abbrev pub kind : ℕ → ℕ → ℕ
kind number i = (number + i) % 4

-- the call that begins a region; where it answers other than 0, past the original
abbrev pub opening : List Instr
opening = call 2000 ++ Branch Ne 10 0 (pos 32) ∷ []

-- adds 3 to a0 in each turn, counting t0 down to 0, then goes to the end of the region
abbrev pub original : ℕ → ℤ → List Instr
original r to_end =
    constant 5 r
    ++ addi 10 0 (pos 0) ∷ addi 10 10 (pos 3) ∷ addi 5 5 (negsuc 0) ∷ Branch Ne 5 0 (negsuc 7) ∷ Jal 0 to_end ∷ []

-- the sum at once, t0 as the original leaves it, and to the end of the region
abbrev pub shortcut : ℕ → List Instr
shortcut sum = constant 10 sum ++ addi 5 0 (pos 0) ∷ Jal 0 (pos 4) ∷ []

-- a jump to itself
abbrev pub endless : List Instr
endless = Jal 0 (pos 0) ∷ []

-- the call that ends a region; then the sum so far is stored at s1 and written out
abbrev pub closing : List Instr
closing =
    call 2001
    ++ Op RegOps.Add 8 8 10 ∷ Store W 9 8 (pos 0) ∷ addi 10 0 (pos 1) ∷ addi 11 9 (pos 0) ∷ addi 12 0 (pos 4) ∷ []
    ++ call 64

-- the original, and the fast version behind it
abbrev pub versions : ℕ → ℕ → List Instr
versions k r =
    if k == 3 then original r (pos 8) ++ endless else
    original r (pos 20) ++ shortcut (if k == 2 then 3 * r + 1 else 3 * r)

abbrev pub region : ℕ → ℕ → List Instr
region number i = opening ++ versions (kind number i) (turns number i) ++ closing

-- ---- the program

unfoldable pub all_regions : ℕ → ℕ → List Instr
all_regions number regions = flat_map (region number) (range_with_len 0 regions)

-- the address of the buffer into s1, and 0 into s0
abbrev pub prologue : ℕ → List Instr
prologue buffer = constant 9 buffer ++ addi 8 0 (pos 0) ∷ []

-- exit with 0
abbrev pub epilogue : List Instr
epilogue = addi 10 0 (pos 0) ∷ call 93

-- the words of the program with these regions; the buffer of four bytes stands behind them, of which prologue and
-- epilogue have six
unfoldable pub words_around : List ℕ → List ℕ
words_around body = map encoding (prologue (base + 4 * (6 + length body))) ++ body ++ map encoding epilogue

abbrev pub generated_words : ℕ → ℕ → List ℕ
generated_words number regions = words_around (map encoding (all_regions number regions))

-- the buffer
abbrev pub zeros : List ℕ
zeros = 0 ∷ 0 ∷ 0 ∷ 0 ∷ []

abbrev pub generated : ℕ → ℕ → List ℕ
generated number regions = small_image (generated_words number regions) zeros
