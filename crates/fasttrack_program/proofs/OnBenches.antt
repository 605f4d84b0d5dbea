-- The image of every bench has no fault
use Rattle.std.proofs.Common.{◌≡◌, ℕ, zero, suc, ◌+◌, ◌*◌, ◌<◌, ◌≤◌, ◌^◌, true, false, List, [], ◌∷◌, ◌++◌, length, map, get_or, refl, subst, arith, Result, Ok, Err}
use Rattle.std.specs.Prelude.{◌==◌, if◌then◌else◌, ℤ, pos, negsuc, IsOkAnd}
use Rattle.std.specs.List.{flat_map, range_with_len}
use Rattle.guest_model.specs.Image.{Image, image}
use Rattle.guest_model.specs.ImageFault.{Fault}
use Rattle.guest_model.specs.declared.instr.Instr.{Instr}
use Rattle.guest_model.specs.declared.instr.Instr.TheVariants.{Jal, Branch, Store, Op}
use Rattle.guest_model.specs.declared.instr.Cond.TheVariants.{Ne}
use Rattle.guest_model.specs.declared.instr.RegOp.TheVariants as RegOps
use Rattle.guest_model.specs.declared.instr.StoreWidth.TheVariants.{W}
use Rattle.rv32_asm.specs.Constant.{lower_part}
use Rattle.rv32_asm.specs.Encoding.{encoding}
use Rattle.rv32_asm.specs.Generated.{addi, constant, call, opening, original, shortcut, endless, closing, versions, turns, kind, region, all_regions, prologue, epilogue, generated}
use Rattle.rv32_asm.proofs.Regions.{HasPieces, HasRegions, no_regions, more_regions, around_loads}
use Rattle.fasttrack_program.specs.Plan.{bench_image, bench_regions, unless_bad}

-- ---- the words of the instructions fit

abbrev AllFit : List Instr → Type 0
AllFit [] = Unit {0}
AllFit (i ∷ rest) = (encoding i < 2 ^ 32) × AllFit rest

fit-append : (xs ys : List Instr) → AllFit xs → AllFit ys → AllFit (xs ++ ys)
fit-append [] ys f g = g
fit-append (x ∷ xs) ys f g = (f.0, fit-append xs ys f.1 g)

fit-at : (xs : List Instr) → AllFit xs → (k : ℕ) → get_or (map encoding xs) k 0 < 2 ^ 32
fit-at [] f k = omega arith
fit-at (x ∷ xs) f zero = f.0
fit-at (x ∷ xs) f (suc k) = fit-at xs f.1 k

addi-fits : (rd rs1 : ℕ) (imm : ℤ) → rd < 32 → rs1 < 32 → encoding (addi rd rs1 imm) < 2 ^ 32
addi-fits rd rs1 imm d s = omega arith

branch-fits : (rs1 : ℕ) (offset : ℤ) → rs1 < 32 → encoding (Branch Ne rs1 0 offset) < 2 ^ 32
branch-fits rs1 offset s = omega arith

jump-fits : (offset : ℤ) → encoding (Jal 0 offset) < 2 ^ 32
jump-fits offset = omega arith

store-fits : (offset : ℤ) → encoding (Store W 9 8 offset) < 2 ^ 32
store-fits offset = omega arith

constant-fits : (rd value : ℕ) → rd < 32 → AllFit (constant rd value)
constant-fits rd value d = (omega arith, (addi-fits rd rd (lower_part value) d d, tt))

call-fits : (number : ℕ) → AllFit (call number)
call-fits number = (addi-fits 17 0 (pos number) (omega arith) (omega arith), (omega arith, tt))

opening-fits : AllFit opening
opening-fits = fit-append (call 2000) (Branch Ne 10 0 (pos 32) ∷ []) (call-fits 2000) (branch-fits 10 (pos 32) (omega arith), tt)

original-fits : (r : ℕ) (to_end : ℤ) → AllFit (original r to_end)
original-fits r to_end =
    fit-append (constant 5 r) (addi 10 0 (pos 0) ∷ addi 10 10 (pos 3) ∷ addi 5 5 (negsuc 0) ∷ Branch Ne 5 0 (negsuc 7) ∷ Jal 0 to_end ∷ []) (constant-fits 5 r (omega arith))
    (addi-fits 10 0 (pos 0) (omega arith) (omega arith), (addi-fits 10 10 (pos 3) (omega arith) (omega arith), (addi-fits 5 5 (negsuc 0) (omega arith) (omega arith), (branch-fits 5 (negsuc 7) (omega arith), (jump-fits to_end, tt)))))

shortcut-fits : (sum : ℕ) → AllFit (shortcut sum)
shortcut-fits sum = fit-append (constant 10 sum) (addi 5 0 (pos 0) ∷ Jal 0 (pos 4) ∷ []) (constant-fits 10 sum (omega arith)) (addi-fits 5 0 (pos 0) (omega arith) (omega arith), (jump-fits (pos 4), tt))

closing-fits : AllFit closing
closing-fits =
    let middle : List Instr = Op RegOps.Add 8 8 10 ∷ Store W 9 8 (pos 0) ∷ addi 10 0 (pos 1) ∷ addi 11 9 (pos 0) ∷ addi 12 0 (pos 4) ∷ [] in
    fit-append (call 2001 ++ middle) (call 64)
    (fit-append (call 2001) middle (call-fits 2001)
    (omega arith, (store-fits (pos 0), (addi-fits 10 0 (pos 1) (omega arith) (omega arith), (addi-fits 11 9 (pos 0) (omega arith) (omega arith), (addi-fits 12 0 (pos 4) (omega arith) (omega arith), tt))))))
    (call-fits 64)

versions-fit : (k r : ℕ) → AllFit (versions k r)
versions-fit k r =
    elim (k == 3) as (λ b. AllFit (if b then original r (pos 8) ++ endless else original r (pos 20) ++ shortcut (if k == 2 then 3 * r + 1 else 3 * r))) [
      | true ↦ fit-append (original r (pos 8)) endless (original-fits r (pos 8)) (jump-fits (pos 0), tt)
      | false ↦ fit-append (original r (pos 20)) (shortcut (if k == 2 then 3 * r + 1 else 3 * r)) (original-fits r (pos 20)) (shortcut-fits (if k == 2 then 3 * r + 1 else 3 * r))
    ]

region-fits : (number i : ℕ) → AllFit (region number i)
region-fits number i =
    let middle = versions (kind number i) (turns number i) in
    fit-append (opening ++ middle) closing (fit-append opening middle opening-fits (versions-fit (kind number i) (turns number i))) closing-fits

regions-fit : (number : ℕ) (is : List ℕ) → AllFit (flat_map (region number) is)
regions-fit number [] = tt
regions-fit number (i ∷ is) = fit-append (region number i) (flat_map (region number) is) (region-fits number i) (regions-fit number is)

all_regions-fit : (number n : ℕ) → AllFit (all_regions number n)
unfolding all_regions
all_regions-fit number n = regions-fit number (range_with_len 0 n)

prologue-fits : (buffer : ℕ) → AllFit (prologue buffer)
prologue-fits buffer = fit-append (constant 9 buffer) (addi 8 0 (pos 0) ∷ []) (constant-fits 9 buffer (omega arith)) (addi-fits 8 0 (pos 0) (omega arith) (omega arith), tt)

epilogue-fits : AllFit epilogue
epilogue-fits = (addi-fits 10 0 (pos 0) (omega arith) (omega arith), call-fits 93)

-- ---- the regions are short

regions_of : (number n : ℕ) → (words : List ℕ) × HasRegions number n words
regions_of number zero = ([], no_regions number)
regions_of number (suc n) =
    let before = regions_of number n in
    let words : List ℕ = before.0 ++ map encoding (region number n) in
    let at : n + 1 ≡ suc n = omega arith in
    (words, subst (λ m. HasRegions number m words) at (more_regions number n before.0 words before.1 refl))

length-regions : (number n : ℕ) → length (map encoding (all_regions number n)) ≤ 23 * n
length-regions number n = let got = regions_of number n in subst (λ (ws : List ℕ). length ws ≤ 23 * n) got.1.code got.1.short

-- ---- the image

is_ok : (r : Result Image Fault) (P : Image → Type 0) → IsOkAnd r P → (i : Image) × (unless_bad r ≡ Ok i)
is_ok (Ok i) P h = (i, refl)
is_ok (Err f) P h = absurd h

pub bench-loads : (number : ℕ) → (i : Image) × (bench_image number ≡ Ok i)
bench-loads number =
    let words : List ℕ = map encoding (all_regions number bench_regions) in
    let n : ℕ = 4 * (6 + length words) in
    let short : length words ≤ 23 * 64 = length-regions number 64 in
    let pieces : HasPieces n (map encoding (prologue (0x10000 + n))) words (map encoding epilogue) = record { front = refl; back = refl; count = refl } in
    is_ok (image (generated number bench_regions)) _
    (around_loads n (map encoding (prologue (0x10000 + n))) words (map encoding epilogue) (generated number bench_regions) pieces refl
    (fit-at (prologue (0x10000 + n)) (prologue-fits (0x10000 + n))) (fit-at (all_regions number bench_regions) (all_regions-fit number bench_regions)) (fit-at epilogue epilogue-fits) (omega arith))
