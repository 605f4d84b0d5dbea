-- The memory that areas of bytes make
use Rattle.std.specs.Prelude.{◌≡◌, ℕ, suc, ◌+◌, ◌-◌, ◌%◌, ◌^◌, ◌≤◌, Bool, false, ◌&&◌, nat_le, nat_lt, List, [], ◌∷◌, length, slice_index, None, option_map, refl}
use Rattle.std.specs.List.{find, All, AllPairs}
use Rattle.std.proofs.Common.{arith}
use Rattle.std.proofs.lemmas.Bool.Decides.{nat_tests}
use Rattle.guest_model.specs.ByteMap.{ByteMap}
use Rattle.guest_model.specs.declared.areas.Area.{Area}

-- the address lies in the area
abbrev pub covers : Area → ℕ → Bool
covers x q = nat_le x.base q && nat_lt q (x.base + length x.bytes)

-- each address has the byte of the first area that covers it
abbrev pub areas_bytes : List Area → ByteMap
areas_bytes xs = λ q. option_map (λ x. slice_index x.bytes (q - x.base)) (find (λ x. covers x q) xs)

-- base and length are multiples of the page size, 4,096 bytes
pub record IsPageAligned (x : Area) : Type 0 where
  pub base : x.base % 4096 ≡ 0
  pub length : length x.bytes % 4096 ≡ 0

-- the first area ends where the second begins, or before
abbrev pub IsBelow : Area → Area → Type 0
IsBelow x y = x.base + length x.bytes ≤ y.base

abbrev pub IsWithinSpace : Area → Type 0
IsWithinSpace x = x.base + length x.bytes ≤ 2 ^ 32

-- areas that are page-aligned, rise without a common byte, and end at 2 ^ 32 at the latest
pub record IsLayout (xs : List Area) : Type 0 where
  pub aligned : All IsPageAligned xs
  pub rising : AllPairs IsBelow xs
  pub within : All IsWithinSpace xs

covers_nothing : (x : Area) (q : ℕ) → x.base + length x.bytes ≤ q → covers x q ≡ false
covers_nothing x q h = grind (arith, nat_tests)

-- no byte from 2 ^ 32 on
pub areas_bytes-bounded : (xs : List Area) (q : ℕ) → All IsWithinSpace xs → 2 ^ 32 ≤ q → areas_bytes xs q ≡ None
areas_bytes-bounded [] q h b = refl
areas_bytes-bounded (x ∷ xs) q h b =
    let e : covers x q ≡ false = covers_nothing x q (omega (arith, h 0 x (omega arith))) in
    let t : areas_bytes xs q ≡ None = areas_bytes-bounded xs q (λ k d l. h (suc k) d (omega arith)) b in
    grind (arith, nat_tests)
