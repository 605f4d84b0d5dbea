-- Where two machine states differ first
use Rattle.std.specs.Prelude.{ℕ, zero, suc, ◌^◌, Bool, true, false, not, ◌==◌, if◌then◌else◌, List, [], ◌∷◌, Option, Some, None, option_map}
use Rattle.guest_model.specs.ByteMap.{ByteMap}
use Rattle.guest_model.specs.Registers.{RegFile, reg}
use Rattle.guest_model.specs.MachineState.{MachineState}
use Rattle.guest_model.specs.declared.difference.Difference.{Difference}
use Rattle.guest_model.specs.declared.difference.Difference.TheVariants.{Pc, Register, Place, Break, Byte}

abbrev pub same_byte : Option ℕ → Option ℕ → Bool
same_byte (Some x) (Some y) = x == y
same_byte None None = true
same_byte _ _ = false

abbrev pub or_else : {A : Type 0} → Option A → Option A → Option A
or_else (Some x) o = Some x
or_else None o = o

-- the first that there is
abbrev pub first_some : {A : Type 0} → List (Option A) → Option A
first_some [] = None
first_some (o ∷ os) = or_else o (first_some os)

-- the least number below n that passes the test
unfoldable pub least : (ℕ → Bool) → ℕ → Option ℕ
least p zero = None
least p (suc n) = or_else (least p n) (if p n then Some n else None)

abbrev pub if_differs : Difference → ℕ → ℕ → Option Difference
if_differs d x y = if x == y then None else Some d

-- the least register whose values differ, and the lowest address whose bytes do
abbrev pub register_difference : RegFile → RegFile → Option ℕ
register_difference f g = least (λ r. not (reg f r == reg g r)) 32

abbrev pub byte_difference : ByteMap → ByteMap → Option ℕ
byte_difference m n = least (λ q. not (same_byte (m q) (n q))) (2 ^ 32)

-- pc, then x1 to x31 (x0 is 0 in both), then the place in the input, then the break, then the bytes
unfoldable pub difference : MachineState → MachineState → Option Difference
difference a b = first_some
    (if_differs Pc a.regs.pc b.regs.pc
    ∷ option_map Register (register_difference a.regs b.regs)
    ∷ if_differs Place a.place b.place
    ∷ if_differs Break a.heap.brk b.heap.brk
    ∷ option_map Byte (byte_difference a.memory b.memory)
    ∷ [])
