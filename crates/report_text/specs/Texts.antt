-- The words that all texts share: addresses and traps
use Rattle.std.specs.Prelude.{ℕ, ◌+◌, ◌/◌, ◌%◌, ◌^◌, if◌then◌else◌, nat_lt, List, [], ◌∷◌, ◌++◌, codes}
use Rattle.guest_model.specs.declared.end.Trap.{Trap}
use Rattle.guest_model.specs.declared.end.Trap.TheVariants.{Misaligned, FetchUnmapped, Illegal, Breakpoint, LoadUnmapped, StoreUnmapped}

-- a hexadecimal digit in lower case
abbrev pub hex_digit : ℕ → ℕ
hex_digit d = if nat_lt d 10 then 48 + d else 87 + d

-- a byte as two digits
abbrev pub byte_text : ℕ → List ℕ
byte_text b = hex_digit (b / 16) ∷ hex_digit (b % 16) ∷ []

-- a word as eight digits, the highest first
abbrev pub address_text : ℕ → List ℕ
address_text a = byte_text (a / 2 ^ 24 % 256) ++ (byte_text (a / 2 ^ 16 % 256) ++ (byte_text (a / 2 ^ 8 % 256) ++ byte_text (a % 256)))

abbrev pub trap_text : Trap → List ℕ
trap_text Misaligned = codes "misaligned"
trap_text FetchUnmapped = codes "fetch"
trap_text Illegal = codes "illegal"
trap_text Breakpoint = codes "breakpoint"
trap_text LoadUnmapped = codes "load"
trap_text StoreUnmapped = codes "store"
