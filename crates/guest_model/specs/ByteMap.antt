-- Memory as a map from address to byte (RISC-V Unprivileged ISA, chapter "Introduction", "Memory": one
-- byte-addressed space of 2 ^ 32 bytes; little-endian)
use Rattle.std.specs.Prelude.{◌≡◌, ℕ, ◌+◌, ◌-◌, ◌^◌, Bool, true, false, ◌&&◌, nat_le, nat_lt, if◌then◌else◌, List, length, map, slice_index, Option, Some, None, Result, Ok, Err, is_some, unwrap_or, IsTrue, IsFalse}
use Rattle.std.specs.Int.{Width, byte_len, from_le_bytes}
use Rattle.std.specs.List.{list_all, range_with_len}
use Rattle.guest_model.specs.declared.memory.StoreFault.{StoreFault}
use Rattle.guest_model.specs.declared.memory.StoreFault.TheVariants.{Unmapped, NoMemory}

-- the byte at an address, none where the address is unmapped
abbrev pub ByteMap : Type 0
ByteMap = ℕ → Option ℕ

-- the byte, or 0 where none is
abbrev pub byte : ByteMap → ℕ → ℕ
byte m a = unwrap_or (m a) 0

-- each of the n addresses from a on is below 2 ^ 32 and has a byte
unfoldable pub mapped : ByteMap → ℕ → ℕ → Bool
mapped m a n = nat_le (a + n) (2 ^ 32) && list_all (λ k. is_some (m (a + k))) (range_with_len 0 n)

-- the bytes at a, a + 1 and so on
unfoldable pub bytes_from : ByteMap → ℕ → ℕ → List ℕ
bytes_from m a n = map (λ k. byte m (a + k)) (range_with_len 0 n)

-- a little-endian load: none where a byte is absent or where the range passes 2 ^ 32
unfoldable pub load : Width → ByteMap → ℕ → Option ℕ
load w m a =
    if mapped m a (byte_len w)
    then Some (from_le_bytes w (bytes_from m a (byte_len w)))
    else None

-- the map with the bytes from a on replaced
unfoldable pub write : ByteMap → ℕ → List ℕ → ByteMap
write m a bs = λ q. if nat_le a q && nat_lt q (a + length bs) then Some (slice_index bs (q - a)) else m q

-- What a store of these bytes at a answers and leaves: it is refused as unmapped exactly where a byte is, for want of
-- memory only where `refuses`, and a refusal changes no byte.
abbrev pub Stores : {A : Type 0} → Bool → ByteMap → ByteMap → ℕ → List ℕ → Result A StoreFault → Type 0
Stores refuses old new a bs (Ok _) = IsTrue (mapped old a (length bs)) × (new ≡ write old a bs)
Stores refuses old new a bs (Err Unmapped) = IsFalse (mapped old a (length bs)) × (new ≡ old)
Stores refuses old new a bs (Err NoMemory) = IsTrue refuses × IsTrue (mapped old a (length bs)) × (new ≡ old)

-- what a copy out of the bytes from a on answers and leaves in the buffer
abbrev pub CopiesOut : ByteMap → ℕ → List ℕ → List ℕ → Bool → Type 0
CopiesOut m a old new true = IsTrue (mapped m a (length old)) × (new ≡ bytes_from m a (length old))
CopiesOut m a old new false = IsFalse (mapped m a (length old)) × (new ≡ old)

-- What was written stays among the written addresses, and a byte outside of them is as it was.
pub record Keeps (written : ℕ → Bool) (old : ByteMap) (written' : ℕ → Bool) (new : ByteMap) : Type 0 where
  pub stays : (q : ℕ) → written q ≡ true → written' q ≡ true
  pub outside : (q : ℕ) → written' q ≡ false → new q ≡ old q
