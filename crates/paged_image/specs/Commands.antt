-- The flat memories that a list of stores and snapshots leaves
use Rattle.std.specs.Prelude.{ℕ, zero, suc, ◌^◌, ◌<◌, if◌then◌else◌, List, [], ◌∷◌, ◌++◌, length, map, fold, slice_get, option_to_list}
use Rattle.std.specs.Int.{w16, w32, to_le_bytes}
use Rattle.guest_model.specs.ByteMap.{ByteMap, mapped, write}
use Rattle.paged_image.specs.Image.{content}
use Rattle.paged_image.specs.declared.image.PagedImage.{PagedImage}
use Rattle.paged_image.specs.declared.commands.command.Data.{Data}
use Rattle.paged_image.specs.declared.commands.command.Data.TheVariants.{Byte, Half, Word, Block}
use Rattle.paged_image.specs.declared.commands.command.Command.{Command}
use Rattle.paged_image.specs.declared.commands.command.Command.TheVariants.{Store, Snapshot}

abbrev pub contents : List PagedImage → List ByteMap
contents images = map content images

-- the bytes that are stored, the lowest first
abbrev pub bytes_of : Data → List ℕ
bytes_of (Byte v) = v ∷ []
bytes_of (Half v) = to_le_bytes w16 v
bytes_of (Word v) = to_le_bytes w32 v
bytes_of (Block bytes) = bytes

-- a flat memory after a store of these bytes: as before where one of the addresses is unmapped
abbrev pub stored : ByteMap → ℕ → List ℕ → ByteMap
stored m a bytes = if mapped m a (length bytes) then write m a bytes else m

-- the memories with one of them changed; as before where there is none of that number
abbrev pub change_at : List ByteMap → ℕ → (ByteMap → ByteMap) → List ByteMap
change_at [] i f = []
change_at (m ∷ ms) zero f = f m ∷ ms
change_at (m ∷ ms) (suc i) f = m ∷ change_at ms i f

-- one memory more, the same as that of number i
abbrev pub with_copy : List ByteMap → ℕ → List ByteMap
with_copy ms i = ms ++ option_to_list (slice_get ms i)

abbrev pub after_one : List ByteMap → Command → List ByteMap
after_one ms (Store image at data') = change_at ms image (λ m. stored m at (bytes_of data'))
after_one ms (Snapshot image) = with_copy ms image

-- the memories after all commands, in order
abbrev pub after : List Command → List ByteMap → List ByteMap
after commands ms = fold after_one ms commands

-- the bytes that a command stores are fewer than 2 ^ 32
abbrev pub IsShort : Command → Type 0
IsShort (Store image at data') = length (bytes_of data') < 2 ^ 32
IsShort (Snapshot image) = Unit {0}
