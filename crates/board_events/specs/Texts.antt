-- The lines of a journal: one for each entry of a history
use Rattle.std.specs.Prelude.{ℕ, ◌<◌, ◌^◌, Bool, true, false, List, ◌∷◌, ◌++◌, codes, decimal}
use Rattle.speculation.specs.declared.tracks.Name.{Name}
use Rattle.speculation.specs.declared.history.Entry.{Entry}
use Rattle.speculation.specs.declared.history.Entry.TheVariants.{Lend, Back, Gone, Fork, Cross, Keep, Discard, Release, Finish, Halt}

-- whether a track is a region's normal one, or a lead
abbrev pub kind_text : Bool → List ℕ
kind_text true = codes "n"
kind_text false = codes "f"

-- generation, region and kind, with a dot (46) between each two
abbrev pub name_text : Name → List ℕ
name_text n = decimal n.generation ++ (46 ∷ (decimal n.region ++ (46 ∷ kind_text n.normal)))

-- the words of a line
pub data Words : Type 0 where
  Word : List ℕ → Words
  WithOne : List ℕ → List ℕ → Words
  WithTwo : List ℕ → List ℕ → List ℕ → Words

-- words are parted by one space (32)
abbrev pub line_of : Words → List ℕ
line_of (Word w) = w
line_of (WithOne w a) = w ++ (32 ∷ a)
line_of (WithTwo w a b) = w ++ (32 ∷ (a ++ (32 ∷ b)))

abbrev pub words_of : Entry → Words
words_of (Lend seat name) = WithTwo (codes "lend") (decimal seat) (name_text name)
words_of (Back name count) = WithTwo (codes "back") (name_text name) (decimal count)
words_of (Gone name) = WithOne (codes "gone") (name_text name)
words_of (Fork name) = WithOne (codes "fork") (name_text name)
words_of (Cross name) = WithOne (codes "cross") (name_text name)
words_of (Keep row) = WithOne (codes "keep") (decimal row)
words_of (Discard row) = WithOne (codes "discard") (decimal row)
words_of (Release bytes) = WithOne (codes "release") (decimal bytes)
words_of Finish = Word (codes "finish")
words_of (Halt seat) = WithOne (codes "halt") (decimal seat)

-- the line of an entry, without its line feed
abbrev pub text_of : Entry → List ℕ
text_of e = line_of (words_of e)

-- the numbers of a name or an entry fit 64 bits, as they do in every value of the program

pub record NameFits (n : Name) : Type 0 where
  pub generation : n.generation < 2 ^ 64
  pub region : n.region < 2 ^ 64

abbrev pub EntryFits : Entry → Type 0
EntryFits (Lend seat name) = (seat < 2 ^ 64) × NameFits name
EntryFits (Back name count) = NameFits name × (count < 2 ^ 64)
EntryFits (Gone name) = NameFits name
EntryFits (Fork name) = NameFits name
EntryFits (Cross name) = NameFits name
EntryFits (Keep row) = row < 2 ^ 64
EntryFits (Discard row) = row < 2 ^ 64
EntryFits (Release bytes) = bytes < 2 ^ 64
EntryFits Finish = Unit {0}
EntryFits (Halt seat) = seat < 2 ^ 64
