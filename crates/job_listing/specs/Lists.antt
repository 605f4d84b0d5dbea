-- The list of a batch: the file names of its images. It has 1 to 16 lines and at most 4,096 bytes. Each line is a name of 1
-- to 255 bytes in UTF-8, and ends with a line feed, which has the code 10.
use Rattle.std.specs.Prelude.{◌≡◌, ◌≢◌, ℕ, ◌≤◌, Bool, ◌&&◌, nat_le, ◌==◌, if◌then◌else◌, List, [], ◌∷◌, ◌++◌, length, map, All, Option, Some, None, option_map, option_and_then, Result, Ok, Err, Vec, String, string_bytes}
use Rattle.std.specs.List.{list_all}
use Rattle.std.specs.Str.{IsUtf8, is_utf8}
use Rattle.job_listing.specs.declared.names.ListFault.{ListFault}
use Rattle.job_listing.specs.declared.names.ListFault.TheVariants.{Form, NoMemory}

-- ---- lines

-- this byte before the first of the lines; none where there is no line
abbrev pub with_byte : ℕ → List (List ℕ) → Option (List (List ℕ))
with_byte b [] = None
with_byte b (line ∷ lines) = Some ((b ∷ line) ∷ lines)

-- the lines without their line feeds; none where bytes stand behind the last line feed
abbrev pub lines_in : List ℕ → Option (List (List ℕ))
lines_in [] = Some []
lines_in (b ∷ bytes) = if b == 10 then option_map (λ lines. [] ∷ lines) (lines_in bytes) else option_and_then (with_byte b) (lines_in bytes)

-- ---- names

abbrev pub is_name : List ℕ → Bool
is_name line = nat_le 1 (length line) && (nat_le (length line) 255 && is_utf8 line)

abbrev pub are_names : List (List ℕ) → Bool
are_names lines = nat_le 1 (length lines) && (nat_le (length lines) 16 && list_all is_name lines)

abbrev pub names_of : List (List ℕ) → Option (List (List ℕ))
names_of lines = if are_names lines then Some lines else None

-- the names in these bytes; none exactly where the bytes are no list
abbrev pub names_in : List ℕ → Option (List (List ℕ))
names_in bytes = if nat_le (length bytes) 4096 then option_and_then names_of (lines_in bytes) else None

-- what is answered of bytes that have these names: the names, or that there are none. Want of memory is free.
abbrev pub ReadsList : {A Z : Type 0} → Option (List (List ℕ)) → Result (Vec (String Z) A) ListFault → Type 0
ReadsList names (Ok v) = names ≡ Some (map string_bytes v.items)
ReadsList names (Err Form) = names ≡ None
ReadsList names (Err NoMemory) = Unit {0}

-- ---- the same the other way round: the list that is made of names

pub record IsName (name : List ℕ) : Type 0 where
  pub some : 1 ≤ length name
  pub few : length name ≤ 255
  pub utf8 : IsUtf8 name
  pub one_line : All (λ byte. byte ≢ 10) name

abbrev pub lines_of : List (List ℕ) → List ℕ
lines_of [] = []
lines_of (name ∷ names) = name ++ (10 ∷ lines_of names)

-- the bytes are the list of these names
pub record IsListOf (bytes : List ℕ) (names : List (List ℕ)) : Type 0 where
  pub each : All IsName names
  pub some : 1 ≤ length names
  pub few : length names ≤ 16
  pub short : length bytes ≤ 4096
  pub lines : bytes ≡ lines_of names
