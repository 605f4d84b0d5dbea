-- Why a file is no image of a guest: the first of these faults, in this order; in a fault that names headers, the
-- least places in the program header table
use Rattle.std.specs.Prelude.{ℕ, ◌+◌, ◌*◌, ◌/◌, ◌%◌, ◌^◌, Bool, ◌&&◌, ◌||◌, not, nat_lt, nat_le, ◌==◌, if◌then◌else◌, List, [], ◌∷◌, length, slice_index, Option, Some, None, is_some, option_map, option_and_then}
use Rattle.std.specs.List.{list_any, sum_by}
use Rattle.std.specs.Prelude.{slice_index_or}
use Rattle.guest_model.specs.Difference.{least, first_some}
use Rattle.guest_model.specs.Segment as elf
use Rattle.guest_model.specs.Segment.{Segment, segments, is_load, is_dynamic, has_bytes, has_page, end_of, page_count}

pub data Fault : Type 0 where
  Short : Fault
  Magic : Fault
  Class : Fault
  ByteOrder : Fault
  Version : Fault
  Kind : Fault
  Machine : Fault
  Headers : Fault
  Dynamic : ℕ → Fault
  BadSegment : ℕ → Fault
  Overlap : ℕ → ℕ → Fault
  StackOverlap : ℕ → Fault
  TooLarge : Fault
  Entry : Fault

-- the stack: 256 pages below 2 ^ 31
abbrev pub stack_base : ℕ
stack_base = 0x7FF00000

abbrev pub stack_end : ℕ
stack_end = 0x80000000

abbrev pub fault_if : Bool → Fault → Option Fault
fault_if b f = if b then Some f else None

-- the header that the table has at place i
abbrev pub nth : List Segment → ℕ → Segment
nth hs i = slice_index_or hs i (record { kind = 0; offset = 0; address = 0; file_size = 0; memory_size = 0 })

-- the least place in the table at which the test holds
abbrev pub first_place : (ℕ → Bool) → List Segment → Option ℕ
first_place test hs = least test (length hs)

-- ---- the tests

abbrev pub lacks_magic : List ℕ → Bool
lacks_magic bs = not (slice_index bs 0 == 0x7F && slice_index bs 1 == 0x45 && slice_index bs 2 == 0x4C && slice_index bs 3 == 0x46)

abbrev pub lacks_version : List ℕ → Bool
lacks_version bs = not (slice_index bs 6 == 1 && elf.e_version bs == 1)

-- the table has another entry size, no entry or more than 64, or passes the file's end
abbrev pub has_bad_table : List ℕ → Bool
has_bad_table bs =
    not (elf.e_phentsize bs == 32) || elf.e_phnum bs == 0 || nat_lt 64 (elf.e_phnum bs)
    || nat_lt (length bs) (elf.e_phoff bs + 32 * elf.e_phnum bs)

-- less memory than file bytes, file bytes past the file's end, or memory past 2 ^ 32
abbrev pub is_bad : ℕ → Segment → Bool
is_bad file_length s =
    is_load s
    && (nat_lt s.memory_size s.file_size
    || (nat_lt 0 s.file_size && nat_lt file_length (s.offset + s.file_size))
    || nat_lt (2 ^ 32) (end_of s))

-- two ranges, each from a first address up to an end, have a common address
abbrev pub ranges_meet : ℕ → ℕ → ℕ → ℕ → Bool
ranges_meet a a' b b' = nat_lt a a' && nat_lt b b' && nat_lt a b' && nat_lt b a'

-- both are loaded, and share a byte address
abbrev pub overlap : Segment → Segment → Bool
overlap s t = is_load s && is_load t && ranges_meet s.address (end_of s) t.address (end_of t)

abbrev pub overlaps_stack : Segment → Bool
overlaps_stack s = is_load s && ranges_meet s.address (end_of s) stack_base stack_end

-- the first place behind i whose segment shares an address with that at i
abbrev pub first_overlap : List Segment → ℕ → Option ℕ
first_overlap hs i = first_place (λ j. nat_lt i j && overlap (nth hs i) (nth hs j)) hs

-- the pages of the segments one by one, with the stack's, are more than 8,192
abbrev pub is_too_large : List Segment → Bool
is_too_large hs = nat_lt 8192 (sum_by page_count hs + 256)

-- the entry is a multiple of 4 in a page of a segment or of the stack
abbrev pub is_entry : List Segment → ℕ → Bool
is_entry hs a = a % 4 == 0 && (list_any (has_page (a / 4096)) hs || (nat_le stack_base a && nat_lt a stack_end))

-- ---- the faults in their order

abbrev pub header_faults : List ℕ → List (Option Fault)
header_faults bs =
    (fault_if (nat_lt (length bs) 52) Short
    ∷ fault_if (lacks_magic bs) Magic
    ∷ fault_if (not (slice_index bs 4 == 1)) Class
    ∷ fault_if (not (slice_index bs 5 == 1)) ByteOrder
    ∷ fault_if (lacks_version bs) Version
    ∷ fault_if (not (elf.e_type bs == 2)) Kind
    ∷ fault_if (not (elf.e_machine bs == 243)) Machine
    ∷ fault_if (has_bad_table bs) Headers
    ∷ [])

abbrev pub segment_faults : ℕ → ℕ → List Segment → List (Option Fault)
segment_faults file_length entry hs =
    (option_map Dynamic (first_place (λ i. is_dynamic (nth hs i)) hs)
    ∷ option_map BadSegment (first_place (λ i. is_bad file_length (nth hs i)) hs)
    ∷ option_and_then (λ i. option_map (Overlap i) (first_overlap hs i)) (first_place (λ i. is_some (first_overlap hs i)) hs)
    ∷ option_map StackOverlap (first_place (λ i. overlaps_stack (nth hs i)) hs)
    ∷ fault_if (is_too_large hs) TooLarge
    ∷ fault_if (not (is_entry hs entry)) Entry
    ∷ [])

abbrev pub header_fault : List ℕ → Option Fault
header_fault bs = first_some (header_faults bs)

abbrev pub segment_fault : List ℕ → Option Fault
segment_fault bs = first_some (segment_faults (length bs) (elf.e_entry bs) (segments bs))

-- the first fault of a file
unfoldable pub first_fault : List ℕ → Option Fault
first_fault bs = first_some (header_fault bs ∷ segment_fault bs ∷ [])
