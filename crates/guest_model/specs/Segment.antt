-- What an executable file says of its segments (System V ABI, chapter 4 "Object Files" and chapter 5 "Program
-- Loading", ELF32; all numbers are little-endian)
use Rattle.std.specs.Prelude.{ℕ, ◌+◌, ◌-◌, ◌*◌, ◌/◌, ◌^◌, Bool, ◌&&◌, nat_lt, nat_le, ◌==◌, if◌then◌else◌, List, map, slice_index}
use Rattle.std.specs.List.{range_with_len}

abbrev pub half_at : List ℕ → ℕ → ℕ
half_at bs i = slice_index bs i + slice_index bs (i + 1) * 2 ^ 8

abbrev pub word_at : List ℕ → ℕ → ℕ
word_at bs i = half_at bs i + half_at bs (i + 2) * 2 ^ 16

-- ---- fields of the ELF header

abbrev pub e_type : List ℕ → ℕ
e_type bs = half_at bs 16

abbrev pub e_machine : List ℕ → ℕ
e_machine bs = half_at bs 18

abbrev pub e_version : List ℕ → ℕ
e_version bs = word_at bs 20

abbrev pub e_entry : List ℕ → ℕ
e_entry bs = word_at bs 24

abbrev pub e_phoff : List ℕ → ℕ
e_phoff bs = word_at bs 28

abbrev pub e_phentsize : List ℕ → ℕ
e_phentsize bs = half_at bs 42

abbrev pub e_phnum : List ℕ → ℕ
e_phnum bs = half_at bs 44

-- ---- program headers

-- p_type, p_offset, p_vaddr, p_filesz and p_memsz of a program header
pub record Segment : Type 0 where
  pub kind : ℕ
  pub offset : ℕ
  pub address : ℕ
  pub file_size : ℕ
  pub memory_size : ℕ

-- the header that begins at this place of the file
abbrev pub segment_at : List ℕ → ℕ → Segment
segment_at bs i = record {
  kind = word_at bs i;
  offset = word_at bs (i + 4);
  address = word_at bs (i + 8);
  file_size = word_at bs (i + 16);
  memory_size = word_at bs (i + 20);
}

-- the program header table
abbrev pub segments : List ℕ → List Segment
segments bs = map (λ i. segment_at bs (e_phoff bs + 32 * i)) (range_with_len 0 (e_phnum bs))

-- PT_LOAD
abbrev pub is_load : Segment → Bool
is_load s = s.kind == 1

-- PT_DYNAMIC or PT_INTERP
abbrev pub is_dynamic : Segment → Bool
is_dynamic s = nat_le 2 s.kind && nat_le s.kind 3

-- a segment that is loaded and has a byte in memory
abbrev pub has_bytes : Segment → Bool
has_bytes s = is_load s && nat_lt 0 s.memory_size

-- where its bytes end in memory
abbrev pub end_of : Segment → ℕ
end_of s = s.address + s.memory_size

-- its first and its last page
abbrev pub first_page : Segment → ℕ
first_page s = s.address / 4096

abbrev pub last_page : Segment → ℕ
last_page s = (end_of s - 1) / 4096

-- how many pages it touches
abbrev pub page_count : Segment → ℕ
page_count s = if has_bytes s then last_page s + 1 - first_page s else 0

-- one of its bytes lies in this page
abbrev pub has_page : ℕ → Segment → Bool
has_page p s = has_bytes s && (nat_le (first_page s) p && nat_le p (last_page s))

-- the file gives its byte at this address
abbrev pub has_file_byte : ℕ → Segment → Bool
has_file_byte q s = is_load s && (nat_le s.address q && nat_lt q (s.address + s.file_size))
