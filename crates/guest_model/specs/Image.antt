-- The image of a file: its entry, the initial memory and the heap; and where a program starts
use Rattle.std.specs.Prelude.{ℕ, ◌+◌, ◌-◌, ◌*◌, ◌/◌, ◌^◌, Bool, ◌&&◌, ◌||◌, nat_lt, nat_le, ◌==◌, if◌then◌else◌, min, max, List, [], ◌∷◌, slice_index, Option, Some, None, Result, Ok, Err}
use Rattle.std.specs.List.{list_any, find}
use Rattle.speculation.specs.Record.{Ran, alone}
use Rattle.guest_model.specs.ByteMap.{ByteMap}
use Rattle.guest_model.specs.MachineState.{MachineState}
use Rattle.guest_model.specs.Registers.{start_regs}
use Rattle.guest_model.specs.Rv32.{rv32}
use Rattle.guest_model.specs.Segment.{Segment, segments, e_entry, has_bytes, has_page, has_file_byte, end_of}
use Rattle.guest_model.specs.ImageFault.{Fault, first_fault, stack_base, stack_end}
use Rattle.guest_model.specs.declared.state.Heap.{Heap}
use Rattle.guest_model.specs.declared.end.End.{End}

pub record Image : Type 0 where
  pub entry : ℕ
  pub memory : ByteMap
  pub heap : Heap

-- ---- the heap

-- the end of the segment that ends last, 0 where none has a byte
abbrev pub last_end : List Segment → ℕ
last_end [] = 0
last_end (s ∷ hs) = max (if has_bytes s then end_of s else 0) (last_end hs)

-- the least multiple of 4,096 at or above
abbrev pub page_up : ℕ → ℕ
page_up a = (a + 4095) / 4096 * 4096

-- where the heap ends at the latest: at the stack, or behind it at the end of the address space
abbrev pub heap_limit : ℕ → ℕ
heap_limit start = if nat_le start stack_base then stack_base else 2 ^ 32

-- the heap that starts here: 4 MiB, or as much as there is room for; the break is at its start
abbrev pub heap_from : ℕ → Heap
heap_from start = record { start = start; size = min 4194304 (heap_limit start - start); brk = start }

-- It starts behind the last segment. Where no segment has a byte, or the last one ends in the last page, it is empty.
abbrev pub heap_of : List Segment → Heap
heap_of hs =
    if last_end hs == 0 || page_up (last_end hs) == 2 ^ 32
    then record { start = 0; size = 0; brk = 0 }
    else heap_from (page_up (last_end hs))

-- ---- the initial memory

-- a page is mapped where a byte of a segment, of the stack or of the heap lies in it
abbrev pub is_mapped_page : List Segment → Heap → ℕ → Bool
is_mapped_page hs h p =
    list_any (has_page p) hs
    || (nat_le stack_base (p * 4096) && nat_lt (p * 4096) stack_end)
    || (nat_le h.start (p * 4096) && nat_lt (p * 4096) (h.start + h.size))

-- the file's byte where a segment has one at this address, else 0
abbrev pub byte_from : List ℕ → ℕ → Option Segment → ℕ
byte_from bs q None = 0
byte_from bs q (Some s) = slice_index bs (s.offset + (q - s.address))

abbrev pub initial_memory : List ℕ → List Segment → Heap → ByteMap
initial_memory bs hs h = λ q.
    if is_mapped_page hs h (q / 4096) then Some (byte_from bs q (find (has_file_byte q) hs)) else None

-- ---- the image

abbrev pub image_of : List ℕ → List Segment → Image
image_of bs hs = record {
  entry = e_entry bs;
  memory = initial_memory bs hs (heap_of hs);
  heap = heap_of hs;
}

abbrev pub image_unless : Option Fault → List ℕ → Result Image Fault
image_unless (Some f) bs = Err f
image_unless None bs = Ok (image_of bs (segments bs))

-- the first fault of a file, or the image that it holds
unfoldable pub image : List ℕ → Result Image Fault
image bs = image_unless (first_fault bs) bs

-- where the program of an image starts: the stack is empty, nothing of the input was read, and the break is at the
-- heap's start
abbrev pub start_of : Image → MachineState
start_of i = record { regs = start_regs i.entry; memory = i.memory; place = 0; heap = i.heap }

-- the program alone: the plain run from there within a budget of instructions
abbrev pub program_alone : Image → List ℕ → ℕ → Ran MachineState End
program_alone i input budget = alone (rv32 input) (start_of i) budget
