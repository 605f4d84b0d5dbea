-- The program header table of a file whose header has no fault
use Rattle.std.specs.Prelude.{ℕ, ◌+◌, ◌*◌, ◌≤◌, List, length}
use Rattle.guest_model.specs.Segment.{e_phoff, e_phnum}

-- the file has an ELF header and 1 to 64 program headers
pub record HasTable (bs : List ℕ) : Type 0 where
  pub header : 52 ≤ length bs
  pub table : e_phoff bs + 32 * e_phnum bs ≤ length bs
  pub count : e_phnum bs ≤ 64
