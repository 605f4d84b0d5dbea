-- The lines of all that differs in two states, of which the left one is the original's and the right one the fast
-- version's. Addresses and words are eight hexadecimal digits in lower case, bytes are two; other numbers are plain
-- decimal. Each line begins with two spaces and ends with a line feed, which has the code 10.
use Rattle.std.specs.Prelude.{ℕ, zero, suc, ◌-◌, ◌==◌, nat_lt, if◌then◌else◌, List, [], ◌∷◌, ◌++◌, length, take, codes, decimal}
use Rattle.std.specs.List.{flat_map}
use Rattle.guest_model.specs.ByteMap.{ByteMap, bytes_from}
use Rattle.guest_model.specs.Registers.{RegFile, reg}
use Rattle.guest_model.specs.MachineState.{MachineState}
use Rattle.report_text.specs.Texts.{byte_text, address_text}
use Rattle.report_text.specs.Reports.{named}
use Rattle.byte_runs.specs.Runs.{Span, differing, shown}

-- what differs, and how it is on both sides
abbrev pub pair_line : (name original fast : List ℕ) → List ℕ
pair_line name original fast = codes "  " ++ (name ++ (codes " original " ++ (original ++ (codes " fast " ++ (fast ++ 10 ∷ [])))))

-- no line where both are the same
abbrev pub unless_same : ℕ → ℕ → List ℕ → List ℕ
unless_same x y line = if x == y then [] else line

-- two words, or two addresses
abbrev pub word_line : List ℕ → ℕ → ℕ → List ℕ
word_line name x y = unless_same x y (pair_line name (address_text x) (address_text y))

-- ---- registers

-- the names of the registers in the calling convention of RISC-V: zero, ra, sp, gp, tp, t0 to t2, s0, s1, a0 to a7, s2
-- to s11, t3 to t6
abbrev pub convention_name : ℕ → List ℕ
convention_name r =
    if r == 0 then codes "zero" else (
    if r == 1 then codes "ra" else (
    if r == 2 then codes "sp" else (
    if r == 3 then codes "gp" else (
    if r == 4 then codes "tp" else (
    if nat_lt r 8 then codes "t" ++ decimal (r - 5) else (
    if nat_lt r 10 then codes "s" ++ decimal (r - 8) else (
    if nat_lt r 18 then codes "a" ++ decimal (r - 10) else (
    if nat_lt r 28 then codes "s" ++ decimal (r - 16) else
    codes "t" ++ decimal (r - 25)))))))))

-- a register by its number and its name
abbrev pub register_name : ℕ → List ℕ
register_name r = named (codes "x") r (codes " " ++ convention_name r)

abbrev pub register_line : RegFile → RegFile → ℕ → List ℕ
register_line f g r = word_line (register_name r) (reg f r) (reg g r)

-- x1 and those behind it up to this one
unfoldable pub registers_lines : RegFile → RegFile → ℕ → List ℕ
registers_lines f g zero = []
registers_lines f g (suc n) = registers_lines f g n ++ register_line f g (suc n)

-- ---- bytes

-- a run of bytes by its address and length, with its first bytes
abbrev pub bytes_line : (address length : ℕ) (original fast : List ℕ) → List ℕ
bytes_line address length original fast =
    pair_line (codes "bytes " ++ (address_text address ++ (codes " " ++ decimal length))) (flat_map byte_text original) (flat_map byte_text fast)

abbrev pub run_line : ByteMap → ByteMap → Span → List ℕ
run_line m n r = bytes_line r.address r.length (bytes_from m r.address (shown r.length)) (bytes_from n r.address (shown r.length))

-- how many runs are told by a line of their own
abbrev pub most_runs : ℕ
most_runs = 32

-- how many runs follow
abbrev pub more_line : ℕ → List ℕ
more_line zero = []
more_line (suc n) = codes "  more " ++ (decimal (suc n) ++ 10 ∷ [])

-- all runs of bytes that differ
unfoldable pub memory_lines : ByteMap → ByteMap → List ℕ
memory_lines m n = flat_map (run_line m n) (take most_runs (differing m n)) ++ more_line (length (differing m n) - most_runs)

-- ---- states

-- all differences, in the order in which states are compared
abbrev pub differences_lines : MachineState → MachineState → List ℕ
differences_lines a b =
    word_line (codes "pc") a.regs.pc b.regs.pc
    ++ (registers_lines a.regs b.regs 31
    ++ (unless_same a.place b.place (pair_line (codes "place") (decimal a.place) (decimal b.place))
    ++ (word_line (codes "break") a.heap.brk b.heap.brk
    ++ memory_lines a.memory b.memory)))
