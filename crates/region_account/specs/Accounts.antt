-- What is told of a region whose fast version is not kept, by plain runs of both versions from the state s at its opening
-- call. Numbers are plain decimal, and addresses eight hexadecimal digits in lower case; each line begins with two spaces
-- and ends with a line feed, which has the code 10.
use Rattle.std.specs.Prelude.{ℕ, ◌*◌, nat_lt, if◌then◌else◌, List, [], ◌∷◌, ◌++◌, Option, Some, None, codes, decimal}
use Rattle.std.specs.Int.{w32}
use Rattle.speculation.specs.declared.tracks.Kind.TheVariants.{Normal, Fast}
use Rattle.speculation.specs.Tracks.{point, boundary, first_from, fast_count}
use Rattle.guest_model.specs.ByteMap.{load}
use Rattle.guest_model.specs.Registers.{RegFile}
use Rattle.guest_model.specs.MachineState.{MachineState}
use Rattle.guest_model.specs.InstructionTable.{instr}
use Rattle.guest_model.specs.Effect.{address}
use Rattle.guest_model.specs.Rv32.{rv32}
use Rattle.guest_model.specs.declared.end.End.{End}
use Rattle.guest_model.specs.declared.end.End.TheVariants.{Exit, Trap, Spent}
use Rattle.guest_model.specs.declared.instr.Instr.{Instr}
use Rattle.guest_model.specs.declared.instr.Instr.TheVariants.{Load, Store}
use Rattle.region_ledger.specs.declared.verdict.Verdict.{Verdict}
use Rattle.region_ledger.specs.declared.verdict.Verdict.TheVariants.{Kept}
use Rattle.report_text.specs.Texts.{address_text, trap_text}
use Rattle.report_text.specs.Reports.{named}
use Rattle.difference_text.specs.Differences.{differences_lines}

-- ---- the end of a fast version

-- the address that an instruction loads or stores
abbrev pub accessed_by : RegFile → Option Instr → Option ℕ
accessed_by f (Some (Load width rd rs1 offset)) = Some (address f rs1 offset)
accessed_by f (Some (Store width rs1 rs2 offset)) = Some (address f rs1 offset)
accessed_by f _ = None

abbrev pub instruction_of : Option ℕ → Option Instr
instruction_of None = None
instruction_of (Some word) = instr word

-- the address that the next instruction loads or stores, if it is one that does
unfoldable pub accessed : MachineState → Option ℕ
accessed s = accessed_by s.regs (instruction_of (load w32 s.memory s.regs.pc))

abbrev pub access_words : Option ℕ → List ℕ
access_words None = []
access_words (Some a) = codes " of " ++ address_text a

abbrev pub ending_words : End → List ℕ
ending_words (Exit code) = codes "exit " ++ decimal code
ending_words (Trap trap pc) = codes "trap " ++ (trap_text trap ++ (codes " at " ++ address_text pc))
ending_words Spent = codes "spent"

-- its k instructions ended the program in state t, in which a load or a store trapped if it is one
abbrev pub ended_line : MachineState → End → ℕ → List ℕ
ended_line t e k = codes "  fast version " ++ (ending_words e ++ named (codes " after ") k (access_words (accessed t) ++ 10 ∷ []))

-- ---- a fast version

abbrev pub late_line : ℕ → List ℕ
late_line k = named (codes "  fast version at its end after ") k (10 ∷ [])

abbrev pub running_line : ℕ → List ℕ
running_line k = named (codes "  fast version still running after ") k (10 ∷ [])

-- It closes the region after k instructions, and its original does so after n: all that differs then, and before it that
-- it took more instructions, where it did.
abbrev pub closed_lines : List ℕ → MachineState → (n k : ℕ) → List ℕ
closed_lines input s n k =
    (if nat_lt n k then late_line k else [])
    ++ differences_lines (point (rv32 input) Normal s n).state (point (rv32 input) Fast s k).state

-- It doesn't close the region: the end that it met in state t, or none, after k instructions.
abbrev pub unclosed_line : MachineState → Option End → ℕ → List ℕ
unclosed_line t (Some e) k = ended_line t e k
unclosed_line t None k = running_line k

-- run for at most `limit` instructions, by the least count at which it closes the region
abbrev pub lines_by : List ℕ → MachineState → (n limit : ℕ) → Option ℕ → List ℕ
lines_by input s n limit (Some k) = closed_lines input s n k
lines_by input s n limit None = unclosed_line (point (rv32 input) Fast s limit).state (point (rv32 input) Fast s limit).end (fast_count (rv32 input) s limit)

unfoldable pub fast_lines : List ℕ → MachineState → (n limit : ℕ) → List ℕ
fast_lines input s n limit = lines_by input s n limit (first_from (boundary (rv32 input) Fast s) 1 limit)

-- ---- a region

-- how many times the instructions of its original a fast version may take before it is given up
abbrev pub patience : ℕ
patience = 16

-- the lines under the row with this verdict, of a region whose original takes n instructions
abbrev pub account_lines : List ℕ → MachineState → ℕ → Verdict → List ℕ
account_lines input s n Kept = []
account_lines input s n verdict = fast_lines input s n (patience * n)
