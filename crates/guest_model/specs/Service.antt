-- The services: what ECALL does, by the number in a7 (x17) and the arguments from a0 (x10) on. They are chosen after
-- Linux system calls and say nothing about Linux.
use Rattle.std.specs.Prelude.{ℕ, ◌+◌, ◌-◌, ◌^◌, Bool, ◌&&◌, ◌||◌, nat_le, ◌==◌, if◌then◌else◌, min, List, [], length, take, drop}
use Rattle.speculation.specs.Machine.{Stepped, Next, Ends}
use Rattle.guest_model.specs.ByteMap.{mapped, bytes_from, write}
use Rattle.guest_model.specs.Registers.{reg, next, with_pc, with_result}
use Rattle.guest_model.specs.MachineState.{MachineState}
use Rattle.guest_model.specs.declared.state.Heap.{Heap}
use Rattle.guest_model.specs.declared.end.End.{End}
use Rattle.guest_model.specs.declared.end.End.TheVariants.{Exit}

-- What one step gives: a next state with the stream and the bytes written, or an end. A step that writes nothing has
-- stream 1 and no bytes.
abbrev pub Outcome : Type 0
Outcome = Stepped MachineState End

-- the service goes on with this answer in a0
abbrev pub answer : MachineState → ℕ → Outcome
answer s v = Next (record s { regs = with_result s.regs 10 v }) 1 []

-- the words of the answers -9, -14 and -38
abbrev pub bad_descriptor : ℕ
bad_descriptor = 2 ^ 32 - 9

abbrev pub bad_address : ℕ
bad_address = 2 ^ 32 - 14

abbrev pub no_such_service : ℕ
no_such_service = 2 ^ 32 - 38

-- how many bytes a call with this count moves at most
abbrev pub cut : ℕ → ℕ
cut count = min count (2 ^ 20)

-- 63, read: the next bytes of the input, as many as there are up to the count
abbrev pub input_bytes : List ℕ → ℕ → ℕ → List ℕ
input_bytes input place count = take count (drop place input)

abbrev pub read_outcome : MachineState → ℕ → List ℕ → Outcome
read_outcome s a bs = answer (record s { memory = write s.memory a bs; place = s.place + length bs }) (length bs)

abbrev pub read_service : List ℕ → MachineState → ℕ → ℕ → ℕ → Outcome
read_service input s descriptor a count =
    if descriptor == 0 then
    (if cut count == 0 then answer s 0 else
    (if mapped s.memory a (cut count)
    then read_outcome s a (input_bytes input s.place (cut count))
    else answer s bad_address))
    else answer s bad_descriptor

-- 64, write: to stream 1 or 2
abbrev pub write_service : MachineState → ℕ → ℕ → ℕ → Outcome
write_service s stream a count =
    if stream == 1 || stream == 2 then
    (if cut count == 0 then answer s 0 else
    (if mapped s.memory a (cut count)
    then Next (record s { regs = with_result s.regs 10 (cut count) }) stream (bytes_from s.memory a (cut count))
    else answer s bad_address))
    else answer s bad_descriptor

-- 214, brk: the break moves where the address is in the heap or at its end; the answer is the break after that
abbrev pub is_in_heap : Heap → ℕ → Bool
is_in_heap h a = nat_le h.start a && nat_le a (h.start + h.size)

abbrev pub brk_service : MachineState → ℕ → Outcome
brk_service s a =
    if is_in_heap s.heap a
    then answer (record s { heap = record s.heap { brk = a } }) a
    else answer s s.heap.brk

-- The services by number. FastTrack, 2000, answers 1 where `fast` holds, else 0; EndDualTrack, 2001, keeps a0.
abbrev pub service_of : Bool → List ℕ → MachineState → ℕ → ℕ → ℕ → ℕ → Outcome
service_of fast input s number a0 a1 a2 =
    if number == 63 then read_service input s a0 a1 a2 else (
    if number == 64 then write_service s a0 a1 a2 else (
    if number == 93 || number == 94 then Ends (Exit a0) else (
    if number == 214 then brk_service s a0 else (
    if number == 2000 then answer s (if fast then 1 else 0) else (
    if number == 2001 then Next (record s { regs = with_pc s.regs (next s.regs) }) 1 [] else
    answer s no_such_service)))))

unfoldable pub service : Bool → List ℕ → MachineState → Outcome
service fast input s = service_of fast input s (reg s.regs 17) (reg s.regs 10) (reg s.regs 11) (reg s.regs 12)
