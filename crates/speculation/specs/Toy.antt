-- A small machine, as an example: it adds, writes its total, and opens and closes regions.
use Rattle.std.specs.Prelude.{◌≡◌, ◌+◌, ◌%◌, Bool, true, false, not, List, [], ◌∷◌, Option, Some, None, if◌then◌else◌, nat_eq, slice_get}
use Rattle.speculation.specs.declared.toy.Instruction.{Instruction}
use Rattle.speculation.specs.declared.toy.Instruction.TheVariants.{Add, Write, Open, Branch, Close, Jump, Stop}
use Rattle.speculation.specs.declared.toy.State.{State}
use Rattle.speculation.specs.declared.toy.End.{End}
use Rattle.speculation.specs.declared.toy.End.TheVariants.{Stopped, NoInstruction}
use Rattle.speculation.specs.declared.toy.Difference.{Difference}
use Rattle.speculation.specs.declared.toy.Difference.TheVariants.{Place, Answer, Total}
use Rattle.speculation.specs.declared.toy.Written.{Written}
use Rattle.speculation.specs.declared.toy.Outcome.{Outcome}
use Rattle.speculation.specs.declared.toy.Outcome.TheVariants.{Next as NextState, Ends as EndsRun}
use Rattle.speculation.specs.declared.toy.Tally.{Tally}
use Rattle.speculation.specs.Machine.{Machine, Stepped, Next, Ends}
use Rattle.speculation.specs.Record.{Ran}

-- what the instruction at a state's place does, if there is one
abbrev pub executed : State → Option Instruction → Stepped State End
executed s None = Ends NoInstruction
executed s (Some (Add n)) = Next (record s { place = s.place + 1; total = (s.total + n) % 256 }) 1 []
executed s (Some (Write stream)) = Next (record s { place = s.place + 1 }) stream (s.total ∷ [])
executed s (Some Open) = Next (record s { place = s.place + 1; answer = false }) 1 []
executed s (Some (Branch target)) = Next (record s { place = (if s.answer then target else s.place + 1); answer = false }) 1 []
executed s (Some Close) = Next (record s { place = s.place + 1 }) 1 []
executed s (Some (Jump target)) = Next (record s { place = target }) 1 []
executed s (Some Stop) = Ends Stopped

abbrev pub is_open : Option Instruction → Bool
is_open (Some Open) = true
is_open _ = false

abbrev pub is_close : Option Instruction → Bool
is_close (Some Close) = true
is_close _ = false

-- the state after the opening call, answered by 1
abbrev pub answered : State → State
answered s = record s { place = s.place + 1; answer = true }

-- the first of place, answer and total in which two states differ
abbrev pub toy_difference : State → State → Option Difference
toy_difference a b =
    if nat_eq a.place b.place
    then (if (if a.answer then b.answer else not b.answer) then (if nat_eq a.total b.total then None else Some Total) else Some Answer)
    else Some Place

-- the machine of a program
abbrev pub toy : List Instruction → Machine State End Difference
toy program = record {
  step = λ s. executed s (slice_get program s.place);
  at_fast = λ s. is_open (slice_get program s.place);
  at_end = λ s. is_close (slice_get program s.place);
  answer_one = answered;
  pc = λ s. s.place;
  difference = toy_difference;
}

-- What the code's values mean

abbrev pub stepped_by : State → Option Written → Stepped State End
stepped_by s None = Next s 1 []
stepped_by s (Some w) = Next s w.stream (w.byte ∷ [])

abbrev pub stepped_of : Outcome → Stepped State End
stepped_of (NextState s written) = stepped_by s written
stepped_of (EndsRun e) = Ends e

-- the code's run tells end, last state and count of this one
pub record Tells (tally : Tally) (r : Ran State End) : Type 0 where
  pub end : tally.end ≡ r.end
  pub last : tally.last ≡ r.last
  pub count : tally.count ≡ r.count
