-- Three whole histories of the toy machine: one region kept, one discarded with a loan that was dropped, and one late.
use Rattle.std.specs.Prelude.{ℕ, true, false, List, [], ◌∷◌, Option, Some, None}
use Rattle.speculation.specs.declared.tracks.Name.{Name}
use Rattle.speculation.specs.declared.tracks.OpenLoan.{OpenLoan}
use Rattle.speculation.specs.declared.history.Settings.{Settings}
use Rattle.speculation.specs.declared.history.Entry.{Entry}
use Rattle.speculation.specs.declared.history.Entry.TheVariants.{Lend, Back, Fork, Cross, Keep, Discard, Release, Finish}
use Rattle.speculation.specs.declared.toy.Instruction.{Instruction}
use Rattle.speculation.specs.declared.toy.Instruction.TheVariants.{Add, Write, Open, Branch, Close, Jump, Stop}
use Rattle.speculation.specs.declared.toy.State.{State}
use Rattle.speculation.specs.declared.toy.End.{End}
use Rattle.speculation.specs.declared.toy.End.TheVariants.{Stopped}
use Rattle.speculation.specs.declared.toy.Difference.{Difference}
use Rattle.speculation.specs.declared.toy.Difference.TheVariants.{Total}
use Rattle.speculation.specs.Run.{Mark}
use Rattle.speculation.specs.Verdicts.{Kept, Differs, Late}
use Rattle.speculation.specs.Ledger.{Row}
use Rattle.speculation.specs.Core.{Core, Finished, opening}

abbrev pub at_start : State
at_start = record { place = 0; answer = false; total = 0 }

-- the core before any entry
abbrev pub opened : Option (Core State End Difference)
opened = Some (opening at_start)

-- the names of the lead and of an original, by generation and region
abbrev pub fast_name : ℕ → ℕ → Name
fast_name generation region = record { generation = generation; region = region; normal = false }

abbrev pub slow_name : ℕ → ℕ → Name
slow_name generation region = record { generation = generation; region = region; normal = true }

-- What a core tells of its history: how it ended, its rows, what was released, and the names of the loans that are left.
pub record Outcome : Type 0 where
  pub finish : Option (Finished End)
  pub rows : List (Row Difference)
  pub released : List Mark
  pub open_loans : List Name

abbrev pub names_of : List OpenLoan → List Name
names_of [] = []
names_of (l ∷ ls) = l.name ∷ names_of ls

abbrev pub outcome_of : Option (Core State End Difference) → Option Outcome
outcome_of None = None
outcome_of (Some c) = Some (record { finish = c.finish; rows = c.rows; released = c.released; open_loans = names_of c.loans })

abbrev pub written : ℕ → ℕ → Mark
written stream byte = record { stream = stream; byte = byte }

-- A region whose versions add 2 twice, or 4 at once.

abbrev pub kept_program : List Instruction
kept_program = Add 5 ∷ Open ∷ Branch 6 ∷ Add 2 ∷ Add 2 ∷ Jump 7 ∷ Add 4 ∷ Close ∷ Write 1 ∷ Stop ∷ []

abbrev pub kept_settings : Settings
kept_settings = record { tracks = 4; budget = 100 }

-- the serial history
abbrev pub kept_history : List Entry
kept_history = Lend 0 (fast_name 0 0) ∷ Back (fast_name 0 0) 1 ∷ Fork (fast_name 0 1)
    ∷ Lend 0 (slow_name 0 1) ∷ Back (slow_name 0 1) 5 ∷ Lend 0 (fast_name 0 1) ∷ Back (fast_name 0 1) 3 ∷ Cross (fast_name 0 1) ∷ Keep 0
    ∷ Lend 0 (fast_name 0 1) ∷ Back (fast_name 0 1) 3 ∷ Finish ∷ Release 1 ∷ []

abbrev pub kept_outcome : Option Outcome
kept_outcome = Some (record {
  finish = Some (record { end = Some Stopped; count = 9 });
  rows = record { number = 0; at = 1; pc = 1; original = 5; judged = record { verdict = Kept; fast = 3 } } ∷ [];
  released = written 1 9 ∷ [];
  open_loans = [];
})

-- A region whose fast version adds 5 in place of 4, and a second region behind it.

abbrev pub dropped_program : List Instruction
dropped_program = Add 5 ∷ Open ∷ Branch 6 ∷ Add 2 ∷ Add 2 ∷ Jump 7 ∷ Add 5 ∷ Close ∷ Write 1 ∷ Open ∷ Branch 11 ∷ Close ∷ Stop ∷ []

abbrev pub dropped_settings : Settings
dropped_settings = record { tracks = 2; budget = 50 }

-- The second region's original is lent to seat 2 when the first region is discarded, and comes home after the finish.
abbrev pub dropped_history : List Entry
dropped_history = Lend 1 (fast_name 0 0) ∷ Back (fast_name 0 0) 1 ∷ Fork (fast_name 0 1)
    ∷ Lend 1 (fast_name 0 1) ∷ Back (fast_name 0 1) 3 ∷ Cross (fast_name 0 1) ∷ Lend 1 (fast_name 0 1) ∷ Back (fast_name 0 1) 2 ∷ Fork (fast_name 0 2)
    ∷ Lend 2 (slow_name 0 2) ∷ Lend 1 (slow_name 0 1) ∷ Back (slow_name 0 1) 5 ∷ Discard 0
    ∷ Lend 1 (fast_name 1 0) ∷ Back (fast_name 1 0) 2 ∷ Fork (fast_name 1 1) ∷ Release 1
    ∷ Lend 1 (slow_name 1 1) ∷ Back (slow_name 1 1) 2 ∷ Lend 1 (fast_name 1 1) ∷ Back (fast_name 1 1) 2 ∷ Cross (fast_name 1 1) ∷ Keep 1
    ∷ Lend 1 (fast_name 1 1) ∷ Back (fast_name 1 1) 2 ∷ Finish ∷ []

abbrev pub dropped_rows : List (Row Difference)
dropped_rows =
    record { number = 0; at = 1; pc = 1; original = 5; judged = record { verdict = Differs Total; fast = 3 } }
    ∷ record { number = 1; at = 8; pc = 9; original = 2; judged = record { verdict = Kept; fast = 2 } } ∷ []

-- the outcome, by the loans that are left
abbrev pub dropped_outcome : List Name → Option Outcome
dropped_outcome loans = Some (record {
  finish = Some (record { end = Some Stopped; count = 12 });
  rows = dropped_rows;
  released = written 1 9 ∷ [];
  open_loans = loans;
})

-- A region whose fast version never closes it.

abbrev pub late_program : List Instruction
late_program = Open ∷ Branch 4 ∷ Add 1 ∷ Jump 6 ∷ Add 2 ∷ Jump 4 ∷ Close ∷ Write 2 ∷ Stop ∷ []

abbrev pub late_settings : Settings
late_settings = record { tracks = 1; budget = 20 }

-- the serial history
abbrev pub late_history : List Entry
late_history = Fork (fast_name 0 1) ∷ Lend 0 (slow_name 0 1) ∷ Back (slow_name 0 1) 4 ∷ Lend 0 (fast_name 0 1) ∷ Back (fast_name 0 1) 20 ∷ Discard 0
    ∷ Lend 0 (fast_name 1 0) ∷ Back (fast_name 1 0) 3 ∷ Finish ∷ Release 1 ∷ []

abbrev pub late_outcome : Option Outcome
late_outcome = Some (record {
  finish = Some (record { end = Some Stopped; count = 7 });
  rows = record { number = 0; at = 0; pc = 0; original = 4; judged = record { verdict = Late; fast = 4 } } ∷ [];
  released = written 2 1 ∷ [];
  open_loans = [];
})
