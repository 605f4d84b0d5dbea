-- The history of a run with workers
use Rattle.std.specs.Prelude.{ℕ, zero, suc, ◌+◌, ◌<◌, List, [], ◌∷◌, IsSome}
use Rattle.speculation.specs.declared.history.Settings.{Settings}
use Rattle.speculation.specs.declared.history.Entry.{Entry}
use Rattle.speculation.specs.declared.history.Entry.TheVariants.{Lend}
use Rattle.speculation.specs.Machine.{Machine}
use Rattle.speculation.specs.Core.{Core}
use Rattle.speculation.specs.Law.{IsHistory}
use Rattle.speculation.specs.Serial.{IsSerial}
use Rattle.track_board.specs.Value.{Posted, machine_of, start_state}

-- each loan of these entries went to a seat below this number
abbrev pub SeatsBelow : ℕ → List Entry → Type 0
SeatsBelow most [] = Unit {0}
SeatsBelow most (Lend seat n ∷ xs) = (seat < most) × SeatsBelow most xs
SeatsBelow most (x ∷ xs) = SeatsBelow most xs

-- A legal history that has a finish, whose loans went to the conductor, at seat 0, and to workers, at seats up to their
-- number. There are many such histories, one for each order in which turns may come.
pub record IsWorked {S E D : Type 0} (workers : ℕ) (m : Machine S E D) (b : Settings) (start : S) (entries : List Entry) : Type 0 where
  pub core : Core S E D
  pub legal : IsHistory m b start entries core
  pub finished : IsSome core.finish
  pub seats : SeatsBelow (workers + 1) entries

-- the history of a run with so many workers: without workers it is the serial one
abbrev pub IsRunHistory : {S E D : Type 0} → ℕ → Machine S E D → Settings → S → List Entry → Type 0
IsRunHistory zero m b start entries = IsSerial m b start entries
IsRunHistory (suc n) m b start entries = IsWorked (suc n) m b start entries

-- a board has such a history
abbrev pub HasWorkedHistory : ℕ → Posted → Type 0
HasWorkedHistory workers w = IsWorked workers (machine_of w) w.settings (start_state w) w.entries

abbrev pub HasRunHistory : ℕ → Posted → Type 0
HasRunHistory workers w = IsRunHistory workers (machine_of w) w.settings (start_state w) w.entries
