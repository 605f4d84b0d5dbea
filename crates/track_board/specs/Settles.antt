-- What a board does by itself, and what it hands out
use Rattle.std.specs.Prelude.{◌≡◌, ℕ, zero, suc, false, List, [], ◌∷◌, Option, Some, None, option_map, length}
use Rattle.speculation.specs.declared.tracks.Name.{Name}
use Rattle.speculation.specs.declared.history.Entry.{Entry}
use Rattle.speculation.specs.declared.history.Entry.TheVariants as E
use Rattle.speculation.specs.Run.{Mark}
use Rattle.speculation.specs.Core.{Finished as CoreFinished, verified}
use Rattle.speculation.specs.Due.{Due as CoreDue, Finishing, Crossing, Judging, Forking, due}
use Rattle.speculation.specs.Serial.{entry_of}
use Rattle.guest_model.specs.MachineState.{MachineState}
use Rattle.guest_model.specs.declared.end.End.{End}
use Rattle.guest_model.specs.declared.difference.Difference.{Difference}
use Rattle.region_ledger.specs.Ledger.{core_finished, ledger_rows, judged}
use Rattle.region_ledger.specs.declared.finished.Finished.{Finished}
use Rattle.track_board.specs.declared.due.Due.{Due}
use Rattle.track_board.specs.declared.due.Due.TheVariants.{Finish, Cross, Judge, Fork}
use Rattle.track_board.specs.declared.outcome.Outcome.{Outcome}
use Rattle.track_board.specs.Value.{Posted, GuestCore, machine_of, core_of, posted}

-- ---- due events

-- the event that is due
abbrev pub due_of : Posted → Option (CoreDue MachineState End Difference)
due_of v = due (machine_of v) v.settings (core_of v)

-- what was found is what is due
abbrev pub IsDue : Option Due → Option (CoreDue MachineState End Difference) → Type 0
IsDue None None = Unit {0}
IsDue (Some (Finish f)) (Some (Finishing g)) = core_finished f ≡ g
IsDue (Some Cross) (Some Crossing) = Unit {0}
IsDue (Some (Judge j)) (Some (Judging v)) = judged (j.verdict, j.fast) ≡ v.judged
IsDue (Some Fork) (Some Forking) = Unit {0}
IsDue _ _ = ⊥

-- the due event is done
pub record Acted (v w : Posted) : Type 0 where
  pub event : CoreDue MachineState End Difference
  pub was : due_of v ≡ Some event
  pub now : w ≡ posted v (entry_of (core_of v) event)

-- so many due events are done, one after another
abbrev pub Settles : ℕ → Posted → Posted → Type 0
Settles zero v w = w ≡ v
Settles (suc n) v w = (u : Posted) × Settles n v u × Acted u w

-- the due event is done and this is its entry, or none is due
abbrev pub SettlesOne : Posted → Posted → Option Entry → Type 0
SettlesOne v w None = (w ≡ v) × (due_of v ≡ None)
SettlesOne v w (Some entry) = (w ≡ posted v entry) × ((event : CoreDue MachineState End Difference) × (due_of v ≡ Some event) × (entry ≡ entry_of (core_of v) event))

-- the name of the lead once it has opened a region
abbrev pub new_lead : GuestCore → Name
new_lead c = record { generation = c.generation; region = suc c.last; normal = false }

-- ---- output

-- the verified bytes that were not handed out
abbrev pub verified_of : Posted → List Mark
verified_of v = verified v.settings (core_of v)

-- these bytes are handed out, if there are any
abbrev pub released_with : Posted → List Mark → Posted
released_with v [] = v
released_with v (m ∷ ms) = posted v (E.Release (length (m ∷ ms)))

-- ---- outcome

-- the finish of the core, or none
abbrev pub finish_of : Option Finished → Option (CoreFinished End)
finish_of o = option_map core_finished o

-- copies of finish, rows and entries
pub record IsOutcome (v : Posted) (o : Outcome) : Type 0 where
  pub entries : o.entries ≡ v.entries
  pub rows : ledger_rows o.rows ≡ (core_of v).rows
  pub finish : finish_of o.finished ≡ (core_of v).finish
