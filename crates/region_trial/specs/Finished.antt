-- How a program finishes whose track stands at some place
use Rattle.std.specs.Prelude.{ℕ, Option, Some, None}
use Rattle.guest_model.specs.declared.end.End.TheVariants.{Spent}
use Rattle.region_ledger.specs.declared.finished.Finished.{Finished}
use Rattle.region_trial.specs.declared.running.Reached.{Reached}
use Rattle.region_trial.specs.declared.running.Reached.TheVariants.{Boundary, Ended, Limit}

abbrev pub finished_at : Reached → ℕ → Option Finished
finished_at Boundary count = None
finished_at (Ended e) count = Some (record { end = e; count = count })
finished_at Limit count = Some (record { end = Spent; count = count })
