-- What a batch begins with
use Rattle.std.specs.Prelude.{ℕ, All}
use Rattle.job_batch.specs.declared.opening.Opened.{Opened}
use Rattle.job_batch.specs.Parts.{IsShare, IsLed, HasSeats}

pub record IsOpened (workers : ℕ) (o : Opened) : Type 0 where
  pub led : All (IsLed o.locks.items) o.jobs.items
  pub seats : All (HasSeats workers) o.jobs.items
  pub crew : All (λ hand. All (IsShare o.locks.items) hand.items) o.crew.items
