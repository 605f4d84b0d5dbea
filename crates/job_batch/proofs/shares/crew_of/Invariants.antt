use Rattle.std.proofs.Common.{List}
use Rattle.std.specs.Prelude.{All}
use Rattle.atomic_table.specs.Seated.{TableId}
use Rattle.job_batch.specs.Parts.{IsShare}
use Rattle.job_batch.proofs.shares.crew_of.Given as goal

abbrev pub invariant-loop : goal.invariant-loop
invariant-loop l = (locks : List TableId) → All (λ hand. All (IsShare locks) hand.items) l.crew.items
