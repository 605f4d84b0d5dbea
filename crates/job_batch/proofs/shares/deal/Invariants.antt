use Rattle.std.proofs.Common.{List}
use Rattle.std.specs.Prelude.{All}
use Rattle.atomic_table.specs.Seated.{TableId}
use Rattle.job_batch.specs.Parts.{IsPassAt, IsShare}
use Rattle.job_batch.proofs.shares.deal.Given as goal

abbrev pub invariant-loop-k : goal.invariant-loop-k
invariant-loop-k l =
    (locks : List TableId) → All (IsPassAt locks l.job) l.fn.passes.items → All (λ hand. All (IsShare locks) hand.items) l.fn.crew
    → All (IsPassAt locks l.job) l.passes.items × All (λ hand. All (IsShare locks) hand.items) l.crew
