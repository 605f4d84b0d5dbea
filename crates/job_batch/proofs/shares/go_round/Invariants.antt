use Rattle.std.specs.Prelude.{All}
use Rattle.job_batch.specs.Parts.{IsShare}
use Rattle.job_batch.proofs.shares.go_round.Given as goal

abbrev pub invariant-loop-share : goal.invariant-loop-share
invariant-loop-share g l = All (IsShare l.locks) l.share-items
