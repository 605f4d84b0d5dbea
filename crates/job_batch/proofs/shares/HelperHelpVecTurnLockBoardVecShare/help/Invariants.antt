use Rattle.std.specs.Prelude.{All}
use Rattle.job_batch.specs.Parts.{IsShare}
use Rattle.job_batch.proofs.shares.HelperHelpVecTurnLockBoardVecShare.help.Given as goal

abbrev pub invariant-loop : goal.invariant-loop
invariant-loop g l = All (IsShare l.locks.items) l.hand.items
