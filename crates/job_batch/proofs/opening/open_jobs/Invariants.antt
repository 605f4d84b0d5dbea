use Rattle.std.proofs.Common.{◌≡◌, ◌++◌, length}
use Rattle.std.specs.Vec.Iter.{into_iter_items, into_iter_len}
use Rattle.job_batch.specs.Parts.{boards_of}
use Rattle.job_batch.specs.Opening.{IsOpened}
use Rattle.job_batch.proofs.opening.open_jobs.Given as goal

abbrev pub invariant-loop-board : goal.invariant-loop-board
invariant-loop-board l = record {
  left : l.yielded ++ into_iter_items l.board-iterator ≡ l.fn.boards.items;
  few : into_iter_len l.board-iterator ≡ length (into_iter_items l.board-iterator);
  opened : IsOpened l.workers l.all;
  boards : boards_of l.all.jobs.items ≡ l.yielded;
}
