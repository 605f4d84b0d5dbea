use Rattle.std.proofs.Common.{◌≡◌, length}
use Rattle.track_board.specs.Owners.{program_of}
use Rattle.journal_check.specs.Replays.{IsFollowing, HasRead}
use Rattle.journal_check.proofs.checking.follow_lines.Given as goal

abbrev pub invariant-loop-rest : goal.invariant-loop-rest
invariant-loop-rest l = record {
  on : IsFollowing l.replay;
  read : HasRead (program_of l.fn.replay.board) l.journal l.rest l.replay.board;
  lines : l.lines ≡ length l.replay.board.entries;
}

abbrev pub decreases-loop-rest : goal.decreases-loop-rest
decreases-loop-rest l = length l.rest
